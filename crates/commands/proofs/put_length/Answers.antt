-- `put_length` meets its contract. Assumes nothing.
use Rattle.commands.proofs.Heads.{puts_short, puts_long}
use Rattle.commands.proofs.put_length.Goals as goal

pub returns-then-n-lt128 : goal.returns-then-n-lt128
returns-then-n-lt128 c = puts_short c.if-n-lt128.true c.put.ensures

pub returns-else-n-lt128 : goal.returns-else-n-lt128
returns-else-n-lt128 c = puts_long c.if-n-lt128.false c.put-else-n-lt128.ensures
