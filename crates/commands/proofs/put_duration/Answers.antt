-- `put_duration` meets its contract: in seconds, or in minutes.
-- Assumes nothing.
use Rattle.commands.proofs.Whole.{puts_seconds, puts_minutes}
use Rattle.commands.proofs.put_duration.Goals as goal

pub returns-then-seconds-le255 : goal.returns-then-seconds-le255
returns-then-seconds-le255 c = puts_seconds _ c.if-seconds-le255.true c.put.ensures

pub returns-else-seconds-le255 : goal.returns-else-seconds-le255
returns-else-seconds-le255 c = puts_minutes _ c.if-seconds-le255.false c.put-else-seconds-le255.ensures
