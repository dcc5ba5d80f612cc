-- `write_off` meets its contract. Assumes nothing.
use borrow.Author.Rules.{rules}
use Rattle.writing.proofs.PutLaws.{puts_front}
use Rattle.commands.proofs.Whole.{puts_off}
use Rattle.commands.proofs.write_off.Goals as goal

pub returns : goal.returns
returns c = puts_front c.new-out.ensures.untouched c.new-out.ensures.front (puts_off c.put.ensures) (search rules)
