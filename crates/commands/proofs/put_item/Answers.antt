-- `put_item` meets its contract. Assumes nothing.
use Rattle.commands.proofs.Heads.{puts_item}
use Rattle.commands.proofs.put_item.Goals as goal

pub returns : goal.returns
returns c = puts_item c.put.ensures c.put-2.ensures c.requires.1
