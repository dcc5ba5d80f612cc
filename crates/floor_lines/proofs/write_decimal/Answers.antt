-- `floor_lines::write_decimal` meets its contract. Assumes nothing.
use borrow.Author.Rules.{rules}
use Rattle.writing.proofs.PutLaws.{puts_front, room_front}
use Rattle.floor_lines.proofs.write_decimal.Goals as goal

pub put_decimal-requires : goal.put_decimal-requires
put_decimal-requires c = room_front c.new-out.result c.new-out.ensures.untouched c.new-out.ensures.front c.requires

pub returns : goal.returns
returns c = puts_front c.new-out.ensures.untouched c.new-out.ensures.front c.put_decimal.ensures (search rules)
