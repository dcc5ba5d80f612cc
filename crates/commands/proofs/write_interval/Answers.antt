-- `write_interval` meets its contract. Assumes nothing.
use borrow.Author.Rules.{rules}
use Rattle.writing.proofs.PutLaws.{puts_front, room_front}
use Rattle.commands.proofs.Whole.{puts_interval}
use Rattle.commands.proofs.write_interval.Goals as goal

pub returns : goal.returns
returns c =
    let room = room_front c.new-out.result c.new-out.ensures.untouched c.new-out.ensures.front c.requires.1 in
    puts_front c.new-out.ensures.untouched c.new-out.ensures.front (puts_interval _ room c.put.ensures c.put_duration.ensures) (search rules)
