-- `write_events` meets its contract. Assumes nothing.
use mathlib.Core.Path.{refl}
use borrow.Author.Rules.{rules}
use Rattle.writing.proofs.PutLaws.{puts_front, room_front}
use Rattle.commands.proofs.Whole.{puts_events, room-head, room-third}
use Rattle.commands.proofs.write_events.Goals as goal

pub put-requires : goal.put-requires
put-requires c = room-head _ (room_front c.new-out.result c.new-out.ensures.untouched c.new-out.ensures.front c.requires.1) c.put_length.ensures

pub put-requires-2 : goal.put-requires-2
put-requires-2 c =
    let room = room_front c.new-out.result c.new-out.ensures.untouched c.new-out.ensures.front c.requires.1 in
    room-third _ room c.put_length.ensures refl c.put.ensures c.args.codes.now (search rules)

pub returns : goal.returns
returns c =
    let room = room_front c.new-out.result c.new-out.ensures.untouched c.new-out.ensures.front c.requires.1 in
    puts_front c.new-out.ensures.untouched c.new-out.ensures.front (puts_events room c.requires.0 c.put_length.ensures c.put.ensures c.put-2.ensures) (search rules)
