-- `write_menu` meets its contract. Assumes nothing.
use mathlib.Core.Path.{refl}
use native.Mathlib.Omega.{arith}
use borrow.Author.Rules.{rules}
use Rattle.writing.proofs.PutLaws.{puts_front, room_front}
use Rattle.commands.proofs.Lines.{rows_under}
use Rattle.commands.proofs.Whole.{value-under, puts_menu, room-head, room-third, room-items}
use Rattle.commands.proofs.write_menu.Goals as goal

pub value_length-n-requires : goal.value_length-n-requires
value_length-n-requires c = (c.requires.1, omega (arith, c.extent_of-shown.ensures.0, rows_under c.args.rows.now c.requires.0 c.args.selectable))

pub put_length-requires : goal.put_length-requires
put_length-requires c =
    let u = rows_under c.args.rows.now c.requires.0 c.args.selectable in
    let room = room_front c.new-out.result c.new-out.ensures.untouched c.new-out.ensures.front c.requires.2 in
    (value-under c.extent_of-shown.result.bytes _ c.value_length-n.ensures (omega (arith, c.extent_of-shown.ensures.0)) c.requires.1, omega arith)

pub put-requires : goal.put-requires
put-requires c = room-head _ (room_front c.new-out.result c.new-out.ensures.untouched c.new-out.ensures.front c.requires.2) c.put_length.ensures

pub put-requires-2 : goal.put-requires-2
put-requires-2 c =
    let room = room_front c.new-out.result c.new-out.ensures.untouched c.new-out.ensures.front c.requires.2 in
    room-third _ room c.put_length.ensures refl c.put.ensures c.args.title.now c.requires.1

pub put_items-requires : goal.put_items-requires
put_items-requires c =
    let u = rows_under c.args.rows.now c.requires.0 c.args.selectable in
    let room = room_front c.new-out.result c.new-out.ensures.untouched c.new-out.ensures.front c.requires.2 in
    (c.requires.0, c.extent_of-shown.ensures.0, room-items _ room c.put_length.ensures refl c.put.ensures c.args.title.now c.requires.1 _ u c.put-2.ensures)

pub returns : goal.returns
returns c =
    let u = rows_under c.args.rows.now c.requires.0 c.args.selectable in
    let room = room_front c.new-out.result c.new-out.ensures.untouched c.new-out.ensures.front c.requires.2 in
    puts_front c.new-out.ensures.untouched c.new-out.ensures.front
    (puts_menu c.args.title.now _ u c.requires.1 room c.extent_of-shown.ensures.0 c.value_length-n.ensures c.extent_of-shown.ensures.1 c.qualifier-q.ensures c.put_length.ensures c.put.ensures c.put-2.ensures c.put_items.ensures)
    (search rules)
