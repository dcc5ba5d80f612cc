-- `put_items` meets its contract. Assumes nothing.
use Rattle.commands.proofs.Whole.{puts_no_row, puts_rows, room_no_row, room_rows}
use Rattle.commands.proofs.put_items.Goals as goal

pub put-requires : goal.put-requires
put-requires c = room_no_row _ c.requires.1 c.args.out.now c.requires.2 c.if-bytes-eq0.true

pub returns-then-bytes-eq0 : goal.returns-then-bytes-eq0
returns-then-bytes-eq0 c = puts_no_row _ c.requires.1 c.if-bytes-eq0.true c.put.ensures

pub put_rows-requires : goal.put_rows-requires
put_rows-requires c = (c.requires.0, room_rows _ c.requires.1 c.args.out.now c.requires.2 c.if-bytes-eq0.false)

pub returns-else-bytes-eq0 : goal.returns-else-bytes-eq0
returns-else-bytes-eq0 c = puts_rows _ c.requires.1 c.if-bytes-eq0.false c.put_rows.ensures
