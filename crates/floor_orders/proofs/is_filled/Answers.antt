-- `floor_orders::is_filled` meets its contract.
-- Assumes nothing.
use Rattle.floor_orders.proofs.OrderLaws.{unfilled-length, unfilled-count, filled-rest}
use Rattle.floor_orders.proofs.is_filled.Goals as goal

pub returns-then-bytes-ne24 : goal.returns-then-bytes-ne24
returns-then-bytes-ne24 c = unfilled-length _ c.if-bytes-ne24.true

pub returns-then-n-gt20 : goal.returns-then-n-gt20
returns-then-n-gt20 c = unfilled-count _ c.if-bytes-ne24.false c.if-n-gt20.true

pub returns : goal.returns
returns c = filled-rest _ _ c.if-bytes-ne24.false c.if-n-gt20.false (rw c.from.ensures at c.are_blank.ensures)
