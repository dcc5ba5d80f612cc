-- `floor_orders::values::pair_at` meets its contract.
-- Assumes nothing.
use Rattle.floor_orders.proofs.values.pair_at.Goals as goal

pub returns : goal.returns
returns c = rw (c.byte_at.ensures, c.byte_at-2.ensures)
