-- `floor_orders::values::request` meets its contract.
-- Assumes nothing.
use Rattle.floor_orders.proofs.ValueLaws.{request-is}
use Rattle.floor_orders.proofs.values.request.Goals as goal

pub returns : goal.returns
returns c =
    request-is _ c.byte_at.ensures c.byte_at-2.ensures c.byte_at-3.ensures c.byte_at-4.ensures
    c.pair_at.ensures c.pair_at-2.ensures c.pair_at-3.ensures c.pair_at-4.ensures
