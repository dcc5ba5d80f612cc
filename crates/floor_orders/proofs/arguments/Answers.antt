-- `floor_orders::arguments` meets its contract.
-- Assumes nothing.
use mathlib.Core.Path.{refl, ◌∙◌}
use Rattle.floor_orders.specs.Orders.{arguments_of}
use Rattle.floor_orders.proofs.arguments.Goals as goal

pub returns : goal.returns
unfolding arguments_of
returns c = c.first.ensures ∙ rw (c.from.ensures, c.byte_at-n.ensures) refl
