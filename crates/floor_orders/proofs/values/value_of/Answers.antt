-- `floor_orders::values::value_of` meets its contract.
-- Assumes nothing.
use mathlib.Core.Path.{◌∙◌}
use mir.Syntax.{w16}
use mir.ValLaws.{to_z-of_z}
use Rattle.floor_orders.proofs.values.value_of.Goals as goal

pub returns : goal.returns
returns c = to_z-of_z w16 _ (record { sfits = c.signed_of.type_inv }) ∙ rw (c.byte_at.ensures, c.byte_at-2.ensures) at c.signed_of.ensures
