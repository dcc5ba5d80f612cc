-- `floor_orders::values::signed_of` meets its contract.
-- Assumes nothing.
use mathlib.Core.Path.{◌∙◌}
use mir.Syntax.{w16}
use mir.ValLaws.{to_z-of_z}
use Rattle.floor_orders.proofs.ValueLaws.{signed-is}
use Rattle.floor_orders.proofs.values.signed_of.Goals as goal

pub returns : goal.returns
returns c =
    to_z-of_z w16 _ (record { sfits = c.from_be_bytes.type_inv })
    ∙ c.from_be_bytes.ensures
    ∙ signed-is c.args.high c.args.low c.ranges.high.fits c.ranges.low.fits
