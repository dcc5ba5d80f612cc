-- `seconds_of` meets its contract.
use Rattle.std.proofs.Common.{◌∙◌}
use mir.ValLaws.{to_z-of_z}
use mir.Syntax.{w16}
use Rattle.polling.proofs.Durations.{seconds-tried}
use Rattle.polling.proofs.seconds_of.Goals as goal

pub returns : goal.returns
returns c =
    c.unwrap_or.ensures
    ∙ seconds-tried c.args.duration c.try_from.result c.ranges.duration (rw (to_z-of_z w16 c.args.duration c.ranges.duration) at c.try_from.ensures)
