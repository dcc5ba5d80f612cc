-- `poll_refusal` meets its contract: the applet first, then the duration, too low or too long.
-- Assumes nothing.
use mathlib.Core.Path.{◌≡◌, sym, ◌∙◌}
use lib.IntN.{pos}
use lib.Signed.{lt_z}
use mir.Syntax.{w16}
use Rattle.lists.proofs.Signed.{tested}
use Rattle.rules.specs.Events.{minus}
use Rattle.rules.specs.Applets.{longest_poll, bad_duration}
use Rattle.rules.specs.Numbers.{number_of}
use Rattle.rules.specs.Refusals.{first_holding}
use Rattle.refusals.proofs.poll_refusal.Goals as goal
use Rattle.refusals.proofs.poll_refusal.Goals.{then-duration-ltminus1, else-duration-ltminus1}

pub returns : goal.returns
unfolding number_of first_holding bad_duration
returns c =
    let d = c.args.duration in
    let bad : c.if-duration-ltminus1.when ≡ bad_duration d =
    elim c.if-duration-ltminus1.branch [
      | then-duration-ltminus1 w ↦ rw (tested w16 d (λ z. lt_z z (minus 1)) _ c.ranges.duration w.if-duration-ltminus1.true) (w.when-is ∙ w.if-duration-ltminus1.true)
      | else-duration-ltminus1 w ↦ rw (tested w16 d (λ z. lt_z z (minus 1)) _ c.ranges.duration w.if-duration-ltminus1.false) (sym (tested w16 d (lt_z (pos longest_poll)) _ c.ranges.duration (sym w.when-is)))
    ] in
    rw (c.in_ok-when.ensures.accepted, ← bad) c.when-2.ensures.line
