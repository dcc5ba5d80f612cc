-- `request_poll` meets its contract.
-- Assumes nothing.
use mathlib.Core.Bool.{not}
use mathlib.Core.List.{[], ◌∷◌}
use lib.IntN.{ℤ}
use mir.Syntax.{w16}
use Rattle.lists.proofs.Signed.{passed}
use Rattle.rules.specs.Applets.{bad_duration, seconds_of}
use Rattle.rules.specs.Refusals.{line, first_holding}
use Rattle.rules.proofs.Numbers.{accepted-zero, refused-above}
use Rattle.card.proofs.Requests.{takes, takes-not}
use Rattle.card.proofs.Card.request_poll.Goals as goal
use Rattle.card.proofs.Card.request_poll.Goals.{then-is_ok, else-is_ok}

pub returns : goal.returns
returns c =
    let d = c.args.duration in
    let refused = passed w16 d (λ (d : ℤ). first_holding (line 2 (not c.has-there.result) ∷ line 20 (bad_duration d) ∷ [])) c.ranges.duration c.poll_refusal-refusal.ensures in
    elim c.if-is_ok.branch [
      | then-is_ok w ↦ takes c.args.self c.requires c.args.applet d c.has-there.ensures refused (accepted-zero _ c.is_ok.ensures.value w.if-is_ok.true)
          (passed w16 d seconds_of c.ranges.duration w.seconds_of-seconds.ensures) (w.table_with-next.ensures 0) w.after_request-polling.ensures w.left-is c.refusal-answer.ensures
      | else-is_ok w ↦ takes-not c.args.self c.requires c.args.applet d c.has-there.ensures refused (refused-above _ c.is_ok.ensures.value w.if-is_ok.false) w.left-is c.refusal-answer.ensures
    ]
