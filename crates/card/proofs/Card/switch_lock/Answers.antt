-- `switch_lock` meets its contract.
-- Assumes nothing.
use mathlib.Core.Path.{sym, ◌∙◌}
use Rattle.card.proofs.Left.{tidy-rows}
use Rattle.card.proofs.Locks.{lock-turned, lock-still}
use Rattle.card.proofs.Card.switch_lock.Goals as goal
use Rattle.card.proofs.Card.switch_lock.Goals.{then-turns, else-turns}

pub due_switched-left-requires : goal.due_switched-left-requires
due_switched-left-requires g c = tidy-rows _ c.requires

pub returns : goal.returns
returns g c =
    elim c.if-turns.branch [
      | then-turns w ↦ lock-turned c.args.self c.requires c.args.applet _ c.has-there.ensures c.absent_refusal-refusal.ensures (sym c.lock_switches-turns.ensures ∙ w.if-turns.true)
          w.switched.ensures w.due_switched-left.ensures.menu w.due_switched-left.ensures.events w.due_switched-left.ensures.polling w.left-is c.refusal-answer.ensures
      | else-turns w ↦ lock-still c.args.self c.requires c.args.applet _ c.has-there.ensures c.absent_refusal-refusal.ensures (sym c.lock_switches-turns.ensures ∙ w.if-turns.false) w.left-is c.refusal-answer.ensures
    ]
