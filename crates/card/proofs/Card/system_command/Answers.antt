-- `system_command` meets its contract.
-- Assumes nothing.
use native.Mathlib.Omega.{arith}
use mathlib.Core.Path.{refl, ap, ◌∙◌}
use Rattle.rules.specs.declared.Due.{Due}
use Rattle.rules.specs.Calls.{numbered}
use Rattle.rules.specs.Held.{stored_answer}
use Rattle.rules.proofs.Numbers.{answer-beside}
use Rattle.card.proofs.Handed.{rows_fit, title-short, handed-room, written_by, hands_out}
use Rattle.card.proofs.Polled.{interval-few}
use Rattle.card.proofs.Written.{Handed, off-wrote, nothing-wrote}
use Rattle.card.proofs.Card.system_command.Goals as goal
use Rattle.card.proofs.Card.system_command.Goals.{then-first, else-first+then-first-2, else-first+else-first-2+then-first-3, else-first+else-first-2+else-first-3+then-first-4, else-first+else-first-2+else-first-3+else-first-4}

pub put_menu-n-requires : goal.put_menu-n-requires
put_menu-n-requires c = (rows_fit _ c.requires, title-short _ c.requires, handed-room _ _ _ (λ (d : Due). d.menu) refl c.hand_refusal-refusal.ensures c.first_due-first.ensures c.if-first.true)

pub put_events-requires : goal.put_events-requires
put_events-requires c = handed-room _ _ _ (λ (d : Due). d.events) refl c.hand_refusal-refusal.ensures c.first_due-first.ensures c.if-first-2.true

pub put_interval-requires : goal.put_interval-requires
put_interval-requires c = (interval-few _ c.requires, handed-room _ _ _ (λ (d : Due). d.interval) refl c.hand_refusal-refusal.ensures c.first_due-first.ensures c.if-first-3.true)

pub write_off-requires : goal.write_off-requires
write_off-requires c = handed-room _ _ _ (λ (d : Due). d.off) refl c.hand_refusal-refusal.ensures c.first_due-first.ensures c.if-first-4.true

pub overflow_cast-n : goal.overflow_cast-n
overflow_cast-n c =
    elim c.if-first.branch [
      | then-first w ↦ omega (arith, w.n-is, w.put_menu-n.ensures.1)
      | else-first+then-first-2 w ↦ omega (arith, w.n-is, w.put_events.ensures.1)
      | else-first+else-first-2+then-first-3 w ↦ omega (arith, w.n-is, w.put_interval.ensures.1)
      | else-first+else-first-2+else-first-3+then-first-4 w ↦ omega (arith, w.n-is, (off-wrote w.write_off.ensures).1)
      | else-first+else-first-2+else-first-3+else-first-4 w ↦ omega (arith, w.n-is)
    ]

pub returns : goal.returns
returns c =
    let s = c.args.self in
    let given = c.args.buf.now in
    let written : Handed given (written_by s c.requires c.first_due-first.result) c.if-first.buf c.if-first.n =
    elim c.if-first.branch [
      | then-first w ↦ rw (w.if-first.true, w.buf-is, w.n-is) w.put_menu-n.ensures
      | else-first+then-first-2 w ↦ rw (w.if-first.false, w.if-first-2.true, w.buf-is, w.n-is) w.put_events.ensures
      | else-first+else-first-2+then-first-3 w ↦ rw (w.if-first.false, w.if-first-2.false, w.if-first-3.true, w.buf-is, w.n-is) w.put_interval.ensures
      | else-first+else-first-2+else-first-3+then-first-4 w ↦ rw (w.if-first.false, w.if-first-2.false, w.if-first-3.false, w.if-first-4.true, w.buf-is, w.n-is) (off-wrote w.write_off.ensures)
      | else-first+else-first-2+else-first-3+else-first-4 w ↦ rw (w.if-first.false, w.if-first-2.false, w.if-first-3.false, w.if-first-4.false, w.buf-is, w.n-is) (nothing-wrote given)
    ] in
    hands_out s c.requires given c.hand_refusal-refusal.ensures c.first_due-first.ensures c.rest_due-rest.ensures written (c.number-answer.ensures ∙ ap stored_answer (answer-beside numbered _ _ c.and.ensures))
