-- `new_entry` meets its contract.
-- Assumes nothing.
use native.Mathlib.Omega.{arith}
use mathlib.Core.Path.{ap, ◌∙◌}
use Rattle.rules.specs.Calls.{numbered}
use Rattle.rules.specs.Held.{stored_answer}
use Rattle.rules.proofs.Numbers.{accepted-zero, refused-above, answer-beside}
use Rattle.card.proofs.Left.{tidy-rows}
use Rattle.card.proofs.NewEntry.{made-few, new-refused, new-accepted}
use Rattle.card.proofs.Card.new_entry.Goals as goal
use Rattle.card.proofs.Card.new_entry.Goals.{then-is_ok, else-is_ok}

pub entered-entered-requires : goal.entered-entered-requires
entered-entered-requires c = tidy-rows _ c.requires

pub overflow_add-count : goal.overflow_add-count
overflow_add-count c =
    let few = made-few c.args.self c.requires c.args.applet c.args.help c.args.text.now c.has-there.ensures c.grant_at-grant.ensures c.by_number-count.ensures c.fits-fits.ensures c.new_refusal-refusal.ensures (accepted-zero _ c.is_ok.ensures.value c.if-is_ok.true) in
    omega arith

pub returns : goal.returns
returns c =
    elim c.if-is_ok.branch [
      | then-is_ok w ↦ new-accepted c.args.self c.requires c.args.applet c.args.help c.args.text.now c.has-there.ensures c.grant_at-grant.ensures c.by_number-count.ensures c.fits-fits.ensures c.new_refusal-refusal.ensures (accepted-zero _ c.is_ok.ensures.value w.if-is_ok.true)
          (c.number-answer.ensures ∙ ap stored_answer (answer-beside numbered _ _ c.and.ensures)) w.next_pair-pair.ensures w.entered-entered.ensures (w.table_with-more.ensures 0) w.has-turns.ensures w.due_after-due.ensures w.left-is w.identifier-is
      | else-is_ok w ↦ new-refused c.args.self c.requires c.args.applet c.args.help c.args.text.now c.has-there.ensures c.grant_at-grant.ensures c.by_number-count.ensures c.fits-fits.ensures c.new_refusal-refusal.ensures
          c.if-is_ok.identifier (c.number-answer.ensures ∙ ap stored_answer (answer-beside numbered _ _ c.and.ensures)) (refused-above _ c.is_ok.ensures.value w.if-is_ok.false) w.left-is
    ]
