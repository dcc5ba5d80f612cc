-- `delete` meets its contract.
-- Assumes nothing.
use mathlib.Core.Path.{sym, ◌∙◌}
use Rattle.card.proofs.Left.{tidy-rows}
use Rattle.card.proofs.Order.{count_small}
use Rattle.card.proofs.Present.{low-is, high_is}
use Rattle.card.proofs.Deleted.{removes, deletes, deletes-none}
use Rattle.card.proofs.Card.delete.Goals as goal
use Rattle.card.proofs.Card.delete.Goals.{then-there, else-there}

pub due_switched-due-requires : goal.due_switched-due-requires
due_switched-due-requires c = tidy-rows _ c.requires

pub roll_without-next_roll-requires : goal.roll_without-next_roll-requires
roll_without-next_roll-requires c =
    let there = sym c.has-there.ensures ∙ c.if-there.true in
    (low-is c.args.self c.requires c.args.applet there, high_is c.args.self c.requires c.args.applet there, count_small _ c.requires)

pub without-next_rows-requires : goal.without-next_rows-requires
without-next_rows-requires c = tidy-rows _ c.requires

pub returns : goal.returns
returns c =
    elim c.if-there.branch [
      | then-there w ↦ deletes c.args.self c.requires c.args.applet c.has-there.ensures c.absent_refusal.ensures w.if-there.true
          (w.left-is
          ∙ removes c.args.self c.requires c.args.applet (sym c.has-there.ensures ∙ w.if-there.true)
          w.due_switched-due.ensures.menu w.due_switched-due.ensures.events w.due_switched-due.ensures.polling w.switched-selectable.ensures
          w.roll_without-next_roll.ensures w.unregistered-next_registered.ensures (w.table_with-next_made.ensures 0) (w.table_with-next_polls.ensures 0) w.freed-left.ensures w.owner_without.ensures
          w.without-next_rows.ensures w.switched-waiting.ensures)
          c.refusal-answer.ensures
      | else-there w ↦ deletes-none c.args.self c.requires c.args.applet c.has-there.ensures c.absent_refusal.ensures w.if-there.false w.left-is c.refusal-answer.ensures
    ]
