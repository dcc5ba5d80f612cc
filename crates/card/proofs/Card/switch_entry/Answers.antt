-- `switch_entry` meets its contract.
-- Assumes nothing.
use Rattle.card.proofs.Left.{tidy-rows}
use Rattle.card.proofs.EntryRows.{turns-entry}
use Rattle.card.proofs.Card.switch_entry.Goals as goal

pub enabled-touched-requires : goal.enabled-touched-requires
enabled-touched-requires g c = tidy-rows _ c.requires

pub returns : goal.returns
returns g c =
    turns-entry c.args.self c.requires c.args.applet c.args.identifier _
    c.has-there.ensures c.has-shown.ensures c.enabled-touched.ensures c.due_after-due.ensures c.row_refusal-refusal.ensures c.refusal-answer.ensures
