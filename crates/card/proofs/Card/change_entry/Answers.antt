-- `change_entry` meets its contract.
-- Assumes nothing.
use Rattle.card.proofs.Left.{tidy-rows}
use Rattle.card.proofs.EntryRows.{changes-words}
use Rattle.card.proofs.Card.change_entry.Goals as goal

pub changed-worded-requires : goal.changed-worded-requires
changed-worded-requires c = tidy-rows _ c.requires

pub returns : goal.returns
returns c =
    changes-words c.args.self c.requires c.args.applet c.args.identifier c.args.help c.args.text.now
    c.has-there.ensures c.has-shown.ensures c.grant_at-grant.ensures c.fits-fits.ensures c.changed-worded.ensures c.due_after-due.ensures c.change_refusal-refusal.ensures c.refusal-answer.ensures
