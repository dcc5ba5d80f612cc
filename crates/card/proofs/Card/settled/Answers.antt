-- `settled`: refused where a command is outstanding or a round open, else a round is opened.
-- Assumes nothing.
use mathlib.Core.Path.{◌∙◌}
use Rattle.arrivals.proofs.Answering.{marks-beside}
use Rattle.card.proofs.Arrival.{settles}
use Rattle.card.proofs.Card.settled.Goals as goal

pub returns : goal.returns
returns c = settles _ c.requires c.settled_refusal-refusal.ensures c.event_at-arrived.ensures c.round_after-opened.ensures c.other_marks-marks.ensures (c.marked-answer.ensures ∙ marks-beside _ _ c.and.ensures)
