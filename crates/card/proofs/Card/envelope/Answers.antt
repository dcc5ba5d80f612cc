-- `envelope`: refused where the bytes are malformed, else a round is opened for those whom it is for.
-- Assumes nothing.
use mathlib.Core.Path.{◌∙◌}
use Rattle.rules.specs.Numbers.{number_of}
use Rattle.arrivals.proofs.Answering.{marks-beside}
use Rattle.card.proofs.Left.{tidy-rows}
use Rattle.card.proofs.Arrival.{comes}
use Rattle.card.proofs.Card.envelope.Goals as goal

pub whom-whom-requires : goal.whom-whom-requires
whom-whom-requires c = tidy-rows _ c.requires

pub returns : goal.returns
unfolding number_of
returns c =
    comes _ c.requires _ c.read_envelope-e.ensures c.is_err-bad.ensures.value c.when-refusal.ensures.line c.arrival_of-arrived.ensures c.whom-whom.ensures.arrived
    c.round_after-opened.ensures c.envelope_marks-marks.ensures (c.marked-answer.ensures ∙ marks-beside _ _ c.and.ensures)
