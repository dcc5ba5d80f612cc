-- `status`: a round is opened for those who request polling.
-- Assumes nothing.
use Rattle.rules.specs.Numbers.{refusal_number}
use Rattle.card.proofs.Arrival.{wakes}
use Rattle.card.proofs.Card.status.Goals as goal

pub returns : goal.returns
unfolding refusal_number
returns c = wakes _ c.requires c.polling_set-whom.ensures c.round_after-opened.ensures c.other_marks-marks.ensures c.marked-answer.ensures
