-- `response` meets its contract.
-- Assumes nothing.
use Rattle.card.proofs.Sends.{responds}
use Rattle.card.proofs.Card.response.Goals as goal

pub returns : goal.returns
returns c = responds c.args.self c.requires c.response_refusal-refusal.ensures c.outstanding_after-is.ensures c.refusal-answer.ensures
