-- `fresh` meets its contract.
-- Assumes nothing.
use Rattle.card.proofs.FreshCard.{kept-long, kept-short, freshens}
use Rattle.card.proofs.Card.fresh.Goals as goal

pub made-card-requires : goal.made-card-requires
made-card-requires c = kept-short c.args.title.now c.title_refusal-refusal.ensures c.kept_length-n.ensures

pub returns : goal.returns
returns c = freshens c.args.title.now c.title_refusal-refusal.ensures c.kept_length-n.ensures c.made-card.ensures c.refusal-answer.ensures
