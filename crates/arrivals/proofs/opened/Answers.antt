-- `opened` meets its contract.
-- Assumes nothing.
use Rattle.arrivals.proofs.Rounds.{opens}
use Rattle.lists.proofs.Picks.{picks}
use borrow.Author.Rules.{rules}
use Rattle.arrivals.proofs.opened.Goals as goal

pub returns-then-refusal-eq0 : goal.returns-then-refusal-eq0
returns-then-refusal-eq0 c = opens _ _ _ _ c.if-refusal-eq0.true c.both-waiting.ensures

pub returns : goal.returns
returns c = search (picks, rules) depth 8
