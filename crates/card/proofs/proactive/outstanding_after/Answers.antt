-- `outstanding_after` meets its contract.
-- Assumes nothing.
use mathlib.Core.Path.{sym, ◌∙◌}
use Rattle.lists.proofs.Picks.{picks}
use borrow.Author.Rules.{rules}
use Rattle.rules.proofs.Numbers.{accepted_number}
use Rattle.card.proofs.proactive.outstanding_after.Goals as goal

pub returns-then-is_ok : goal.returns-then-is_ok
returns-then-is_ok c = rw (← accepted_number c.args.refusal, sym c.is_ok.ensures.value ∙ c.if-is_ok.true) (search (picks, rules) depth 8)

pub returns : goal.returns
returns c = rw (← accepted_number c.args.refusal, sym c.is_ok.ensures.value ∙ c.if-is_ok.false) (search (picks, rules) depth 8)
