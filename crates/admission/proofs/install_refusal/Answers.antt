-- `admission::install_refusal` meets its contract. Each return passes the lines above its own.
-- Assumes nothing.
use mathlib.Core.Path.{refl}
use Rattle.lists.proofs.Picks.{picks}
use borrow.Author.Rules.{rules}
use Rattle.rules.specs.Numbers.{number_of, refusal_number}
use Rattle.rules.specs.Refusals.{first_holding}
use Rattle.rules.proofs.Numbers.{handed}
use Rattle.admission.proofs.Refusing.{lines_by, refusing, limits-are, clash-is}
use Rattle.admission.proofs.install_refusal.Goals as goal

pub returns-in_err-when : goal.returns-in_err-when
unfolding lines_by first_holding number_of refusal_number
returns-in_err-when c = refusing _ _ _ (rw (← c.is_number.ensures) (search (picks, handed, rules) depth 8))

pub returns-in_err-when-2 : goal.returns-in_err-when-2
unfolding lines_by first_holding number_of refusal_number
returns-in_err-when-2 c = refusing _ _ _ (rw (← c.is_number.ensures, ← c.has.ensures) (search (picks, handed, rules) depth 8))

pub returns-in_err-when-3 : goal.returns-in_err-when-3
unfolding lines_by first_holding number_of refusal_number
returns-in_err-when-3 c = refusing _ _ _ (rw (← c.is_number.ensures, ← c.has.ensures, ← c.is_out_of_range.ensures) (search (picks, handed, rules) depth 8))

pub returns-in_err-when-4 : goal.returns-in_err-when-4
unfolding lines_by first_holding number_of refusal_number
returns-in_err-when-4 c = refusing _ _ _ (rw (← c.is_number.ensures, ← c.has.ensures, ← c.is_out_of_range.ensures, limits-are _ refl c.total.ensures.0 c.from.ensures) (search (picks, handed, rules) depth 8))

pub returns : goal.returns
unfolding lines_by first_holding number_of refusal_number
returns c = refusing _ _ _ (rw (← c.is_number.ensures, ← c.has.ensures, ← c.is_out_of_range.ensures, limits-are _ refl c.total.ensures.0 c.from.ensures, ← clash-is _ _ c.looked_at-pairs.ensures c.clashes.ensures) (search (picks, handed, rules) depth 8))
