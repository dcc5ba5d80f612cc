-- `release_refusal`: the lines 2 and 15 of the table, in order.
-- Assumes nothing.
use mathlib.Core.Path.{◌≡◌, sym}
use borrow.Author.Rules.{rules}
use Rattle.lists.proofs.Picks.{picks}
use Rattle.rules.specs.Numbers.{number_of}
use Rattle.rules.specs.Timers.{owner_of, not_its_timer}
use Rattle.rules.specs.Refusals.{first_holding}
use Rattle.rules.proofs.Numbers.{handed}
use Rattle.timers.proofs.Owners.{owner-between}
use Rattle.timers.proofs.release_refusal.Goals as goal

pub returns-in_err-when : goal.returns-in_err-when
unfolding number_of first_holding
returns-in_err-when c =
    rw (owner-between _ _ (sym c.between.ensures)) (search (picks, handed, rules))

pub returns : goal.returns
unfolding number_of not_its_timer first_holding
returns c =
    let owner : c.owner_of.result ≡ owner_of c.args.bank.owner c.args.timer = c.owner_of.ensures in
    rw (owner-between _ _ (sym c.between.ensures), ← owner) (search (picks, rules))
