-- `timer_for`: the lines 2, 13 and 14 of the table, in order; and a timer that is given is the lowest free one.
-- Assumes nothing.
use mathlib.Core.Path.{◌≡◌, sym}
use borrow.Author.Rules.{rules}
use lib.ListN.{length}
use Rattle.lists.proofs.Picks.{picks}
use Rattle.rules.specs.Numbers.{number_of, refusal_number}
use Rattle.rules.specs.Refusals.{first_holding}
use Rattle.rules.proofs.Numbers.{handed}
use Rattle.timers.proofs.Owners.{owner-between, none_free_lem}
use Rattle.timers.proofs.timer_for.Goals as goal

pub returns-in_err-when-clause-refusal : goal.returns-in_err-when-clause-refusal
unfolding number_of refusal_number first_holding
returns-in_err-when-clause-refusal c = rw (owner-between _ _ (sym c.between.ensures)) (search (picks, handed, rules))

pub returns-in_err-when-2-clause-refusal : goal.returns-in_err-when-2-clause-refusal
unfolding number_of refusal_number first_holding
returns-in_err-when-2-clause-refusal c =
    rw (owner-between _ _ (sym c.between.ensures), ← c.at_limit.ensures) (search (picks, handed, rules))

pub returns-in_err-when-3-clause-refusal : goal.returns-in_err-when-3-clause-refusal
unfolding number_of refusal_number first_holding
returns-in_err-when-3-clause-refusal c =
    let eight : length c.args.bank.owner ≡ 8 = c.well_formed.0.1.1.0.1.0.1 in
    rw (owner-between _ _ (sym c.between.ensures), ← c.at_limit.ensures, none_free_lem _ _ eight c.lowest_free-timer.ensures) (search (picks, handed, rules))

pub returns-clause-refusal : goal.returns-clause-refusal
unfolding number_of refusal_number first_holding
returns-clause-refusal c =
    let eight : length c.args.bank.owner ≡ 8 = c.well_formed.0.1.1.0.1.0.1 in
    rw (owner-between _ _ (sym c.between.ensures), ← c.at_limit.ensures, none_free_lem _ _ eight c.lowest_free-timer.ensures) (search (picks, rules))
