-- `timers::release` meets its contract: a refusal leaves the bank, and else the timer is free.
-- Assumes nothing.
use native.Mathlib.Omega.{arith}
use Rattle.rules.specs.Numbers.{refusal_number}
use Rattle.timers.proofs.Owners.{release-refused, release-accepted, release-within}
use Rattle.timers.proofs.release.Goals as goal

pub overflow_sub-next : goal.overflow_sub-next
unfolding refusal_number
overflow_sub-next c = let h = release-within c.args.bank _ _ c.in-Ok.ensures in omega arith

pub bounds-next-timer : goal.bounds-next-timer
unfolding refusal_number
bounds-next-timer c =
    let l = c.well_formed.0.1.1.0.1.0.1 in
    let h = release-within c.args.bank _ _ c.in-Ok.ensures in
    omega arith

pub returns-in-Ok : goal.returns-in-Ok
unfolding refusal_number
returns-in-Ok c = rw c.refusal-answer.ensures (release-accepted _ _ _ c.in-Ok.ensures)

pub returns-in-Err : goal.returns-in-Err
unfolding refusal_number
returns-in-Err c = rw c.refuse.ensures (release-refused _ _ _ _ c.in-Err.ensures)
