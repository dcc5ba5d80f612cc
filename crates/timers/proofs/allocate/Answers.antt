-- `timers::allocate` meets its contract: a refusal leaves the bank, and else the timer has its owner.
-- Assumes nothing.
use native.Mathlib.Omega.{arith}
use Rattle.rules.specs.Numbers.{refusal_number}
use Rattle.rules.specs.Calls.{answer_with}
use Rattle.timers.proofs.Owners.{lowest-some, allocate-refused, allocate-given}
use Rattle.timers.proofs.allocate.Goals as goal

pub overflow_sub-next : goal.overflow_sub-next
overflow_sub-next c = omega (arith, c.in-Ok.ensures.timer, lowest-some c.args.bank.owner)

pub returns-in-Ok : goal.returns-in-Ok
unfolding refusal_number answer_with
returns-in-Ok c = rw c.number-answer.ensures (allocate-given _ _ _ _ c.in-Ok.ensures.refusal c.in-Ok.ensures.timer)

pub returns-in-Err : goal.returns-in-Err
unfolding refusal_number
returns-in-Err c = rw c.refuse.ensures (allocate-refused _ _ _ _ c.in-Err.ensures.refusal)
