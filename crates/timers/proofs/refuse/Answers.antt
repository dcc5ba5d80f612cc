-- `timers::refuse` meets its contract.
-- Assumes nothing.
use mathlib.Core.Path.{refl}
use Rattle.rules.specs.Numbers.{refusal_number}
use Rattle.timers.proofs.refuse.Goals as goal

pub returns : goal.returns
unfolding refusal_number
returns c = rw c.refusal-answer.ensures refl
