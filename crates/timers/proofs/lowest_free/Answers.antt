-- `timers::lowest_free` meets its contract: the low ones of the owned set are counted.
use Rattle.std.proofs.Common.{ap, ◌+◌, ◌∙◌, ℕ, arith}
use Rattle.timers.proofs.Owners.{free-ones}
use Rattle.timers.proofs.lowest_free.Goals as goal

pub returns : goal.returns
returns c = ap (λ (k : ℕ). k + 1) c.trailing_ones.ensures ∙ free-ones _ _ (omega arith) c.owner_bits.ensures
