-- `meet` meets its contract.
-- Assumes nothing.
use Prim.Native.Nat.{ℕ}
use mathlib.Core.Path.{ap, ◌∙◌}
use mathlib.Core.Bool.{not}
use lib.Dec.{eqb}
use Rattle.sets.proofs.Bits.{set-some}
use Rattle.sets.proofs.meet.Goals as goal

pub returns : goal.returns
returns c = ap (λ (z : ℕ). not (eqb z 0)) c.both.ensures ∙ set-some _
