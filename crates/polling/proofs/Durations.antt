-- A duration and the seconds that it requests; and of two intervals the shorter.
-- Assumes nothing.
use Prim.Native.Nat.{ℕ, min}
use native.Mathlib.Omega.{arith}
use mathlib.Core.Path.{◌≡◌, refl, ◌∙◌}
use mathlib.Core.Bool.{Bool, true, false, not}
use mathlib.Core.List.{[], ◌∷◌}
use lib.IntN.{ℤ, pos, negsuc, nat_abs}
use mir.Syntax.{w16}
use mir.Val.{SFits}
use Rattle.std.proofs.Common.{Result, Ok, Err}
use Rattle.std.specs.Result.{OkIff, result_unwrap_or}
use Rattle.std.specs.Int.{FitsUnsignedBits}
use borrow.Author.Tests.{eqb-true, eq-eqb, ne_eqb}
use Rattle.std.specs.Prelude.{if◌then◌else◌, ◌==◌}
use Rattle.lists.specs.Lists.{keep, smallest}
use Rattle.lists.proofs.Least.{least_of}
use Rattle.rules.specs.Applets.{seconds_of}

-- a duration that does not fit an unsigned number is the card's choice
pub seconds-tried : {E : Type 0} (d : ℤ) (r : Result ℕ E) → SFits w16 d → OkIff r (FitsUnsignedBits 16 d) (nat_abs d) → result_unwrap_or r 0 ≡ seconds_of d
unfolding seconds_of
seconds-tried (pos n) (Ok x) f o = o.1
seconds-tried (pos n) (Err e) f o = absurd (o (omega (arith, f.sfits)))
seconds-tried (negsuc n) (Ok x) f o = absurd o.0
seconds-tried (negsuc n) (Err e) f o = refl

-- THE SHORTER OF TWO, where 0 is none
module _ (a b : ℕ) where
  pub other-only : a ≡ 0 → b ≡ least_of (a ∷ b ∷ [])
  unfolding keep smallest
  other-only z = rw (eq-eqb a 0 z) (alone (b == 0) refl)
    where
      alone : (t : Bool) → (b == 0) ≡ t → b ≡ smallest (if not t then b ∷ [] else [])
      alone true e = eqb-true b 0 e
      alone false e = refl

  module _ (some : a ≡ 0 → ⊥) where
    pub one_only : b ≡ 0 → a ≡ least_of (a ∷ b ∷ [])
    unfolding keep smallest
    one_only z = rw (ne_eqb a 0 some, eq-eqb b 0 z) refl

    module _ (other : b ≡ 0 → ⊥) where
      pub smaller : {r : ℕ} → r ≡ min a b → r ≡ least_of (a ∷ b ∷ [])
      unfolding keep smallest
      smaller e = e ∙ rw (ne_eqb a 0 some, ne_eqb b 0 other) refl
