-- Laws of an insertion: the new one stands at its index, and without it the list is what it was.
-- Assumes nothing.
use Prim.Native.Nat.{ℕ, zero, suc, ◌≤◌}
use native.Mathlib.Nat.{not-suc-le-zero, le_of_suc-le-suc}
use mathlib.Core.Path.{◌≡◌, refl, ap}
use mathlib.Core.List.{List, [], ◌∷◌, ◌++◌}
use lib.ListN.{length, take, drop, get_or}
use Rattle.lists.specs.Lists.{insert_at}

module _ {A : Type 0} where
  pub inserted-there : (k : ℕ) (x d : A) (l : List A) → k ≤ length l → get_or (insert_at k x l) k d ≡ x
  unfolding insert_at
  inserted-there zero x d l h = refl
  inserted-there (suc k) x d [] h = absurd (not-suc-le-zero h)
  inserted-there (suc k) x d (y ∷ l) h = inserted-there k x d l (le_of_suc-le-suc h)

  pub inserted-others : (k : ℕ) (x : A) (l : List A) → k ≤ length l → take k (insert_at k x l) ++ drop (suc k) (insert_at k x l) ≡ l
  unfolding insert_at
  inserted-others zero x l h = refl
  inserted-others (suc k) x [] h = absurd (not-suc-le-zero h)
  inserted-others (suc k) x (y ∷ l) h = ap (λ (r : List A). y ∷ r) (inserted-others k x l (le_of_suc-le-suc h))
