-- Laws of a loop that walks a list, by what is left of it from an index on, and of an element put before the first that passes.
-- Assumes nothing.
use Prim.Native.Nat.{ℕ, zero, suc, ◌+◌, ◌-◌, ◌≤◌, ◌<◌}
use native.Mathlib.Omega.{arith}
use native.Mathlib.Numerals.{add-one}
use native.Mathlib.Nat.{not-suc-le-zero}
use mathlib.Core.Path.{◌≡◌, refl, sym, ap}
use mathlib.Core.List.{List, [], ◌∷◌, ◌++◌}
use mathlib.Core.Bool.{Bool, true, false, ◌&&◌, ◌||◌}
use lib.ListN.{length, take, drop, get_or, replicate, drop_of_length-le}
use lib.Seq.{drop-cons}
use Rattle.std.specs.Prelude.{if◌then◌else◌}
use Rattle.lists.specs.Lists.{some?, index_of, insert_before, insert_at, sum, padded, count, first}
use Rattle.lists.proofs.Truth.{or-false}

module _ {A : Type 0} where
  pub drop-step : (l : List A) (i : ℕ) (d : A) → i < length l → drop i l ≡ get_or l i d ∷ drop (i + 1) l
  drop-step l i d h = rw add-one (drop-cons l i d h)

  -- as many as are taken, taken again
  pub take-taken : (n : ℕ) (l : List A) → take (length (take n l)) l ≡ take n l
  take-taken zero l = refl
  take-taken (suc n) [] = refl
  take-taken (suc n) (x ∷ l) = ap (λ (r : List A). x ∷ r) (take-taken n l)

  module _ (p : A → Bool) where
    pub some_end : (l : List A) (i : ℕ) → length l ≤ i → some? p (drop i l) ≡ false
    unfolding some?
    some_end l i h = rw (drop_of_length-le l h) refl

    -- what passes nowhere may stand behind
    some-behind : (l k : List A) → some? p k ≡ false → some? p (l ++ k) ≡ some? p l
    unfolding some?
    some-behind [] k e = e
    some-behind (x ∷ l) k e = ap (λ (b : Bool). p x || b) (some-behind l k e)

    -- before the first that passes is at its index
    pub before_at : (x : A) (l : List A) → insert_before p x l ≡ insert_at (index_of p l) x l
    unfolding insert_before insert_at index_of
    before_at x [] = refl
    before_at x (y ∷ l) = go (p y) (before_at x l)
      where
        go : (b : Bool) → insert_before p x l ≡ take (index_of p l) l ++ x ∷ drop (index_of p l) l → (if b then x ∷ y ∷ l else y ∷ insert_before p x l) ≡ take (if b then 0 else suc (index_of p l)) (y ∷ l) ++ x ∷ drop (if b then 0 else suc (index_of p l)) (y ∷ l)
        go true e = refl
        go false e = ap (λ (r : List A). y ∷ r) e

    pub length_before : (x : A) (l : List A) → length (insert_before p x l) ≡ suc (length l)
    unfolding insert_before
    length_before x [] = refl
    length_before x (y ∷ l) = go (p y) (length_before x l)
      where
        go : (b : Bool) → length (insert_before p x l) ≡ suc (length l) → length (if b then x ∷ y ∷ l else y ∷ insert_before p x l) ≡ suc (suc (length l))
        go true e = refl
        go false e = ap suc e

  pub sum_step : (f : A → ℕ) (l : List A) (i : ℕ) (d : A) → i < length l → sum f (drop i l) ≡ f (get_or l i d) + sum f (drop (i + 1) l)
  unfolding sum
  sum_step f l i d h = rw (drop-step l i d h) refl

  pub sum-end : (f : A → ℕ) (l : List A) (i : ℕ) → length l ≤ i → sum f (drop i l) ≡ 0
  unfolding sum
  sum-end f l i h = rw (drop_of_length-le l h) refl

-- a blank that fails passes nowhere behind the list
module _ {A : Type 0} (p : A → Bool) (blank : A) (fails : p blank ≡ false) where
  some-blank : (n : ℕ) → some? p (replicate n blank) ≡ false
  unfolding some?
  some-blank zero = refl
  some-blank (suc n) = rw fails (some-blank n)

  pub some-padded : (cap : ℕ) (l : List A) → some? p (padded cap blank l) ≡ some? p l
  unfolding padded
  some-padded cap l = some-behind p l _ (some-blank (cap - length l))

-- where at most one passes p, one that passes p and q is the first that passes p
module _ {A : Type 0} (p q : A → Bool) where
  none_both : (l : List A) → count p l ≤ 0 → some? (λ (x : A). p x && q x) l ≡ false
  unfolding count some?
  none_both [] h = refl
  none_both (x ∷ l) h = go (p x) h (λ k. none_both l k)
    where
      go : (b : Bool) → (if b then suc (count p l) else count p l) ≤ 0 → (count p l ≤ 0 → some? (λ (x : A). p x && q x) l ≡ false) → (b && q x || some? (λ (x : A). p x && q x) l) ≡ false
      go true k r = absurd (not-suc-le-zero k)
      go false k r = r k

  pub some_first : (l : List A) (d : A) → count p l ≤ 1 → q d ≡ false → some? (λ (x : A). p x && q x) l ≡ q (first p d l)
  unfolding count some? first
  some_first [] d h e = sym e
  some_first (x ∷ l) d h e = go (p x) h (λ k. some_first l d k e)
    where
      go : (b : Bool) → (if b then suc (count p l) else count p l) ≤ 1 → (count p l ≤ 1 → some? (λ (x : A). p x && q x) l ≡ q (first p d l)) → (b && q x || some? (λ (x : A). p x && q x) l) ≡ q (if b then x else first p d l)
      go true k r = rw (none_both l (omega arith)) (or-false (q x))
      go false k r = r k

-- tests that agree pass the same
pub some_alike : {A : Type 0} (p q : A → Bool) (l : List A) → ((x : A) → p x ≡ q x) → some? p l ≡ some? q l
unfolding some?
some_alike p q [] e = refl
some_alike p q (x ∷ l) e = rw (e x, some_alike p q l e) refl
