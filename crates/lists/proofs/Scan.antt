-- Laws of loops that test a list from the front: what is left from an index on decides, with what was found where they go to the end.
-- Assumes nothing.
use Prim.Native.Nat.{ℕ, suc, ◌+◌, ◌≤◌, ◌<◌}
use native.Mathlib.Numerals.{add-one}
use mathlib.Core.Path.{◌≡◌, refl, sym, ap, ◌∙◌}
use mathlib.Core.Bool.{Bool, true, false, ◌||◌}
use mathlib.Core.List.{List}
use lib.ListN.{length, drop, get_or, drop_of_length-le}
use lib.Seq.{drop-cons}
use Rattle.lists.specs.Lists.{some?}
use Rattle.lists.proofs.Truth.{or-false, or_assoc}

module _ {A : Type 0} (p : A → Bool) (l : List A) (i : ℕ) where
  pub some_more : (d : A) → i < length l → p (get_or l i d) ≡ false → some? p (drop i l) ≡ some? p (drop (i + 1) l)
  unfolding some?
  some_more d h e = rw (drop-cons l i d h, e, add-one) refl

  pub some-stop : (d : A) → i < length l → p (get_or l i d) ≡ true → some? p (drop i l) ≡ true
  unfolding some?
  some-stop d h e = rw (drop-cons l i d h, e) refl

  pub some_end : length l ≤ i → some? p (drop i l) ≡ false
  unfolding some?
  some_end h = rw (drop_of_length-le l h) refl

-- a loop that goes to the end and tells whether one passes: what was found and what is left decide
module _ {A : Type 0} (p : A → Bool) (l : List A) where
  pub record Telling (all found : Bool) (i : ℕ) : Type 0 where
    pub left : all ≡ (found || some? p (drop i l))

  pub telling-more : (i : ℕ) (d : A) {x all found : Bool} → i < length l → x ≡ p (get_or l i d) → Telling all found i → Telling all (found || x) (i + 1)
  unfolding some?
  telling-more i d {found = found} h e o =
      record {
        left =
            o.left
            ∙ ap (λ (k : List A). found || some? p k) (drop-cons l i d h)
            ∙ rw (e, add-one i) (sym (or_assoc found (p (get_or l i d)) (some? p (drop (suc i) l))));
      }

  pub telling-all : (i : ℕ) {all found : Bool} → length l ≤ i → Telling all found i → found ≡ all
  unfolding some?
  telling-all i {found = found} h o = sym (o.left ∙ ap (λ (k : List A). found || some? p k) (drop_of_length-le l h) ∙ or-false found)
