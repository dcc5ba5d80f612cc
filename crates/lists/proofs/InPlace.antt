-- A loop over an array that puts f of each element in its place: what stands after i elements, one turn, and the end.
-- Assumes nothing.
use Prim.Native.Nat.{ℕ, suc, ◌+◌, ◌≤◌, ◌<◌}
use native.Mathlib.Omega.{arith}
use native.Mathlib.Numerals.{add-one}
use mathlib.Core.Path.{◌≡◌, refl, ap, ◌∙◌}
use mathlib.Core.List.{List, ◌++◌, map, append-nil}
use lib.ListN.{length, take, drop, get_or, set, drop_of_length-le}
use lib.Seq.{take_all, take-suc, drop-cons, append_snoc, set_at, get_or_at, length-take-le}
use Rattle.lists.proofs.Mapped.{map-length, map-append}

module _ {A : Type 0} (f : A → A) where
  abbrev pub mapped_to : ℕ → List A → List A
  mapped_to i l = map f (take i l) ++ drop i l

  passed : (l : List A) (i : ℕ) → i < length l → length (map f (take i l)) ≡ i
  passed l i h = map-length f (take i l) ∙ length-take-le i l (omega arith)

  -- the element at i is still the list's
  pub mapped-here : (l row : List A) (i : ℕ) (d : A) → i < length l → row ≡ mapped_to i l → get_or row i d ≡ get_or l i d
  mapped-here l row i d h e = rw (e, drop-cons l i d h) (get_or_at (map f (take i l)) _ _ d i (passed l i h))

  pub mapped-more : (l row : List A) (i : ℕ) (d x : A) → i < length l → row ≡ mapped_to i l → x ≡ f (get_or row i d) → set row i x ≡ mapped_to (i + 1) l
  mapped-more l row i d x h e v =
      let here = v ∙ ap f (mapped-here l row i d h e) in
      ap (λ (r : List A). set r i x) e
      ∙ rw (drop-cons l i d h, set_at (map f (take i l)) (get_or l i d) (drop (suc i) l) x i (passed l i h), add-one, take-suc l i d h, map-append, append_snoc, here) refl

  pub mapped-all : (l row : List A) (i : ℕ) → length l ≤ i → row ≡ mapped_to i l → row ≡ map f l
  mapped-all l row i h e = e ∙ rw (take_all i l h, drop_of_length-le l h) (append-nil (map f l))
