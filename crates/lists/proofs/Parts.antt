-- Laws of the part of a slice from a place on, as the slice's rule gives it, and of what stands there.
-- Assumes nothing.
use Prim.Native.Nat.{ℕ, ◌+◌, ◌-◌, ◌≤◌, ◌<◌}
use native.Mathlib.Omega.{arith}
use mathlib.Core.Path.{◌≡◌, refl, sym, ap, ◌∙◌}
use mathlib.Core.List.{List, ◌∷◌, ◌++◌}
use lib.ListN.{length, get_or, take, drop, length-drop, drop_of_length-le}
use lib.Seq.{take_all, take-nil, drop-length, get_or-drop, drop-drop, drop-append_seam}

module _ {A : Type 0} (s : List A) where
  pub part-rest : (at : ℕ) → take (length s - at) (drop at s) ≡ drop at s
  part-rest at = take_all (length s - at) (drop at s) (omega (arith, length-drop at s))

  -- from the end on there is as little as behind it
  pub part_none : (at : ℕ) → length s < at → take (length s - length s) (drop (length s) s) ≡ drop at s
  part_none at h =
      let few : length s ≤ at = omega arith in
      rw (drop-length s, drop_of_length-le s few, take-nil (length s - length s)) refl

-- what stands from a place on: its elements, its length, and what stands behind a part of it
module _ {A : Type 0} (s : List A) (at : ℕ) {l : List A} (here : drop at s ≡ l) where
  pub get_or-here : (k : ℕ) (d : A) → get_or s (at + k) d ≡ get_or l k d
  get_or-here k d = sym (get_or-drop at s k d) ∙ ap (λ (r : List A). get_or r k d) here

  pub length-here : at ≤ length s → length s ≡ at + length l
  length-here h = omega (arith, length-drop at s, ap length here)

module _ {A : Type 0} (s : List A) (at : ℕ) where
  pub first-here : {x : A} {l : List A} (d : A) → drop at s ≡ x ∷ l → get_or s at d ≡ x
  first-here d here = let z : at ≡ at + 0 = omega arith in ap (λ n. get_or s n d) z ∙ get_or-here s at here 0 d

  pub rest-here : (l r : List A) → drop at s ≡ l ++ r → drop (at + length l) s ≡ r
  rest-here l r here = sym (drop-drop (length l) at s) ∙ ap (drop (length l)) here ∙ drop-append_seam l r
