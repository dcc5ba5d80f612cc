-- A loop over the places of the download codes that joins what all of them say.
-- Assumes nothing.
use Prim.Native.Nat.{ℕ, suc, ◌+◌, ◌-◌, ◌≤◌, ◌<◌}
use native.Mathlib.Omega.{arith}
use native.Mathlib.Numerals.{add-one}
use mathlib.Core.Path.{◌≡◌, refl, sym, ap, ◌∙◌}
use mathlib.Core.Bool.{Bool, true, false, ◌&&◌, ◌||◌}
use mathlib.Core.List.{List}
use lib.ListN.{length, take, drop, get_or, length-take, length-drop}
use lib.Seq.{get_or-take, get_or-drop}
use Rattle.lists.proofs.Walk.{some_alike}
use Rattle.sets.specs.Sets.{has?, meets, numbers}
use Rattle.lists.proofs.Truth.{or-false, or_assoc}
use Rattle.rules.specs.Events.{first_download}
use Rattle.events_shown.specs.Turns.{some_from, any_code}

-- the loop has joined what the places before e say
pub record Joining (p : ℕ → Bool) (any : Bool) (e : ℕ) : Type 0 where
  pub from : first_download ≤ e
  pub to : e ≤ 18
  pub left : any_code p ≡ (any || some_from p (18 - e) e)

module _ (p : ℕ → Bool) where
  pub joining-none : Joining p false first_download
  joining-none = record { from = omega arith; to = omega arith; left = refl }

  step : (e : ℕ) → e < 18 → some_from p (18 - e) e ≡ (p e || some_from p (18 - (e + 1)) (e + 1))
  unfolding some_from
  step e h =
      let n : 18 - e ≡ suc (18 - (e + 1)) = omega arith in
      ap (λ (k : ℕ). some_from p k e) n ∙ rw (add-one e) refl

  pub joining-more : (any is : Bool) (e : ℕ) → e < 18 → is ≡ p e → Joining p any e → Joining p (any || is) (e + 1)
  joining-more any is e h f o =
      record {
        from = omega (arith, o.from);
        to = omega arith;
        left = o.left ∙ ap (λ (b : Bool). any || b) (step e h ∙ rw f refl) ∙ sym (or_assoc any is (some_from p (18 - (e + 1)) (e + 1)));
      }

  pub joining-all : (any : Bool) (e : ℕ) → 18 ≤ e → Joining p any e → any ≡ any_code p
  unfolding some_from
  joining-all any e h o = let n : 18 - e ≡ 0 = omega arith in sym (o.left ∙ ap (λ (k : ℕ). any || some_from p k e) n ∙ or-false any)

-- THE SETS of the downloads, as a part of the array: the one at i is that of place i + 5
module _ (g : List ℕ) {part : List ℕ} (is : part ≡ take 13 (drop 5 g)) where
  pub set-at : (i : ℕ) → i < length part → (get_or part i 0 ≡ get_or g (i + 5) 0) × (i + 5 < 18)
  set-at i h =
      let k : i < 13 = omega (arith, ap length is, length-take 13 (drop 5 g), h) in
      let e : 5 + i ≡ i + 5 = omega arith in
      (ap (λ (l : List ℕ). get_or l i 0) is ∙ get_or-take 13 (drop 5 g) i 0 k ∙ get_or-drop 5 g i 0 ∙ ap (λ n. get_or g n 0) e, omega (arith, k))

  pub set-past : length g ≡ 20 → (i : ℕ) → length part ≤ i → 18 ≤ i + 5
  set-past long i h = omega (arith, ap length is, length-take 13 (drop 5 g), length-drop 5 g, long, h)

-- a set meets another as the other meets it
pub meets-swap : (a b : ℕ) → meets a b ≡ meets b a
meets-swap a b = some_alike _ _ numbers (λ k. and-swapped (has? a k) (has? b k))
  where
    and-swapped : (x y : Bool) → (x && y) ≡ (y && x)
    and-swapped true true = refl
    and-swapped true false = refl
    and-swapped false true = refl
    and-swapped false false = refl
