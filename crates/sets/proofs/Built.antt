-- A set built from its last digit to its first: one digit more, and that it fits a byte.
-- Assumes nothing.
use Prim.Native.Nat.{ℕ, zero, suc, ◌+◌, ◌-◌, ◌*◌, ◌^◌, ◌≤◌, ◌<◌}
use native.Mathlib.Nat.{pow-suc, le_of_suc-le-suc}
use native.Mathlib.Omega.{arith}
use mathlib.Core.Path.{◌≡◌, refl}
use mathlib.Core.Bool.{Bool, true, false}
use mathlib.Core.List.{List, [], ◌∷◌}
use lib.ListN.{length, drop, get_or, length-drop}
use lib.Pow.{pow_pos}
use Rattle.std.specs.Prelude.{if◌then◌else◌}
use Rattle.lists.proofs.Walk.{drop-step}
use Rattle.sets.specs.Sets.{valued}

valued-lt : (l : List Bool) (k : ℕ) → length l ≤ k → valued l < 2 ^ k
unfolding valued
valued-lt [] k h = pow_pos k
valued-lt (b ∷ l) zero h = absurd (omega arith)
valued-lt (b ∷ l) (suc k) h = go b (valued-lt l k (le_of_suc-le-suc h))
  where
    go : (b : Bool) → valued l < 2 ^ k → (if b then 1 else 0) + valued l * 2 < 2 ^ suc k
    go true r = omega (arith, pow-suc 2 k)
    go false r = omega (arith, pow-suc 2 k)

module _ (l : List Bool) (i s : ℕ) (some : 0 < i) (from : s ≡ valued (drop i l)) where
  pub built-small : length l ≡ 8 → s < 128
  built-small n = omega (arith, valued-lt (drop i l) 7 (simp length-drop (omega arith)))

  built-more : (b : Bool) → i ≤ length l → get_or l (i - 1) false ≡ b → (if b then 1 else 0) + s * 2 ≡ valued (drop (i - 1) l)
  unfolding valued
  built-more b h e =
      let back : i - 1 + 1 ≡ i = omega arith in
      let step = rw back at (drop-step l (i - 1) false (omega arith)) in
      rw (step, e, from) refl

  pub built-yes : i ≤ length l → get_or l (i - 1) false ≡ true → s * 2 + 1 ≡ valued (drop (i - 1) l)
  built-yes h e = omega (arith, built-more true h e)

  pub built-no : i ≤ length l → get_or l (i - 1) false ≡ false → s * 2 ≡ valued (drop (i - 1) l)
  built-no h e = omega (arith, built-more false h e)
