-- Whether a number is in a list: it is the first, or the others decide.
-- Assumes nothing.
use Prim.Native.Nat.{ℕ}
use mathlib.Core.Path.{◌≡◌, refl, sym, ◌∙◌}
use mathlib.Core.Bool.{Bool, true, false}
use mathlib.Core.List.{List, [], ◌∷◌}
use borrow.Author.Tests.{eq-eqb, ne_eqb}
use Rattle.std.specs.Prelude.{◌==◌}
use Rattle.lists.specs.Lists.{some?, in?}
use Rattle.lists.proofs.Truth.{or-false}
use Rattle.lists.proofs.Decided.{turned}

module _ (n k : ℕ) (l : List ℕ) where
  pub in-first : n ≡ k → in? n (k ∷ l) ≡ true
  unfolding in? some?
  in-first e = rw (eq-eqb k n (sym e)) refl

  pub in-others : {b : Bool} → (n ≡ k → ⊥) → in? n l ≡ b → in? n (k ∷ l) ≡ b
  unfolding in? some?
  in-others h e = rw (ne_eqb k n (λ z. h (sym z))) e

pub in-none : (n : ℕ) → in? n [] ≡ false
unfolding in? some?
in-none n = refl

pub in-alone : (n k : ℕ) → in? n (k ∷ []) ≡ (n == k)
unfolding in? some?
in-alone n k = or-false (k == n) ∙ turned k n
