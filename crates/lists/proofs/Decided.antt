-- What a test that went one way says: of a conjunction, a disjunction, and a comparison.
-- Assumes nothing.
use Prim.Native.Nat.{ℕ}
use mathlib.Core.Path.{◌≡◌, refl, sym, ◌∙◌}
use mathlib.Core.Bool.{Bool, true, false, ◌&&◌, ◌||◌, true≢false}
use borrow.Author.Tests.{eqb-true, eqb-false, eq-eqb, ne_eqb}
use Rattle.std.specs.Prelude.{◌==◌}

pub clashing {ℓ} : {P : Type ℓ} {b : Bool} → b ≡ true → b ≡ false → P
clashing p q = absurd (true≢false (sym p ∙ q))

pub neither : (a b : Bool) → (a || b) ≡ false → (a ≡ false) × (b ≡ false)
neither true b e = clashing refl e
neither false b e = (refl, e)

pub both : (a b : Bool) → (a && b) ≡ true → (a ≡ true) × (b ≡ true)
both true b e = (refl, e)
both false b e = clashing e refl

pub or-either : (a b : Bool) → a ≡ true → (a || b) ≡ true
or-either true b e = refl
or-either false b e = clashing e refl

pub same : (n : ℕ) → (n == n) ≡ true
same n = eq-eqb n n refl

-- a comparison says the same from either side
pub turned : (a b : ℕ) → (a == b) ≡ (b == a)
turned a b = go (a == b) refl
  where
    go : (t : Bool) → (a == b) ≡ t → t ≡ (b == a)
    go true e = sym (eq-eqb b a (sym (eqb-true a b e)))
    go false e = sym (ne_eqb b a (λ q. eqb-false a b e (sym q)))

-- a number cannot be two
pub one_only : (a b c : ℕ) → (a == b) ≡ true → (b == c) ≡ false → (a == c) ≡ false
one_only a b c p q = ne_eqb a c (λ z. eqb-false b c q (sym (eqb-true a b p) ∙ z))

-- what cannot hold does not
pub refuted : (b : Bool) → (b ≡ true → ⊥) → b ≡ false
refuted true h = absurd (h refl)
refuted false h = refl
