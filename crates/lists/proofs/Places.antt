-- Laws of places: what stands at one after another was set, or cleared; to set one past the end, or to what it holds, changes nothing.
-- Assumes nothing.
use Prim.Native.Nat.{ℕ, zero, suc, ◌-◌, ◌≤◌, ◌<◌}
use native.Mathlib.Omega.{arith}
use native.Mathlib.Nat.{not-suc-le-zero, le_of_suc-le-suc}
use mathlib.Core.Path.{◌≡◌, refl, sym, ap, ◌∙◌}
use mathlib.Core.Bool.{Bool, true, false}
use mathlib.Core.List.{List, [], ◌∷◌}
use lib.ListN.{length, get_or, set, replicate, get_or-eq_default}
use lib.Seq.{get_or-set_same, get_or-set_other}
use borrow.Author.Tests.{eqb-true, eqb-false}
use Rattle.std.specs.Prelude.{if◌then◌else◌, ◌==◌}

module _ {A : Type 0} (d : A) where
  pub set-held : (l : List A) (i : ℕ) → set l i (get_or l i d) ≡ l
  set-held [] i = refl
  set-held (x ∷ l) zero = refl
  set-held (x ∷ l) (suc i) = ap (λ (k : List A). x ∷ k) (set-held l i)

  pub get_d_set : (l : List A) (i j : ℕ) (x : A) → i < length l → get_or (set l i x) j d ≡ (if i == j then x else get_or l j d)
  get_d_set l i j x h = go (i == j) refl
    where
      go : (b : Bool) → (i == j) ≡ b → get_or (set l i x) j d ≡ (if b then x else get_or l j d)
      go true e = rw (← eqb-true i j e) (get_or-set_same l i x d h)
      go false e = get_or-set_other l i j x d (λ z. eqb-false i j e (sym z))

  pub get_or-blank : (n i : ℕ) → get_or (replicate n d) i d ≡ d
  get_or-blank zero i = refl
  get_or-blank (suc n) zero = refl
  get_or-blank (suc n) (suc i) = get_or-blank n i

  -- to set the default needs no bound
  cleared : (l : List A) (i : ℕ) → get_or (set l i d) i d ≡ d
  cleared [] i = refl
  cleared (x ∷ l) zero = refl
  cleared (x ∷ l) (suc i) = cleared l i

  pub get_or-clear : (l : List A) (i j : ℕ) → get_or (set l i d) j d ≡ (if i == j then d else get_or l j d)
  get_or-clear l i j = go (i == j) refl
    where
      go : (b : Bool) → (i == j) ≡ b → get_or (set l i d) j d ≡ (if b then d else get_or l j d)
      go true e = rw (← eqb-true i j e) (cleared l i)
      go false e = get_or-set_other l i j d d (λ z. eqb-false i j e (sym z))

-- what stands in a place that is there does not depend on the default
pub get_d_any : {A : Type 0} (l : List A) (i : ℕ) (d e : A) → i < length l → get_or l i d ≡ get_or l i e
get_d_any [] i d e h = absurd (not-suc-le-zero h)
get_d_any (x ∷ l) zero d e h = refl
get_d_any (x ∷ l) (suc i) d e h = get_d_any l i d e (le_of_suc-le-suc h)

-- places counted from 1: what stands in place n, and nothing past the last
module _ {A : Type 0} (d : A) (l : List A) where
  pub from_one : (n : ℕ) (e : A) → (n ≡ 0 → ⊥) → n - 1 < length l → get_or l (n - 1) e ≡ get_or (d ∷ l) n d
  from_one zero e z h = absurd (z refl)
  from_one (suc n) e z h = let q : suc n - 1 ≡ n = omega arith in get_d_any l (suc n - 1) e d h ∙ ap (λ (k : ℕ). get_or l k d) q

  pub past-last : (n : ℕ) → (n ≡ 0 → ⊥) → length l ≤ n - 1 → d ≡ get_or (d ∷ l) n d
  past-last zero z h = refl
  past-last (suc n) z h = sym (get_or-eq_default l d {n = n} (omega arith))
