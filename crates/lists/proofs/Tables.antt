-- An array by its index: its length, what is read and stored in a place, that every list is one, and one mapped.
-- Assumes nothing.
use Prim.Native.Nat.{ℕ, zero, suc, ◌<◌}
use native.Mathlib.Omega.{arith}
use mathlib.Core.Path.{◌≡◌, refl, sym, ap, ap₂, ◌∙◌}
use mathlib.Core.Bool.{Bool, true, false}
use mathlib.Core.List.{List, [], ◌∷◌, map}
use lib.ListN.{length, get_or, set}
use borrow.Author.Tests.{eq-eqb, ne_eqb, eqb-true, eqb-false}
use native.Mathlib.Nat.{le_of_suc-le-suc}
use Rattle.std.specs.Prelude.{if◌then◌else◌, ◌==◌}
use Rattle.lists.specs.Tables.{table}

pub suc-same : (j i : ℕ) → (suc j == suc i) ≡ (j == i)
suc-same j i = go (j == i) refl
  where
    go : (b : Bool) → (j == i) ≡ b → (suc j == suc i) ≡ b
    go true e = let q = eqb-true j i e in eq-eqb (suc j) (suc i) (omega arith)
    go false e = ne_eqb (suc j) (suc i) (λ z. eqb-false j i e (omega arith))

module _ {A : Type 0} where
  pub table-length : (n : ℕ) (f : ℕ → A) → length (table n f) ≡ n
  unfolding table
  table-length zero f = refl
  table-length (suc n) f = ap suc (table-length n (λ i. f (suc i)))

  pub table_at : (n : ℕ) (f : ℕ → A) (i : ℕ) (d : A) → i < n → get_or (table n f) i d ≡ f i
  unfolding table
  table_at zero f i d h = absurd (omega arith)
  table_at (suc n) f zero d h = refl
  table_at (suc n) f (suc i) d h = table_at n (λ i. f (suc i)) i d (le_of_suc-le-suc h)

  pub table-alike : (n : ℕ) (f g : ℕ → A) → ((i : ℕ) → i < n → f i ≡ g i) → table n f ≡ table n g
  unfolding table
  table-alike zero f g h = refl
  table-alike (suc n) f g h =
      ap₂ (λ (x : A) (l : List A). x ∷ l) (h 0 (omega arith)) (table-alike n (λ i. f (suc i)) (λ i. g (suc i)) (λ i k. h (suc i) (omega arith)))

  pub table-set : (n : ℕ) (f : ℕ → A) (i : ℕ) (x : A) → set (table n f) i x ≡ table n (λ j. if j == i then x else f j)
  unfolding table
  table-set zero f i x = refl
  table-set (suc n) f zero x = ap (λ (l : List A). x ∷ l) (table-alike n _ _ (λ j h. ap (λ (b : Bool). if b then x else f (suc j)) (sym (ne_eqb (suc j) 0 (λ z. omega arith)))))
  table-set (suc n) f (suc i) x =
      ap₂ (λ (y : A) (l : List A). y ∷ l)
      (ap (λ (b : Bool). if b then x else f 0) (sym (ne_eqb 0 (suc i) (λ z. omega arith))))
      (table-set n (λ j. f (suc j)) i x ∙ table-alike n _ _ (λ j h. ap (λ (b : Bool). if b then x else f (suc j)) (sym (suc-same j i))))

  pub table-list : (l : List A) (d : A) → table (length l) (λ i. get_or l i d) ≡ l
  unfolding table
  table-list [] d = refl
  table-list (x ∷ l) d = ap (λ (k : List A). x ∷ k) (table-list l d)

pub map-table : {A B : Type 0} (g : A → B) (n : ℕ) (f : ℕ → A) → map g (table n f) ≡ table n (λ i. g (f i))
unfolding table
map-table g zero f = refl
map-table g (suc n) f = ap (λ (l : List _). g (f 0) ∷ l) (map-table g n (λ i. f (suc i)))
