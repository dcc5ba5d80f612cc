-- A list whose elements have numbers of their own: a search by the number of an element finds that element, and a sum goes by the numbers.
-- Assumes nothing.
use Prim.Native.Nat.{ℕ, suc, ◌+◌, ◌≤◌}
use native.Mathlib.Omega.{arith}
use mathlib.Core.Path.{◌≡◌, refl, sym, ap, ap₂, ◌∙◌}
use mathlib.Core.Bool.{Bool, true, false, ◌&&◌, ◌||◌, or-true}
use mathlib.Core.List.{List, [], ◌∷◌}
use lib.ListN.{get_or}
use Rattle.std.specs.Prelude.{if◌then◌else◌, ◌==◌}
use Rattle.lists.specs.Lists.{Every, some?, first, count, index_of, sum}
use Rattle.lists.proofs.Decided.{both, same}
use Rattle.lists.proofs.Every.{every-so, every-both, every-all}
use Rattle.lists.proofs.Counts.{count-some, count-within, none-counted}
use Rattle.lists.proofs.Firsts.{first_passes, first-missed}
use Rattle.lists.proofs.Search.{first-is}
use Rattle.lists.proofs.Sums.{sum_both, sum_alike, sum-zero, given-once}

module _ {A : Type 0} (f : A → ℕ) where
  -- there is one with the number of each
  pub every-there : (l : List A) → Every (λ x. some? (λ y. f y == f x) l ≡ true) l
  unfolding Every some?
  every-there [] = tt
  every-there (x ∷ l) = (rw (same (f x)) refl, every-so _ (λ y. (f x == f y || some? (λ z. f z == f y) l) ≡ true) (λ y e. rw e (or-true (f x == f y))) l (every-there l))

  abbrev Apart : List A → Type 0
  Apart l = (n : ℕ) → count (λ x. f x == n) l ≤ 1

  apart-rest : (x : A) (l : List A) → Apart (x ∷ l) → Apart l
  unfolding count
  apart-rest x l h n = go (f x == n) (h n)
    where
      go : (b : Bool) → (if b then suc (count (λ x. f x == n) l) else count (λ x. f x == n) l) ≤ 1 → count (λ x. f x == n) l ≤ 1
      go true q = omega arith
      go false q = q

  pub every-own : (d : A) (l : List A) → Apart l → Every (λ x. first (λ y. f y == f x) d l ≡ x) l
  unfolding Every first count
  every-own d [] h = tt
  every-own d (x ∷ l) h =
      (rw (same (f x)) refl, every-so _ (λ y. (if f x == f y then x else first (λ z. f z == f y) d l) ≡ y) (λ y e. behind y (f x == f y) (h (f y)) e.0 e.1) l (every-both _ _ l (every-there l) (every-own d l (apart-rest x l h))))
    where
      behind : (y : A) (b : Bool) → (if b then suc (count (λ z. f z == f y) l) else count (λ z. f z == f y) l) ≤ 1 → some? (λ z. f z == f y) l ≡ true → first (λ z. f z == f y) d l ≡ y → (if b then x else first (λ z. f z == f y) d l) ≡ y
      behind y true q s e = absurd (omega (arith, count-some (λ z. f z == f y) l s))
      behind y false q s e = e

-- where at most one passes p, and one passes p and q, a search for p finds that one
module _ {A : Type 0} (p q : A → Bool) where
  pub index-both : (l : List A) → count p l ≤ 1 → some? (λ x. p x && q x) l ≡ true → index_of p l ≡ index_of (λ x. p x && q x) l
  unfolding count some? index_of
  index-both [] h e = refl
  index-both (x ∷ l) h e = go (p x) (q x) h e (index-both l)
    where
      go : (s t : Bool) → (if s then suc (count p l) else count p l) ≤ 1 → (s && t || some? (λ x. p x && q x) l) ≡ true
          → (count p l ≤ 1 → some? (λ x. p x && q x) l ≡ true → index_of p l ≡ index_of (λ x. p x && q x) l)
          → (if s then 0 else suc (index_of p l)) ≡ (if s && t then 0 else suc (index_of (λ x. p x && q x) l))
      go true true a b r = refl
      go true false a b r =
          absurd (omega (arith, count-some (λ x. p x && q x) l b, count-within (λ x. p x && q x) p (λ x e. (both (p x) (q x) e).0) l))
      go false t a b r = ap suc (r a b)

  pub first-both : (d : A) (l : List A) → count p l ≤ 1 → some? (λ x. p x && q x) l ≡ true → q (first p d l) ≡ true
  first-both d l h e =
      let same-one : first p d l ≡ first (λ x. p x && q x) d l = first-is p l d ∙ ap (λ (i : ℕ). get_or l i d) (index-both l h e) ∙ sym (first-is (λ x. p x && q x) l d) in
      rw same-one (both (p (first (λ x. p x && q x) d l)) _ (first_passes (λ x. p x && q x) d l e)).1

-- the sum by the numbers, where each element has one of them, and the default counts nothing
module _ {A : Type 0} (f : A → ℕ) (d : A) (size : A → ℕ) (nothing : size d ≡ 0) (numbers : List ℕ) where
  pub sum-numbers : (l : List A) → Apart f l → Every (λ x. count (λ n. f x == n) numbers ≡ 1) l → sum size l ≡ sum (λ n. size (first (λ x. f x == n) d l)) numbers
  unfolding sum count first Every
  sum-numbers [] h once = sym (ap (λ (k : ℕ). sum (λ n. k) numbers) nothing ∙ sum-zero numbers)
  sum-numbers (x ∷ l) h once =
      ap₂ (λ (a b : ℕ). a + b) (sym (given-once (λ n. f x == n) (size x) numbers once.0)) (sum-numbers l (apart-rest f x l h) once.1)
      ∙ sym (sum_both _ _ numbers)
      ∙ sym (sum_alike _ _ numbers (every-all (λ n. size (if f x == n then x else first (λ y. f y == n) d l) ≡ (if f x == n then size x else 0) + size (first (λ y. f y == n) d l)) (λ n. each n (f x == n) refl) numbers))
    where
      each : (n : ℕ) (b : Bool) → (f x == n) ≡ b → size (if b then x else first (λ y. f y == n) d l) ≡ (if b then size x else 0) + size (first (λ y. f y == n) d l)
      each n true e =
          let none : some? (λ y. f y == n) l ≡ false = none-counted _ l (omega (arith, rw e at (h n))) in
          omega (arith, ap size (first-missed (λ y. f y == n) d l none) ∙ nothing)
      each n false e = omega arith
