-- Laws of `sum` and `gather`: of lists joined and thinned, of one element in the whole, of one that counts alone, and of counting twice.
-- Assumes nothing.
use Prim.Native.Nat.{ℕ, suc, ◌+◌, ◌≤◌}
use native.Mathlib.Omega.{arith}
use mathlib.Core.Path.{◌≡◌, refl, ap, ◌∙◌}
use mathlib.Core.Bool.{Bool, true, false, ◌||◌}
use mathlib.Core.List.{List, [], ◌∷◌, ◌++◌}
use lib.ListN.{length}
use Rattle.std.specs.Prelude.{if◌then◌else◌}
use Rattle.lists.specs.Lists.{Every, some?, keep, first, count, sum, gather}
use Rattle.lists.proofs.Decided.{clashing}
use Rattle.lists.proofs.Counts.{count-append}
use Rattle.lists.proofs.Firsts.{some-append}

module _ {A : Type 0} (f : A → ℕ) where
  pub sum-append : (l k : List A) → sum f (l ++ k) ≡ sum f l + sum f k
  unfolding sum
  sum-append [] k = omega arith
  sum-append (x ∷ l) k = omega (arith, sum-append l k)

  pub sum-keep : (p : A → Bool) (l : List A) → sum f (keep p l) ≤ sum f l
  unfolding sum keep
  sum-keep p [] = omega arith
  sum-keep p (x ∷ l) = go (p x) (sum-keep p l)
    where
      go : (b : Bool) → sum f (keep p l) ≤ sum f l → sum f (if b then x ∷ keep p l else keep p l) ≤ f x + sum f l
      go true h = omega arith
      go false h = omega arith

  -- the first that passes has its part in the whole
  pub sum_first : (p : A → Bool) (d : A) (l : List A) → some? p l ≡ true → f (first p d l) ≤ sum f l
  unfolding sum some? first
  sum_first p d [] h = clashing h refl
  sum_first p d (x ∷ l) h = go (p x) h (sum_first p d l)
    where
      go : (b : Bool) → (b || some? p l) ≡ true → (some? p l ≡ true → f (first p d l) ≤ sum f l) → f (if b then x else first p d l) ≤ f x + sum f l
      go true q r = omega arith
      go false q r = omega (arith, r q)

  pub sum_ones : (l : List A) → Every (λ x. f x ≡ 1) l → sum f l ≡ length l
  unfolding Every sum
  sum_ones [] e = refl
  sum_ones (x ∷ l) e = omega (arith, e.0, sum_ones l e.1)

  module _ (g : A → ℕ) where
    pub sum-within : (l : List A) → Every (λ x. f x ≤ g x) l → sum f l ≤ sum g l
    unfolding Every sum
    sum-within [] e = omega arith
    sum-within (x ∷ l) e = omega (arith, e.0, sum-within l e.1)

    pub sum_both : (l : List A) → sum (λ x. f x + g x) l ≡ sum f l + sum g l
    unfolding sum
    sum_both [] = refl
    sum_both (x ∷ l) = omega (arith, sum_both l)

    pub sum_alike : (l : List A) → Every (λ x. f x ≡ g x) l → sum f l ≡ sum g l
    unfolding Every sum
    sum_alike [] e = refl
    sum_alike (x ∷ l) e = omega (arith, e.0, sum_alike l e.1)

  sum-passed : (p : A → Bool) (l : List A) → sum (λ x. if p x then suc (f x) else f x) l ≡ count p l + sum f l
  unfolding sum count
  sum-passed p [] = refl
  sum-passed p (x ∷ l) = go (p x) (sum-passed p l)
    where
      go : (b : Bool) {n : ℕ} → n ≡ count p l + sum f l → (if b then suc (f x) else f x) + n ≡ (if b then suc (count p l) else count p l) + (f x + sum f l)
      go true e = omega arith
      go false e = omega arith

pub sum-zero : {A : Type 0} (l : List A) → sum (λ x. 0) l ≡ 0
unfolding sum
sum-zero [] = refl
sum-zero (x ∷ l) = omega (arith, sum-zero l)

-- those that are related, counted from the one side and from the other
pub sum-turned : {A B : Type 0} (r : A → B → Bool) (l : List A) (k : List B) → sum (λ x. count (r x) k) l ≡ sum (λ y. count (λ x. r x y) l) k
unfolding sum count
sum-turned r l [] = sum-zero l
sum-turned r l (y ∷ k) = sum-passed (λ x. count (r x) k) (λ x. r x y) l ∙ ap (λ (n : ℕ). count (λ x. r x y) l + n) (sum-turned r l k)

-- to count what is gathered
pub count-gather : {A B : Type 0} (p : B → Bool) (f : A → List B) (l : List A) → count p (gather f l) ≡ sum (λ x. count p (f x)) l
unfolding sum count gather
count-gather p f [] = refl
count-gather p f (x ∷ l) = omega (arith, count-append p (f x) (gather f l), count-gather p f l)

-- one of what is gathered passes
pub some-gather : {A B : Type 0} (p : B → Bool) (f : A → List B) (l : List A) → some? p (gather f l) ≡ some? (λ x. some? p (f x)) l
unfolding some? gather
some-gather p f [] = refl
some-gather p f (x ∷ l) = some-append p (f x) (gather f l) ∙ ap (λ (b : Bool). some? p (f x) || b) (some-gather p f l)

-- a number for each that passes, where one does
module _ {A : Type 0} (p : A → Bool) (n : ℕ) where
  abbrev given : A → ℕ
  given x = if p x then n else 0

  given-none : (l : List A) → count p l ≤ 0 → sum given l ≡ 0
  unfolding sum count
  given-none [] h = refl
  given-none (x ∷ l) h = go (p x) h (given-none l)
    where
      go : (b : Bool) → (if b then suc (count p l) else count p l) ≤ 0 → (count p l ≤ 0 → sum given l ≡ 0) → (if b then n else 0) + sum given l ≡ 0
      go true k r = absurd (omega arith)
      go false k r = omega (arith, r k)

  pub given-once : (l : List A) → count p l ≡ 1 → sum given l ≡ n
  unfolding sum count
  given-once [] h = absurd (omega arith)
  given-once (x ∷ l) h = go (p x) h (given-once l)
    where
      go : (b : Bool) → (if b then suc (count p l) else count p l) ≡ 1 → (count p l ≡ 1 → sum given l ≡ n) → (if b then n else 0) + sum given l ≡ n
      go true k r = omega (arith, given-none l (omega arith))
      go false k r = omega (arith, r k)
