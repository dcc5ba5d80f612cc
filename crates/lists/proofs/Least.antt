-- The smallest of the numbers that are not 0: one number more, in front or in a place, and those that count, of elements.
-- Assumes nothing.
use Prim.Native.Nat.{ℕ, zero, suc, ◌+◌, ◌<◌}
use native.Mathlib.Omega.{arith}
use mathlib.Core.Path.{◌≡◌, refl, sym, ap, ◌∙◌}
use mathlib.Core.Bool.{Bool, true, false, not, ◌&&◌}
use mathlib.Core.List.{List, [], ◌∷◌, map}
use lib.ListN.{length, drop, get_or, set}
use borrow.Author.Tests.{eq-eqb, ne_eqb}
use Rattle.std.specs.Prelude.{if◌then◌else◌, ◌==◌}
use Rattle.lists.specs.Lists.{Every, keep, smallest}
use Rattle.lists.proofs.Decided.{clashing}
use Rattle.lists.proofs.Every.{every-so, every-all, every-keep}
use Rattle.lists.proofs.Walk.{drop-step}

abbrev counts : ℕ → Bool
counts n = not (n == 0)

abbrev pub least_of : List ℕ → ℕ
least_of l = smallest (keep (λ n. not (n == 0)) l)

not_none : (n : ℕ) → counts n ≡ true → n ≡ 0 → ⊥
not_none n e z = clashing e (ap not (eq-eqb n 0 z))

smallest-counts : (x : ℕ) (l : List ℕ) → Every (λ n. counts n ≡ true) (x ∷ l) → smallest (x ∷ l) ≡ 0 → ⊥
unfolding smallest Every
smallest-counts x [] a = not_none x a.0
smallest-counts x (y ∷ l) a = let r = smallest-counts y l a.1 in let s = not_none x a.0 in λ z. omega (arith, r, s)

kept-count : (l : List ℕ) → Every (λ n. counts n ≡ true) (keep counts l)
kept-count l = every-so _ _ (λ n q. q.1) (keep counts l) (every-keep (λ n. Unit) counts l (every-all _ (λ n. tt) l))

-- one number more is compared with the smallest of the others
pub least_more : (x : ℕ) (l : List ℕ) → least_of (x ∷ least_of l ∷ []) ≡ least_of (x ∷ l)
unfolding keep smallest
least_more x l = go (counts x) (keep counts l) (kept-count l)
  where
    go : (b : Bool) (k : List ℕ) → Every (λ n. counts n ≡ true) k
        → smallest (if b then x ∷ keep counts (smallest k ∷ []) else keep counts (smallest k ∷ [])) ≡ smallest (if b then x ∷ k else k)
    go true [] a = refl
    go false [] a = refl
    go true (y ∷ k) a = rw (ne_eqb (smallest (y ∷ k)) 0 (smallest-counts y k a)) refl
    go false (y ∷ k) a = rw (ne_eqb (smallest (y ∷ k)) 0 (smallest-counts y k a)) refl

-- a loop from the last number to the first
pub least_step : (l : List ℕ) (i : ℕ) → i < length l → least_of (drop i l) ≡ least_of (get_or l i 0 ∷ least_of (drop (i + 1) l) ∷ [])
least_step l i h = ap least_of (drop-step l i 0 h) ∙ sym (least_more (get_or l i 0) (drop (i + 1) l))

-- those that count, of elements, where one that does not pass counts nothing
pub kept-given : {A : Type 0} (p : A → Bool) (f : A → ℕ) (l : List A)
    → keep (λ n. not (n == 0)) (map (λ x. if p x then f x else 0) l) ≡ map f (keep (λ x. p x && not (f x == 0)) l)
unfolding keep
kept-given p f [] = refl
kept-given p f (x ∷ l) = go (p x) (f x == 0) refl (kept-given p f l)
  where
    go : (b z : Bool) → (f x == 0) ≡ z → keep counts (map (λ x. if p x then f x else 0) l) ≡ map f (keep (λ x. p x && not (f x == 0)) l)
        → keep counts ((if b then f x else 0) ∷ map (λ x. if p x then f x else 0) l) ≡ map f (if b && not z then x ∷ keep (λ x. p x && not (f x == 0)) l else keep (λ x. p x && not (f x == 0)) l)
    go true true e r = rw e r
    go true false e r = rw e (ap (λ (k : List ℕ). f x ∷ k) r)
    go false z e r = r

-- a number in a place that counted nothing counts as one more
module _ (v : ℕ) where
  least-swap : (x : ℕ) (l : List ℕ) → least_of (x ∷ v ∷ l) ≡ least_of (v ∷ x ∷ l)
  unfolding keep smallest
  least-swap x l = go (counts x) (counts v) (keep counts l)
    where
      go : (a b : Bool) (k : List ℕ)
          → smallest (if a then x ∷ (if b then v ∷ k else k) else if b then v ∷ k else k) ≡ smallest (if b then v ∷ (if a then x ∷ k else k) else if a then x ∷ k else k)
      go true true [] = omega arith
      go true true (y ∷ k) = omega arith
      go true false k = refl
      go false true k = refl
      go false false k = refl

  pub least-set : (l : List ℕ) (i : ℕ) → i < length l → get_or l i 0 ≡ 0 → least_of (set l i v) ≡ least_of (v ∷ l)
  unfolding keep
  least-set [] i h e = absurd (omega arith)
  least-set (x ∷ l) zero h e = rw e refl
  least-set (x ∷ l) (suc i) h e =
      sym (least_more x (set l i v))
      ∙ ap (λ (n : ℕ). least_of (x ∷ n ∷ [])) (least-set l i (omega arith) e)
      ∙ least_more x (v ∷ l)
      ∙ least-swap x l
