-- The numbers 1 to 8: the one that an owner is, and what is counted over them.
-- Assumes nothing.
use Prim.Native.Nat.{ℕ, zero, suc, ◌≤◌, ◌<◌}
use native.Mathlib.Omega.{arith}
use mathlib.Core.Path.{◌≡◌, refl, sym, ap, ◌∙◌}
use mathlib.Core.Bool.{Bool, true, false}
use mathlib.Core.List.{List, [], ◌∷◌}
use lib.ListN.{length, get_or, drop, drop_of_length-le}
use lib.Seq.{drop-cons}
use Rattle.std.specs.Prelude.{if◌then◌else◌, ◌==◌}
use Rattle.lists.specs.Lists.{some?, first, count, in?, times}
use Rattle.lists.proofs.Every.{every-all}
use Rattle.lists.proofs.Sums.{sum-turned, sum_alike, sum_ones}
use Rattle.lists.proofs.Times.{sum-counts, each-time}
use Rattle.rules.specs.Timers.{owner_of}
use Rattle.history.specs.Named.{one_to_eight, the_one}

-- what holds of 1 to 8 holds of each number from 1 to 8
from-1-to-8 : (P : ℕ → Type 0) → P 1 × P 2 × P 3 × P 4 × P 5 × P 6 × P 7 × P 8 → (n : ℕ) → 1 ≤ n → n ≤ 8 → P n
from-1-to-8 P p zero a b = absurd (omega arith)
from-1-to-8 P p (suc zero) a b = p.0
from-1-to-8 P p (suc (suc zero)) a b = p.1
from-1-to-8 P p (suc (suc (suc zero))) a b = p.2
from-1-to-8 P p (suc (suc (suc (suc zero)))) a b = p.3
from-1-to-8 P p (suc (suc (suc (suc (suc zero))))) a b = p.4
from-1-to-8 P p (suc (suc (suc (suc (suc (suc zero)))))) a b = p.5
from-1-to-8 P p (suc (suc (suc (suc (suc (suc (suc zero))))))) a b = p.6
from-1-to-8 P p (suc (suc (suc (suc (suc (suc (suc (suc zero)))))))) a b = p.7
from-1-to-8 P p (suc (suc (suc (suc (suc (suc (suc (suc (suc n))))))))) a b = absurd (omega arith)

pub among-eight : (n : ℕ) → 1 ≤ n → n ≤ 8 → in? n one_to_eight ≡ true
unfolding in? some? one_to_eight
among-eight = from-1-to-8 (λ n. in? n one_to_eight ≡ true) (refl, refl, refl, refl, refl, refl, refl, refl)

-- a number up to 8 is the one that passes the test for it
itself : (o : ℕ) → o ≤ 8 → the_one (λ n. o == n) ≡ o
unfolding the_one one_to_eight first
itself zero h = refl
itself (suc o) h = from-1-to-8 (λ n. the_one (λ k. n == k) ≡ n) (refl, refl, refl, refl, refl, refl, refl, refl) (suc o) (omega arith) h

pub the-one-is : (o : ℕ) (p : ℕ → Bool) → o ≤ 8 → ((n : ℕ) → 1 ≤ n → (o == n) ≡ p n) → o ≡ the_one p
unfolding the_one one_to_eight first
the-one-is o p h e =
    sym (itself o h)
    ∙ rw (e 1 (omega arith), e 2 (omega arith), e 3 (omega arith), e 4 (omega arith), e 5 (omega arith), e 6 (omega arith), e 7 (omega arith), e 8 (omega arith)) refl

-- Eight owners, one by one.
spelled : (l : List ℕ) → length l ≡ 8
    → l ≡ get_or l 0 0 ∷ get_or l 1 0 ∷ get_or l 2 0 ∷ get_or l 3 0 ∷ get_or l 4 0 ∷ get_or l 5 0 ∷ get_or l 6 0 ∷ get_or l 7 0 ∷ []
spelled l h =
    next 0 (omega arith) (next 1 (omega arith) (next 2 (omega arith) (next 3 (omega arith) (next 4 (omega arith) (next 5 (omega arith) (next 6 (omega arith) (next 7 (omega arith) (drop_of_length-le l {i = 8} (omega arith)))))))))
  where
    next : (i : ℕ) {r : List ℕ} → i < length l → drop (suc i) l ≡ r → drop i l ≡ get_or l i 0 ∷ r
    next i k e = drop-cons l i 0 k ∙ ap (λ (x : List ℕ). get_or l i 0 ∷ x) e

pub counted-by-place : (p : ℕ → Bool) (l : List ℕ) → length l ≡ 8 → count p l ≡ count (λ k. p (owner_of l k)) one_to_eight
unfolding owner_of one_to_eight count
counted-by-place p l h = ap (count p) (spelled l h)

-- each of them is there once
pub each-once : (n : ℕ) → 1 ≤ n → n ≤ 8 → count (λ k. n == k) one_to_eight ≡ 1
unfolding count one_to_eight
each-once = from-1-to-8 (λ x. count (λ k. x == k) one_to_eight ≡ 1) (refl, refl, refl, refl, refl, refl, refl, refl)

-- A list in which no number from 1 to 8 is twice, nor any other once: its length is how many of them are there.
pub length-due : (l : List ℕ) (p : ℕ → Bool) → ((n : ℕ) → times n l ≡ (if p n then 1 else 0))
    → ((n : ℕ) → p n ≡ true → (1 ≤ n) × (n ≤ 8)) → length l ≡ count p one_to_eight
unfolding times count one_to_eight
length-due l p e within =
    sym (sum_ones (λ x. count (λ n. x == n) one_to_eight) l (each-time _ l once))
    ∙ sym (sum-turned (λ n x. x == n) one_to_eight l)
    ∙ sum_alike (λ n. times n l) (λ n. if p n then 1 else 0) one_to_eight (every-all _ e one_to_eight)
    ∙ sum-counts p one_to_eight
  where
    once : (n : ℕ) → 1 ≤ times n l → count (λ k. n == k) one_to_eight ≡ 1
    once n h = go (p n) refl (e n)
      where
        go : (b : Bool) → p n ≡ b → times n l ≡ (if b then 1 else 0) → count (λ k. n == k) one_to_eight ≡ 1
        go true q r = each-once n (within n q).0 (within n q).1
        go false q r = absurd (omega arith)
