-- Laws of `count`: of lists joined, thinned, pictured and stored to; and that as many apart in 1..n are no more than n.
-- Assumes nothing.
use Prim.Native.Nat.{ℕ, zero, suc, ◌+◌, ◌≤◌}
use native.Mathlib.Omega.{arith}
use mathlib.Core.Path.{◌≡◌, refl, sym, ap, ◌∙◌}
use mathlib.Core.Bool.{Bool, true, false, ◌&&◌, ◌||◌}
use mathlib.Core.List.{List, [], ◌∷◌, ◌++◌, map}
use lib.ListN.{length, set, replicate, length-append}
use borrow.Author.Tests.{eqb-true, leb-true, leb-false, le-leb}
use Rattle.lists.specs.Tests.{◌≤?◌}
use Rattle.std.specs.Prelude.{if◌then◌else◌, ◌==◌}
use Rattle.lists.specs.Lists.{Every, some?, keep, count, change, insert_at, in?, repeats?}
use Rattle.lists.proofs.Decided.{clashing, neither, both, same}
use Rattle.lists.proofs.Every.{every-so}
use Rattle.lists.proofs.Keep.{keep_append, keep-insert, length-keep}

module _ {A : Type 0} (p : A → Bool) where
  -- to count is to keep, and take the length
  pub count-is : (l : List A) → count p l ≡ length (keep p l)
  unfolding count keep
  count-is [] = refl
  count-is (x ∷ l) = go (p x) (count-is l)
    where
      go : (b : Bool) → count p l ≡ length (keep p l) → (if b then suc (count p l) else count p l) ≡ length (if b then x ∷ keep p l else keep p l)
      go true e = ap suc e
      go false e = e

  pub count-length : (l : List A) → count p l ≤ length l
  count-length l = omega (arith, count-is l, length-keep p l)

  pub count-append : (l k : List A) → count p (l ++ k) ≡ count p l + count p k
  count-append l k = omega (arith, count-is (l ++ k), ap length (keep_append p l k), length-append (keep p l) (keep p k), count-is l, count-is k)

  pub count-insert_at : (n : ℕ) (x : A) (l : List A) → count p (insert_at n x l) ≡ count p l + (if p x then 1 else 0)
  count-insert_at n x l = count-is (insert_at n x l) ∙ keep-insert p n x l ∙ ap (λ (k : ℕ). k + (if p x then 1 else 0)) (sym (count-is l))

  pub count-keep : (q : A → Bool) (l : List A) → count p (keep q l) ≡ count (λ x. q x && p x) l
  unfolding count keep
  count-keep q [] = refl
  count-keep q (x ∷ l) = go (q x) (count-keep q l)
    where
      go : (t : Bool) → count p (keep q l) ≡ count (λ x. q x && p x) l → count p (if t then x ∷ keep q l else keep q l) ≡ (if t && p x then suc (count (λ x. q x && p x) l) else count (λ x. q x && p x) l)
      go true e = rw e refl
      go false e = e

  pub count_map : {B : Type 0} (f : B → A) (l : List B) → count p (map f l) ≡ count (λ x. p (f x)) l
  unfolding count
  count_map f [] = refl
  count_map f (x ∷ l) = rw (count_map f l) refl

  -- one place is stored to
  pub count_set : (l : List A) (i : ℕ) (x : A) → count p (set l i x) ≤ count p l + (if p x then 1 else 0)
  unfolding count
  count_set [] i x = omega arith
  count_set (y ∷ l) zero x = go (p x) (p y)
    where
      go : (s t : Bool) → (if s then suc (count p l) else count p l) ≤ (if t then suc (count p l) else count p l) + (if s then 1 else 0)
      go true true = omega arith
      go true false = omega arith
      go false true = omega arith
      go false false = omega arith
  count_set (y ∷ l) (suc i) x = go (p y) (if p x then 1 else 0) (count_set l i x)
    where
      go : (t : Bool) (n : ℕ) → count p (set l i x) ≤ count p l + n → (if t then suc (count p (set l i x)) else count p (set l i x)) ≤ (if t then suc (count p l) else count p l) + n
      go true n h = omega arith
      go false n h = omega arith

  -- none, or some
  pub count-missed : (l : List A) → some? p l ≡ false → count p l ≡ 0
  unfolding some? count
  count-missed [] e = refl
  count-missed (x ∷ l) e = rw (neither (p x) (some? p l) e).0 (count-missed l (neither (p x) (some? p l) e).1)

  pub count-some : (l : List A) → some? p l ≡ true → 1 ≤ count p l
  unfolding some? count
  count-some [] e = clashing e refl
  count-some (x ∷ l) e = go (p x) e (count-some l)
    where
      go : (t : Bool) → (t || some? p l) ≡ true → (some? p l ≡ true → 1 ≤ count p l) → 1 ≤ (if t then suc (count p l) else count p l)
      go true q f = omega arith
      go false q f = f q

  pub count-each : (l : List A) → Every (λ x. p x ≡ true) l → count p l ≡ length l
  unfolding Every count
  count-each [] e = refl
  count-each (x ∷ l) e = rw e.0 (ap suc (count-each l e.1))

  pub count_none : ((x : A) → p x ≡ false) → (l : List A) → count p l ≡ 0
  unfolding count
  count_none e [] = refl
  count_none e (x ∷ l) = rw (e x) (count_none e l)

  pub count-replicate : (n : ℕ) (x : A) → p x ≡ false → count p (replicate n x) ≡ 0
  unfolding count
  count-replicate zero x e = refl
  count-replicate (suc n) x e = rw e (count-replicate n x e)

  module _ (q : A → Bool) where
    pub count-alike : ((x : A) → p x ≡ q x) → (l : List A) → count p l ≡ count q l
    unfolding count
    count-alike e [] = refl
    count-alike e (x ∷ l) = rw (e x, count-alike e l) refl

    pub count-within : ((x : A) → p x ≡ true → q x ≡ true) → (l : List A) → count p l ≤ count q l
    unfolding count
    count-within e [] = omega arith
    count-within e (x ∷ l) = go (p x) (q x) refl refl (count-within e l)
      where
        go : (s t : Bool) → p x ≡ s → q x ≡ t → count p l ≤ count q l → (if s then suc (count p l) else count p l) ≤ (if t then suc (count q l) else count q l)
        go true true a b h = omega arith
        go true false a b h = clashing (e x a) b
        go false true a b h = omega arith
        go false false a b h = h

    pub count-either : (l : List A) → count (λ x. p x || q x) l ≤ count p l + count q l
    unfolding count
    count-either [] = omega arith
    count-either (x ∷ l) = go (p x) (q x) (count-either l)
      where
        go : (s t : Bool) → count (λ x. p x || q x) l ≤ count p l + count q l
            → (if s || t then suc (count (λ x. p x || q x) l) else count (λ x. p x || q x) l) ≤ (if s then suc (count p l) else count p l) + (if t then suc (count q l) else count q l)
        go true true h = omega arith
        go true false h = omega arith
        go false true h = omega arith
        go false false h = h

    pub count-apart : ((x : A) → p x ≡ true → q x ≡ false) → (l : List A) → count (λ x. p x || q x) l ≡ count p l + count q l
    unfolding count
    count-apart e [] = refl
    count-apart e (x ∷ l) = go (p x) (q x) refl refl (count-apart e l)
      where
        go : (s t : Bool) → p x ≡ s → q x ≡ t → count (λ x. p x || q x) l ≡ count p l + count q l
            → (if s || t then suc (count (λ x. p x || q x) l) else count (λ x. p x || q x) l) ≡ (if s then suc (count p l) else count p l) + (if t then suc (count q l) else count q l)
        go true true a b h = clashing b (e x a)
        go true false a b h = omega arith
        go false true a b h = omega arith
        go false false a b h = h

-- what is kept is counted no more often
pub count_kept : {A : Type 0} (p q : A → Bool) (l : List A) → count p (keep q l) ≤ count p l
count_kept p q l = omega (arith, count-keep p q l, count-within (λ x. q x && p x) p (λ x e. (both (q x) (p x) e).1) l)

-- numbers in 1..n of which no two are the same are at most n
module _ {A : Type 0} (f : A → ℕ) (l : List A) (apart : (k : ℕ) → count (λ x. f x == k) l ≤ 1) where
  up_to : (n : ℕ) → count (λ x. 1 ≤? f x && f x ≤? n) l ≤ n
  up_to zero = omega (arith, count_none (λ x. 1 ≤? f x && f x ≤? 0) (λ x. none (f x)) l)
    where
      none : (k : ℕ) → (1 ≤? k && k ≤? 0) ≡ false
      none k = go (1 ≤? k) (k ≤? 0) refl refl
        where
          go : (s t : Bool) → (1 ≤? k) ≡ s → (k ≤? 0) ≡ t → (s && t) ≡ false
          go true true a b = absurd (omega (arith, leb-true 1 k a, leb-true k 0 b))
          go true false a b = refl
          go false t a b = refl
  up_to (suc n) =
      omega (
        arith,
        count-within (λ x. 1 ≤? f x && f x ≤? suc n) (λ x. (1 ≤? f x && f x ≤? n) || f x == suc n) (λ x. split (f x)) l,
        count-either (λ x. 1 ≤? f x && f x ≤? n) (λ x. f x == suc n) l,
        up_to n,
        apart (suc n),
      )
    where
      split : (k : ℕ) → (1 ≤? k && k ≤? suc n) ≡ true → ((1 ≤? k && k ≤? n) || k == suc n) ≡ true
      split k = go (1 ≤? k) (k ≤? suc n) (k ≤? n) (k == suc n) refl refl refl refl
        where
          go : (a b c d : Bool) → (1 ≤? k) ≡ a → (k ≤? suc n) ≡ b → (k ≤? n) ≡ c → (k == suc n) ≡ d → (a && b) ≡ true → (a && c || d) ≡ true
          go true b true d p q r s e = refl
          go true b false true p q r s e = refl
          go true true false false p q r s e =
              let h : k ≡ suc n = omega (arith, leb-true k (suc n) q, leb-false k n r) in
              clashing (rw h (same (suc n))) s
          go true false false false p q r s e = clashing e refl
          go false b c d p q r s e = clashing e refl

  pub few-apart : (n : ℕ) → Every (λ x. (1 ≤ f x) × (f x ≤ n)) l → length l ≤ n
  few-apart n e =
      let h = every-so (λ x. (1 ≤ f x) × (f x ≤ n)) (λ x. (1 ≤? f x && f x ≤? n) ≡ true) (λ x h. rw (le-leb 1 (f x) h.0, le-leb (f x) n h.1) refl) l e in
      omega (arith, up_to n, count-each (λ x. 1 ≤? f x && f x ≤? n) l h)

-- numbers that repeat neither among themselves nor those of another list, where no two are the same
pub count-fresh : (l k : List ℕ) → repeats? l k ≡ false → (i : ℕ) → count (λ n. n == i) k ≤ 1 → count (λ n. n == i) k + count (λ n. n == i) l ≤ 1
unfolding repeats? in? count
count-fresh [] k e i h = omega arith
count-fresh (n ∷ l) k e i h = go (n == i) refl (count-fresh l k (neither (in? n l || in? n k) (repeats? l k) e).1 i h)
  where
    apart : (in? n l ≡ false) × (in? n k ≡ false)
    apart = neither (in? n l) (in? n k) (neither (in? n l || in? n k) (repeats? l k) e).0

    go : (t : Bool) → (n == i) ≡ t → count (λ n. n == i) k + count (λ n. n == i) l ≤ 1 → count (λ n. n == i) k + (if t then suc (count (λ n. n == i) l) else count (λ n. n == i) l) ≤ 1
    go true q r =
        let z : count (λ m. m == i) l ≡ 0 = rw (← eqb-true n i q) (count-missed (λ m. m == n) l apart.0) in
        let y : count (λ m. m == i) k ≡ 0 = rw (← eqb-true n i q) (count-missed (λ m. m == n) k apart.1) in
        omega arith
    go false q r = r

module _ {A : Type 0} (p : A → Bool) where
  -- a change that is of no account to the test
  pub count-change : (q : A → Bool) (f : A → A) → ((x : A) → p (f x) ≡ p x) → (l : List A) → count p (change q f l) ≡ count p l
  unfolding count change
  count-change q f e [] = refl
  count-change q f e (x ∷ l) = go (q x) (count-change q f e l)
    where
      go : (b : Bool) → count p (change q f l) ≡ count p l → count p (if b then f x ∷ l else x ∷ change q f l) ≡ count p (x ∷ l)
      go true r = rw (e x) refl
      go false r = ap (λ (n : ℕ). if p x then suc n else n) r

  pub none-counted : (l : List A) → count p l ≤ 0 → some? p l ≡ false
  unfolding count some?
  none-counted [] h = refl
  none-counted (x ∷ l) h = go (p x) h (λ k. none-counted l k)
    where
      go : (b : Bool) → (if b then suc (count p l) else count p l) ≤ 0 → (count p l ≤ 0 → some? p l ≡ false) → (b || some? p l) ≡ false
      go true k r = absurd (omega arith)
      go false k r = r k
