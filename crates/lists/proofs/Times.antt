-- Laws of counts where at most one passes, or where two lists count the same; and of an insertion before the first that passes.
-- Assumes nothing.
use Prim.Native.Nat.{ℕ, suc, ◌+◌, ◌≤◌}
use native.Mathlib.Omega.{arith}
use mathlib.Core.Path.{◌≡◌, refl, sym, ap, ◌∙◌}
use mathlib.Core.Bool.{Bool, true, false, ◌&&◌, ◌||◌}
use mathlib.Core.List.{List, [], ◌∷◌, map}
use lib.ListN.{length}
use Rattle.std.specs.Prelude.{if◌then◌else◌, ◌==◌}
use Rattle.lists.specs.Lists.{Every, some?, count, first, change, insert_before, sum, times}
use Rattle.lists.proofs.Decided.{clashing, both, same}
use Rattle.lists.proofs.Firsts.{first-missed}
use Rattle.lists.proofs.Counts.{count-within, count-missed, count-some}

pub if-same : {A : Type 0} (b : Bool) (x : A) → (if b then x else x) ≡ x
if-same true x = refl
if-same false x = refl

pub if-map : {A B : Type 0} (f : A → B) (b : Bool) (x y : A) → f (if b then x else y) ≡ (if b then f x else f y)
if-map f true x y = refl
if-map f false x y = refl

-- one more where b holds, and one more where c does, in either order
more-more : (b c : Bool) (n : ℕ)
    → (if b then suc (if c then suc n else n) else (if c then suc n else n)) ≡ (if c then suc (if b then suc n else n) else (if b then suc n else n))
more-more true true n = refl
more-more true false n = refl
more-more false true n = refl
more-more false false n = refl

pub count-all : {A : Type 0} (l : List A) → count (λ x. true) l ≡ length l
unfolding count
count-all [] = refl
count-all (x ∷ l) = ap suc (count-all l)

module _ {A : Type 0} (p : A → Bool) where
  pub count-insert_before : (f : A → Bool) (x : A) (l : List A) → count p (insert_before f x l) ≡ count p (x ∷ l)
  unfolding count insert_before
  count-insert_before f x [] = refl
  count-insert_before f x (y ∷ l) = go (f y) (count-insert_before f x l)
    where
      go : (b : Bool) → count p (insert_before f x l) ≡ (if p x then suc (count p l) else count p l)
          → count p (if b then x ∷ y ∷ l else y ∷ insert_before f x l) ≡ (if p x then suc (if p y then suc (count p l) else count p l) else (if p y then suc (count p l) else count p l))
      go true e = refl
      go false e = rw e (more-more (p y) (p x) (count p l))

  -- lists with the same count both have one that passes, or neither
  pub some_alike : (l k : List A) → count p l ≡ count p k → some? p l ≡ some? p k
  some_alike l k e = go (some? p l) (some? p k) refl refl
    where
      go : (b c : Bool) → some? p l ≡ b → some? p k ≡ c → b ≡ c
      go true true f g = refl
      go true false f g = absurd (omega (arith, count-some p l f, count-missed p k g))
      go false true f g = absurd (omega (arith, count-missed p l f, count-some p k g))
      go false false f g = refl

  -- where at most one passes, it is the first
  pub count-one : (d : A) (q : A → Bool) (l : List A) → count p l ≤ 1
      → count (λ x. q x && p x) l ≡ (if some? p l && q (first p d l) then 1 else 0)
  unfolding count some? first
  count-one d q [] h = refl
  count-one d q (x ∷ l) h =
      go (p x) (q x) h (λ r. count-one d q l r)
      ∙ ap (λ (b : Bool). if (p x || some? p l) && b then 1 else 0) (sym (if-map q (p x) x (first p d l)))
    where
      part : count (λ y. q y && p y) l ≤ count p l
      part = count-within (λ y. q y && p y) p (λ y e. (both (q y) (p y) e).1) l

      go : (b a : Bool) → (if b then suc (count p l) else count p l) ≤ 1
          → (count p l ≤ 1 → count (λ y. q y && p y) l ≡ (if some? p l && q (first p d l) then 1 else 0))
          → (if a && b then suc (count (λ y. q y && p y) l) else count (λ y. q y && p y) l) ≡ (if (b || some? p l) && (if b then a else q (first p d l)) then 1 else 0)
      go true true r f = let z : count (λ y. q y && p y) l ≡ 0 = omega (arith, part) in ap suc z
      go true false r f = let z : count (λ y. q y && p y) l ≡ 0 = omega (arith, part) in z
      go false true r f = f r
      go false false r f = f r

  none-changed : (f : A → A) (l : List A) → count p l ≡ 0 → map (λ x. if p x then f x else x) l ≡ l
  unfolding count
  none-changed f [] h = refl
  none-changed f (x ∷ l) h = go (p x) h (λ r. none-changed f l r)
    where
      go : (b : Bool) → (if b then suc (count p l) else count p l) ≡ 0 → (count p l ≡ 0 → map (λ x. if p x then f x else x) l ≡ l)
          → (if b then f x else x) ∷ map (λ x. if p x then f x else x) l ≡ x ∷ l
      go true q r = absurd (omega arith)
      go false q r = ap (λ (k : List A). x ∷ k) (r q)

  -- .. and a change of it is a change of each
  pub change-each : (f : A → A) (l : List A) → count p l ≤ 1 → change p f l ≡ map (λ x. if p x then f x else x) l
  unfolding change count
  change-each f [] h = refl
  change-each f (x ∷ l) h = go (p x) h (λ r. change-each f l r)
    where
      go : (b : Bool) → (if b then suc (count p l) else count p l) ≤ 1
          → (count p l ≤ 1 → change p f l ≡ map (λ x. if p x then f x else x) l)
          → (if b then f x ∷ l else x ∷ change p f l) ≡ (if b then f x else x) ∷ map (λ x. if p x then f x else x) l
      go true q r = ap (λ (k : List A). f x ∷ k) (sym (none-changed f l (omega arith)))
      go false q r = ap (λ (k : List A). x ∷ k) (r q)

-- Lists that count the same by every test: what the first that passes is, where at most one does. Elements are told apart by e.
module _ {A : Type 0} (e : A → A → Bool) (itself : (x : A) → e x x ≡ true) (no_other : (x y : A) → e x y ≡ true → x ≡ y) where
  pub first_alike : (p : A → Bool) (d : A) (l k : List A) → ((q : A → Bool) → count q l ≡ count q k) → count p l ≤ 1
      → first p d l ≡ first p d k
  first_alike p d l k c h = go (some? p l) (some? p k) refl refl
    where
      here : count (λ x. e (first p d l) x && p x) l ≡ (if some? p l && e (first p d l) (first p d l) then 1 else 0)
      here = count-one p d (e (first p d l)) l h

      there : count (λ x. e (first p d l) x && p x) k ≡ (if some? p k && e (first p d l) (first p d k) then 1 else 0)
      there = count-one p d (e (first p d l)) k (omega (arith, c p))

      found : (b : Bool) → ◌≡◌ {A = ℕ} 1 (if b then 1 else 0) → b ≡ true
      found true q = refl
      found false q = absurd (omega arith)

      go : (b b' : Bool) → some? p l ≡ b → some? p k ≡ b' → first p d l ≡ first p d k
      go true true q r = no_other (first p d l) (first p d k) (found _ (sym (rw (q, itself (first p d l)) at here) ∙ c (λ x. e (first p d l) x && p x) ∙ (rw r at there)))
      go true false q r = clashing q (some_alike p l k (c p) ∙ r)
      go false true q r = clashing (some_alike p l k (c p) ∙ r) q
      go false false q r = first-missed p d l q ∙ sym (first-missed p d k r)

pub sum-counts : {A : Type 0} (p : A → Bool) (l : List A) → sum (λ x. if p x then 1 else 0) l ≡ count p l
unfolding sum count
sum-counts p [] = refl
sum-counts p (x ∷ l) = go (p x) (sum-counts p l)
  where
    go : (b : Bool) → sum (λ x. if p x then 1 else 0) l ≡ count p l
        → (if b then 1 else 0) + sum (λ x. if p x then 1 else 0) l ≡ (if b then suc (count p l) else count p l)
    go true e = omega arith
    go false e = omega arith

-- what holds of every number that is there holds of each
pub each-time : (P : ℕ → Type 0) (l : List ℕ) → ((n : ℕ) → 1 ≤ times n l → P n) → Every P l
unfolding times count Every
each-time P [] h = tt
each-time P (m ∷ l) h = (h m (rw (same m) (omega arith)), each-time P l (λ n r. h n (more (m == n) n r)))
  where
    more : (b : Bool) (n : ℕ) → 1 ≤ times n l → 1 ≤ (if b then suc (times n l) else times n l)
    more true n r = omega arith
    more false n r = r
