-- Laws of `Every` and `Ordered`: parts of a list, one more, an insertion; and that an order leaves one list only.
-- Assumes nothing.
use Prim.Native.Nat.{ℕ, suc, ◌≤◌}
use native.Mathlib.Omega.{arith}
use mathlib.Core.Path.{◌≡◌, refl, sym}
use mathlib.Core.Bool.{Bool, true, false}
use mathlib.Core.List.{List, [], ◌∷◌, ◌++◌, map}
use borrow.Author.Tests.{eqb-true, eq-eqb}
use Rattle.std.specs.Prelude.{if◌then◌else◌, ◌==◌}
use Rattle.lists.specs.Lists.{Every, Ordered, keep, change, insert_before, count, times}
use Rattle.lists.proofs.Decided.{clashing, same}
use Rattle.lists.proofs.Every.{every-so, every-both, every_append, every-keep, every_map}

module _ {A : Type 0} where
  pub every-zip : (P Q R : A → Type 0) → ((x : A) → P x → Q x → R x) → (l : List A) → Every P l → Every Q l → Every R l
  every-zip P Q R f l e o = every-so _ R (λ x r. f x r.0 r.1) l (every-both P Q l e o)

  module _ (P : A → Type 0) where
    -- a function that keeps it, wherever it is put to use
    pub every-changes : (p : A → Bool) (f : A → A) → ((x : A) → P x → P (f x)) → (l : List A) → Every P l → Every P (change p f l)
    unfolding Every change
    every-changes p f k [] e = tt
    every-changes p f k (x ∷ l) e = go (p x) (every-changes p f k l e.1)
      where
        go : (b : Bool) → Every P (change p f l) → Every P (if b then f x ∷ l else x ∷ change p f l)
        go true i = (k x e.0, e.1)
        go false i = (e.0, i)

    pub every-insert : (f : A → Bool) (x : A) (l : List A) → P x → Every P l → Every P (insert_before f x l)
    unfolding Every insert_before
    every-insert f x [] p e = (p, e)
    every-insert f x (y ∷ l) p e = go (f y) (every-insert f x l p e.1)
      where
        go : (b : Bool) → Every P (insert_before f x l) → Every P (if b then x ∷ y ∷ l else y ∷ insert_before f x l)
        go true i = (p, e)
        go false i = (e.0, i)

  module _ (R : A → A → Type 0) where
    pub ordered-keep : (p : A → Bool) (l : List A) → Ordered R l → Ordered R (keep p l)
    unfolding Ordered keep
    ordered-keep p [] o = tt
    ordered-keep p (x ∷ l) o = go (p x) (ordered-keep p l o.1)
      where
        go : (b : Bool) → Ordered R (keep p l) → Ordered R (if b then x ∷ keep p l else keep p l)
        go true i = (every-so _ (R x) (λ y r. r.0) (keep p l) (every-keep (R x) p l o.0), i)
        go false i = i

    pub ordered-snoc : (l : List A) (x : A) → Ordered R l → Every (λ y. R y x) l → Ordered R (l ++ x ∷ [])
    unfolding Ordered Every
    ordered-snoc [] x o e = (tt, tt)
    ordered-snoc (y ∷ l) x o e = (every_append (R y) l (x ∷ []) o.0 (e.0, tt), ordered-snoc l x o.1 e.1)

    -- another order, that follows from this one where a condition holds of each
    pub ordered-imply : (S : A → A → Type 0) (P : A → Type 0) → ((x y : A) → P x → P y → R x y → S x y) → (l : List A) → Every P l
        → Ordered R l → Ordered S l
    unfolding Ordered Every
    ordered-imply S P f [] e o = tt
    ordered-imply S P f (x ∷ l) e o = (every-zip P (R x) (S x) (λ y p r. f x y e.0 p r) l e.1 o.0, ordered-imply S P f l e.1 o.1)

    -- x stands before the first that f finds: before all that it finds, and behind the others
    module _ (f : A → Bool) (x : A) (up : (y z : A) → R y z → f y ≡ true → f z ≡ true) where
      -- x stands on one side or the other of each
      abbrev Sides : A → Type 0
      Sides y = (f y ≡ true → R x y) × (f y ≡ false → R y x)

      before-all : (y : A) → f y ≡ true → (l : List A) → Every (R y) l → Every Sides l → Every (R x) l
      unfolding Every
      before-all y h [] e s = tt
      before-all y h (z ∷ l) e s = (s.0.0 (up y z e.0 h), before-all y h l e.1 s.1)

      pub ordered-insert : (l : List A) → Every Sides l → Ordered R l → Ordered R (insert_before f x l)
      unfolding Ordered Every insert_before
      ordered-insert [] s o = (tt, tt)
      ordered-insert (y ∷ l) s o = go (f y) refl (ordered-insert l s.1 o.1)
        where
          go : (b : Bool) → f y ≡ b → Ordered R (insert_before f x l) → Ordered R (if b then x ∷ y ∷ l else y ∷ insert_before f x l)
          go true h i = ((s.0.0 h, before-all y h l o.0 s.1), o)
          go false h i = (every-insert (R y) f x l (s.0.1 h) o.0, i)

module _ {A B : Type 0} (g : A → B) where
  pub every-from : (P : B → Type 0) (l : List A) → Every P (map g l) → Every (λ x. P (g x)) l
  unfolding Every
  every-from P [] e = tt
  every-from P (x ∷ l) e = (e.0, every-from P l e.1)

  pub ordered_of : (R : B → B → Type 0) (l : List A) → Ordered (λ x y. R (g x) (g y)) l → Ordered R (map g l)
  unfolding Ordered
  ordered_of R [] o = tt
  ordered_of R (x ∷ l) o = (every_map (R (g x)) g l o.0, ordered_of R l o.1)

  pub ordered-from : (R : B → B → Type 0) (l : List A) → Ordered R (map g l) → Ordered (λ x y. R (g x) (g y)) l
  unfolding Ordered
  ordered-from R [] o = tt
  ordered-from R (x ∷ l) o = (every-from (R (g x)) l o.0, ordered-from R l o.1)

-- what holds of each holds of a number that is there
pub each-there : (P : ℕ → Type 0) (n : ℕ) (l : List ℕ) → Every P l → 1 ≤ times n l → P n
unfolding Every times count
each-there P n [] e h = absurd (omega arith)
each-there P n (m ∷ l) e h = go (m == n) refl h (λ r. each-there P n l e.1 r)
  where
    go : (b : Bool) → (m == n) ≡ b → 1 ≤ (if b then suc (times n l) else times n l) → (1 ≤ times n l → P n) → P n
    go true q r f = rw (← eqb-true m n q) e.0
    go false q r f = f r

-- Numbers in an order that no two can have both ways: how often each occurs settles the list.
module _ (R : ℕ → ℕ → Type 0) (one_way : (n m : ℕ) → R n m → R m n → ⊥) where
  pub one_list : (l k : List ℕ) → Ordered R l → Ordered R k → ((n : ℕ) → times n l ≡ times n k) → l ≡ k
  unfolding Ordered times count
  one_list [] [] o q e = refl
  one_list [] (m ∷ k) o q e = absurd (omega (arith, rw (same m) at (e m)))
  one_list (n ∷ l) [] o q e = absurd (omega (arith, rw (same n) at (e n)))
  one_list (n ∷ l) (m ∷ k) o q e = go (n == m) refl (m == n) refl (λ r. one_list l k o.1 q.1 r)
    where
      cancel : (i : ℕ) (b : Bool) → (if b then suc (times i l) else times i l) ≡ (if b then suc (times i k) else times i k)
          → times i l ≡ times i k
      cancel i true h = omega arith
      cancel i false h = h

      go : (b : Bool) → (n == m) ≡ b → (c : Bool) → (m == n) ≡ c → (((i : ℕ) → times i l ≡ times i k) → l ≡ k) → n ∷ l ≡ m ∷ k
      go true h c g f = let z : n ≡ m = eqb-true n m h in let w : l ≡ k = f (λ i. cancel i (n == i) (rw (← z) at (e i))) in cc
      go false h true g f = clashing (eq-eqb n m (sym (eqb-true m n g))) h
      go false h false g f = absurd (one_way n m (each-there (R n) m l o.0 (omega (arith, rw (h, same m) at (e m)))) (each-there (R m) n k q.0 (omega (arith, rw (g, same n) at (e n)))))
