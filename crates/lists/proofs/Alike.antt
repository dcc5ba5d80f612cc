-- When two lists are alike place by place, and two selections of one list in particular.
-- Assumes nothing.
use Prim.Native.Nat.{ℕ, suc, ◌+◌, ◌<◌}
use native.Mathlib.Omega.{arith}
use mathlib.Core.Path.{◌≡◌, refl, sym, ap, ◌∙◌}
use mathlib.Core.Bool.{Bool, true, false, not, ◌&&◌, ◌||◌}
use mathlib.Core.List.{List, [], ◌∷◌}
use lib.ListN.{length, take, drop, take-append-drop}
use borrow.Author.Tests.{eq-eqb}
use Rattle.std.specs.Prelude.{if◌then◌else◌}
use Rattle.lists.specs.Lists.{Every, some?, keep, first, change, insert_at, alike?, same?, in?, repeats?}
use Rattle.lists.proofs.Truth.{and-true, and-false, or-false}
use Rattle.lists.proofs.Every.{every-all}
use Rattle.lists.proofs.Keep.{keep_append, keep-insert}

-- lists of other lengths are not alike
pub unlike-length : {A : Type 0} (e : A → A → Bool) (l k : List A) → (length l ≡ length k → ⊥) → alike? e l k ≡ false
unfolding alike?
unlike-length e [] [] h = absurd (h refl)
unlike-length e [] (y ∷ k) h = refl
unlike-length e (x ∷ l) [] h = refl
unlike-length e (x ∷ l) (y ∷ k) h = rw (unlike-length e l k (λ z. h (ap suc z))) (and-false (e x y))

-- tests that agree on each element keep the same
pub keep-each : {A : Type 0} (p q : A → Bool) (l : List A) → Every (λ (x : A). p x ≡ q x) l → keep p l ≡ keep q l
unfolding keep Every
keep-each p q [] e = refl
keep-each p q (x ∷ l) e = rw (e.0, keep-each p q l e.1) refl

pub keep-alike : {A : Type 0} (p q : A → Bool) (l : List A) → ((x : A) → p x ≡ q x) → keep p l ≡ keep q l
keep-alike p q l e = keep-each p q l (every-all _ e l)

module _ {A : Type 0} (e : A → A → Bool) (self : (x : A) → e x x ≡ true) where
  -- a list is like itself
  pub alike_self : (l : List A) → alike? e l l ≡ true
  unfolding alike?
  alike_self [] = refl
  alike_self (x ∷ l) = rw (self x) (alike_self l)

  pub unlike-not : (l : List A) → not (alike? e l l) ≡ false
  unlike-not l = ap not (alike_self l)

  -- of two selections of a list, the second takes also what passes d
  module _ (p q d : A → Bool) (more : (x : A) → q x ≡ (p x || d x)) (apart : (x : A) → (p x && d x) ≡ false) where
    counts : (l : List A) → length (keep p l) + length (keep d l) ≡ length (keep q l)
    unfolding keep
    counts [] = refl
    counts (r ∷ l) = go (p r) (d r) (q r) (more r) (apart r) (counts l)
      where
        go : (x y z : Bool) → z ≡ (x || y) → (x && y) ≡ false → length (keep p l) + length (keep d l) ≡ length (keep q l)
            → length (if x then r ∷ keep p l else keep p l) + length (if y then r ∷ keep d l else keep d l) ≡ length (if z then r ∷ keep q l else keep q l)
        go true true z e f i = let w : ◌≡◌ {A = ℕ} 0 1 = cc in absurd (omega arith)
        go true false true e f i = omega arith
        go true false false e f i = let w : ◌≡◌ {A = ℕ} 0 1 = cc in absurd (omega arith)
        go false true true e f i = omega arith
        go false true false e f i = let w : ◌≡◌ {A = ℕ} 0 1 = cc in absurd (omega arith)
        go false false true e f i = let w : ◌≡◌ {A = ℕ} 0 1 = cc in absurd (omega arith)
        go false false false e f i = i

    none_more : (l : List A) → some? d l ≡ false → keep p l ≡ keep q l
    unfolding keep some?
    none_more [] z = refl
    none_more (r ∷ l) z = go (d r) refl z (λ h. none_more l h)
      where
        go : (y : Bool) → d r ≡ y → (y || some? d l) ≡ false → (some? d l ≡ false → keep p l ≡ keep q l) → (if p r then r ∷ keep p l else keep p l) ≡ (if q r then r ∷ keep q l else keep q l)
        go true h f i = cc
        go false h f i = rw (more r, h, or-false (p r), i f) refl

    some_more : (l : List A) → some? d l ≡ true → 0 < length (keep d l)
    unfolding keep some?
    some_more [] z = let w : ◌≡◌ {A = ℕ} 0 1 = cc in absurd (omega arith)
    some_more (r ∷ l) z = go (d r) z (λ h. some_more l h)
      where
        go : (y : Bool) → (y || some? d l) ≡ true → (some? d l ≡ true → 0 < length (keep d l)) → 0 < length (if y then r ∷ keep d l else keep d l)
        go true f i = omega arith
        go false f i = i f

    -- the selections differ exactly if something passes d
    pub differ-more : (l : List A) → not (alike? e (keep p l) (keep q l)) ≡ some? d l
    differ-more l = go (some? d l) refl
      where
        go : (b : Bool) → some? d l ≡ b → not (alike? e (keep p l) (keep q l)) ≡ b
        go true z = let n = some_more l z in ap not (unlike-length e (keep p l) (keep q l) (λ k. omega (arith, counts l)))
        go false z = rw (none_more l z) (unlike-not (keep q l))

    pub differ-less : (l : List A) → not (alike? e (keep q l) (keep p l)) ≡ some? d l
    differ-less l = go (some? d l) refl
      where
        go : (b : Bool) → some? d l ≡ b → not (alike? e (keep q l) (keep p l)) ≡ b
        go true z = let n = some_more l z in ap not (unlike-length e (keep q l) (keep p l) (λ k. omega (arith, counts l)))
        go false z = rw (none_more l z) (unlike-not (keep q l))

  module _ (p : A → Bool) where
    insert-hidden : (at : ℕ) (x : A) (l : List A) → p x ≡ false → keep p (insert_at at x l) ≡ keep p l
    unfolding insert_at keep
    insert-hidden at x l h = keep_append p (take at l) (x ∷ drop at l) ∙ rw h (sym (keep_append p (take at l) (drop at l)) ∙ ap (keep p) (take-append-drop at l))

    -- one that is put among others
    pub differ-insert : (at : ℕ) (x : A) (l : List A) → not (alike? e (keep p l) (keep p (insert_at at x l))) ≡ p x
    differ-insert at x l = go (p x) refl
      where
        go : (b : Bool) → p x ≡ b → not (alike? e (keep p l) (keep p (insert_at at x l))) ≡ b
        go true h = let n = rw h at (keep-insert p at x l) in ap not (unlike-length e (keep p l) (keep p (insert_at at x l)) (λ z. omega (arith, n)))
        go false h = rw (insert-hidden at x l h) (unlike-not (keep p l))

    -- one that takes the place of another: it passes and the other does not, or the reverse, or both do and are not alike
    unfoldable pub turns : A → A → Bool
    turns x y = if p x then (if p y then not (e x y) else true) else p y

    -- the first that passes q becomes f of it
    pub differ-change : (q : A → Bool) (f : A → A) (d : A) (l : List A) → some? q l ≡ true → not (alike? e (keep p l) (keep p (change q f l))) ≡ turns (first q d l) (f (first q d l))
    unfolding keep alike? turns change first some?
    differ-change q f d [] h = cc
    differ-change q f d (x ∷ l) h = go (q x) h (differ-change q f d l)
      where
        here : (a b : Bool) → not (alike? e (if a then x ∷ keep p l else keep p l) (if b then f x ∷ keep p l else keep p l)) ≡ (if a then (if b then not (e x (f x)) else true) else b)
        here true true = rw (alike_self (keep p l), and-true (e x (f x))) refl
        here true false = ap not (unlike-length e (x ∷ keep p l) (keep p l) (λ z. omega arith))
        here false true = ap not (unlike-length e (keep p l) (f x ∷ keep p l) (λ z. omega arith))
        here false false = unlike-not (keep p l)

        past : (a : Bool) {b : Bool} → not (alike? e (keep p l) (keep p (change q f l))) ≡ b → not (alike? e (if a then x ∷ keep p l else keep p l) (if a then x ∷ keep p (change q f l) else keep p (change q f l))) ≡ b
        past true i = rw (self x) i
        past false i = i

        go : (b : Bool) → (b || some? q l) ≡ true → (some? q l ≡ true → not (alike? e (keep p l) (keep p (change q f l))) ≡ turns (first q d l) (f (first q d l)))
            → not (alike? e (keep p (x ∷ l)) (keep p (if b then f x ∷ l else x ∷ change q f l))) ≡ turns (if b then x else first q d l) (f (if b then x else first q d l))
        go true z i = here (p x) (p (f x))
        go false z i = past (p x) (i z)

pub same_self : (l : List ℕ) → same? l l ≡ true
unfolding same?
same_self l = alike_self _ (λ n. eq-eqb n n refl) l

-- lists with the same numbers are alike to those that may stand again
pub repeats-alike : (l a b : List ℕ) → ((n : ℕ) → in? n a ≡ in? n b) → repeats? l a ≡ repeats? l b
unfolding repeats?
repeats-alike [] a b e = refl
repeats-alike (n ∷ l) a b e = rw (e n, repeats-alike l a b e) refl
