-- Look-ups by a key: whether an element has a number, and which is the first that has it, after each change of the list.
-- Assumes nothing.
use Prim.Native.Nat.{ℕ}
use mathlib.Core.Path.{◌≡◌, refl, sym, ap, ◌∙◌}
use mathlib.Core.Bool.{Bool, true, false, not, ◌||◌}
use mathlib.Core.List.{List, [], ◌∷◌, ◌++◌, map}
use borrow.Author.Tests.{eqb-true, eq-eqb}
use Rattle.std.specs.Prelude.{if◌then◌else◌, ◌==◌}
use Rattle.lists.specs.Lists.{some?, keep, first, change}
use Rattle.lists.proofs.Decided.{clashing}

-- numbers that are told apart by a third
pub told-apart : {P : Type 0} (a b c : ℕ) → (a == b) ≡ true → (a == c) ≡ true → (b == c) ≡ false → P
told-apart a b c p q r = clashing (eq-eqb b c (sym (eqb-true a b p) ∙ eqb-true a c q)) r

module _ {A : Type 0} (key : A → ℕ) (d : A) where
  -- one more at the end
  pub some_more : (n : ℕ) (l : List A) (x : A)
      → some? (λ y. key y == n) (l ++ x ∷ []) ≡ (if key x == n then true else some? (λ y. key y == n) l)
  unfolding some?
  some_more n [] x = go (key x == n)
    where
      go : (b : Bool) → (b || false) ≡ (if b then true else false)
      go true = refl
      go false = refl
  some_more n (y ∷ l) x = rw (some_more n l x) (go (key y == n) (key x == n))
    where
      go : (b c : Bool)
          → (b || (if c then true else some? (λ y. key y == n) l)) ≡ (if c then true else (b || some? (λ y. key y == n) l))
      go true true = refl
      go true false = refl
      go false true = refl
      go false false = refl

  pub first_more : (n : ℕ) (l : List A) (x : A) → some? (λ y. key y == key x) l ≡ false
      → first (λ y. key y == n) d (l ++ x ∷ []) ≡ (if key x == n then x else first (λ y. key y == n) d l)
  unfolding first some?
  first_more n [] x h = refl
  first_more n (y ∷ l) x h = go (key y == key x) (key y == n) (key x == n) refl refl refl h (λ r. first_more n l x r)
    where
      go : (a b c : Bool) → (key y == key x) ≡ a → (key y == n) ≡ b → (key x == n) ≡ c
          → (a || some? (λ y. key y == key x) l) ≡ false
          → (some? (λ y. key y == key x) l ≡ false → first (λ y. key y == n) d (l ++ x ∷ []) ≡ (if key x == n then x else first (λ y. key y == n) d l))
          → (if b then y else first (λ y. key y == n) d (l ++ x ∷ [])) ≡ (if c then x else (if b then y else first (λ y. key y == n) d l))
      go true b c e f g r i = clashing refl r
      go false true true e f g r i = clashing (eq-eqb (key y) (key x) (eqb-true (key y) n f ∙ sym (eqb-true (key x) n g))) e
      go false true false e f g r i = refl
      go false false c e f g r i = i r ∙ ap (λ (t : Bool). if t then x else first (λ y. key y == n) d l) g

  -- those with one number taken out
  pub some-less : (n m : ℕ) (l : List A)
      → some? (λ y. key y == n) (keep (λ y. not (key y == m)) l) ≡ (if m == n then false else some? (λ y. key y == n) l)
  unfolding some? keep
  some-less n m [] = go (m == n)
    where
      go : (b : Bool) → false ≡ (if b then false else false)
      go true = refl
      go false = refl
  some-less n m (y ∷ l) = go (key y == m) (key y == n) (m == n) refl refl refl (some-less n m l)
    where
      go : (a b c : Bool) → (key y == m) ≡ a → (key y == n) ≡ b → (m == n) ≡ c
          → some? (λ y. key y == n) (keep (λ y. not (key y == m)) l) ≡ (if m == n then false else some? (λ y. key y == n) l)
          → some? (λ y. key y == n) (if not a then y ∷ keep (λ y. not (key y == m)) l else keep (λ y. not (key y == m)) l) ≡ (if c then false else (b || some? (λ y. key y == n) l))
      go true true false e f g i = told-apart (key y) m n e f g
      go true true true e f g i = i ∙ rw g refl
      go true false c e f g i = i ∙ rw g refl
      go false true true e f g i = clashing (eq-eqb (key y) m (eqb-true (key y) n f ∙ sym (eqb-true m n g))) e
      go false true false e f g i = rw f refl
      go false false c e f g i = rw (f, i, g) refl

  pub first-less : (n m : ℕ) (l : List A)
      → first (λ y. key y == n) d (keep (λ y. not (key y == m)) l) ≡ (if m == n then d else first (λ y. key y == n) d l)
  unfolding first keep
  first-less n m [] = go (m == n)
    where
      go : (b : Bool) → d ≡ (if b then d else d)
      go true = refl
      go false = refl
  first-less n m (y ∷ l) = go (key y == m) (key y == n) (m == n) refl refl refl (first-less n m l)
    where
      go : (a b c : Bool) → (key y == m) ≡ a → (key y == n) ≡ b → (m == n) ≡ c
          → first (λ y. key y == n) d (keep (λ y. not (key y == m)) l) ≡ (if m == n then d else first (λ y. key y == n) d l)
          → first (λ y. key y == n) d (if not a then y ∷ keep (λ y. not (key y == m)) l else keep (λ y. not (key y == m)) l) ≡ (if c then d else (if b then y else first (λ y. key y == n) d l))
      go true true false e f g i = told-apart (key y) m n e f g
      go true true true e f g i = i ∙ rw g refl
      go true false c e f g i = i ∙ rw g refl
      go false true true e f g i = clashing (eq-eqb (key y) m (eqb-true (key y) n f ∙ sym (eqb-true m n g))) e
      go false true false e f g i = rw f refl
      go false false c e f g i = rw (f, i, g) refl

  -- a function that leaves the key
  module _ (f : A → A) (same : (x : A) → key (f x) ≡ key x) where
    pub keys-map : (l : List A) → map key (map f l) ≡ map key l
    keys-map [] = refl
    keys-map (x ∷ l) = rw (same x, keys-map l) refl

    pub keys-change : (p : A → Bool) (l : List A) → map key (change p f l) ≡ map key l
    unfolding change
    keys-change p [] = refl
    keys-change p (x ∷ l) = go (p x) (keys-change p l)
      where
        go : (b : Bool) → map key (change p f l) ≡ map key l → map key (if b then f x ∷ l else x ∷ change p f l) ≡ key x ∷ map key l
        go true e = ap (λ (k : ℕ). k ∷ map key l) (same x)
        go false e = ap (λ (k : List ℕ). key x ∷ k) e

    pub first-map : f d ≡ d → (n : ℕ) (l : List A) → first (λ y. key y == n) d (map f l) ≡ f (first (λ y. key y == n) d l)
    unfolding first
    first-map z n [] = sym z
    first-map z n (x ∷ l) =
        ap (λ (k : ℕ). if k == n then f x else first (λ y. key y == n) d (map f l)) (same x)
        ∙ go (key x == n) (first-map z n l)
      where
        go : (b : Bool) → first (λ y. key y == n) d (map f l) ≡ f (first (λ y. key y == n) d l)
            → (if b then f x else first (λ y. key y == n) d (map f l)) ≡ f (if b then x else first (λ y. key y == n) d l)
        go true e = refl
        go false e = e

    pub first-change : (n m : ℕ) (l : List A) → some? (λ y. key y == m) l ≡ true
        → first (λ y. key y == n) d (change (λ y. key y == m) f l) ≡ (if m == n then f (first (λ y. key y == n) d l) else first (λ y. key y == n) d l)
    unfolding first change some?
    first-change n m [] h = clashing h refl
    first-change n m (x ∷ l) h = go (key x == m) (key x == n) (m == n) refl refl refl h (λ r. first-change n m l r)
      where
        go : (a b c : Bool) → (key x == m) ≡ a → (key x == n) ≡ b → (m == n) ≡ c → (a || some? (λ y. key y == m) l) ≡ true
            → (some? (λ y. key y == m) l ≡ true → first (λ y. key y == n) d (change (λ y. key y == m) f l) ≡ (if m == n then f (first (λ y. key y == n) d l) else first (λ y. key y == n) d l))
            → first (λ y. key y == n) d (if a then f x ∷ l else x ∷ change (λ y. key y == m) f l) ≡ (if c then f (if b then x else first (λ y. key y == n) d l) else (if b then x else first (λ y. key y == n) d l))
        go true true true e g h r i = rw (same x, g) refl
        go true true false e g h r i = told-apart (key x) m n e g h
        go true false true e g h r i = clashing (eq-eqb (key x) n (eqb-true (key x) m e ∙ eqb-true m n h)) g
        go true false false e g h r i = rw (same x, g) refl
        go false true true e g h r i = clashing (eq-eqb (key x) m (eqb-true (key x) n g ∙ sym (eqb-true m n h))) e
        go false true false e g h r i = rw g refl
        go false false c e g h r i = rw (g, i r, h) refl

-- whether a number is there is a matter of the keys
module _ {A : Type 0} (key : A → ℕ) (n : ℕ) where
  some-of-keys : (l : List A) → some? (λ y. key y == n) l ≡ some? (λ x. x == n) (map key l)
  unfolding some?
  some-of-keys [] = refl
  some-of-keys (x ∷ l) = ap (λ (b : Bool). key x == n || b) (some-of-keys l)

  pub some-keys : (l k : List A) → map key l ≡ map key k → some? (λ y. key y == n) l ≡ some? (λ y. key y == n) k
  some-keys l k e = some-of-keys l ∙ ap (some? (λ x. x == n)) e ∙ sym (some-of-keys k)
