-- Laws of `smallest`: it is within a bound; the same members have the same smallest; and it may be sought by the keys of elements that have keys of their own.
-- Assumes nothing.
use Prim.Native.Nat.{ℕ, ◌≤◌, min}
use native.Mathlib.Omega.{arith}
use mathlib.Core.Path.{◌≡◌, refl, sym, ap, ◌∙◌}
use mathlib.Core.Bool.{Bool, true, false, ◌&&◌, ◌||◌}
use mathlib.Core.List.{List, [], ◌∷◌, map}
use borrow.Author.Tests.{eqb-true, leb-true, leb-false}
use Rattle.lists.specs.Tests.{◌≤?◌}
use Rattle.std.specs.Prelude.{if◌then◌else◌, ◌==◌}
use Rattle.lists.specs.Lists.{Every, some?, keep, count, first, in?, smallest}
use Rattle.lists.proofs.Among.{in-first, in-none}
use Rattle.lists.proofs.Decided.{clashing}
use Rattle.lists.proofs.Every.{every_first, every-fails}
use Rattle.lists.proofs.Firsts.{first_passes, first-missed}
use Rattle.lists.proofs.Owned.{every-own}
use Rattle.lists.proofs.Truth.{or-true}

-- the smallest is one of them
smallest-in : (x : ℕ) (l : List ℕ) → in? (smallest (x ∷ l)) (x ∷ l) ≡ true
unfolding smallest in? some?
smallest-in x [] = in-first x x [] refl
smallest-in x (y ∷ l) = go (x ≤? smallest (y ∷ l)) refl (smallest-in y l)
  where
    go : (b : Bool) → (x ≤? smallest (y ∷ l)) ≡ b → in? (smallest (y ∷ l)) (y ∷ l) ≡ true → in? (min x (smallest (y ∷ l))) (x ∷ y ∷ l) ≡ true
    go true e r =
        let k : min x (smallest (y ∷ l)) ≡ x = omega (arith, leb-true x (smallest (y ∷ l)) e) in
        in-first (min x (smallest (y ∷ l))) x (y ∷ l) k
    go false e r =
        let k : min x (smallest (y ∷ l)) ≡ smallest (y ∷ l) = omega (arith, leb-false x (smallest (y ∷ l)) e) in
        ap (λ (n : ℕ). in? n (x ∷ y ∷ l)) k ∙ ap (λ (b : Bool). x == smallest (y ∷ l) || b) r ∙ or-true (x == smallest (y ∷ l))

-- .. and none of them is smaller
smallest-most : (n : ℕ) (l : List ℕ) → in? n l ≡ true → smallest l ≤ n
unfolding smallest in? some?
smallest-most n [] e = clashing e refl
smallest-most n (x ∷ []) e = go (x == n) refl e
  where
    go : (b : Bool) → (x == n) ≡ b → (b || false) ≡ true → x ≤ n
    go true f g = omega (arith, eqb-true x n f)
    go false f g = clashing g refl
smallest-most n (x ∷ y ∷ l) e = go (x == n) refl e (smallest-most n (y ∷ l))
  where
    go : (b : Bool) → (x == n) ≡ b → (b || in? n (y ∷ l)) ≡ true → (in? n (y ∷ l) ≡ true → smallest (y ∷ l) ≤ n) → min x (smallest (y ∷ l)) ≤ n
    go true f g r = omega (arith, eqb-true x n f)
    go false f g r = omega (arith, r g)

-- .. and it is within a bound that holds of each
pub smallest-under : (b : ℕ) (l : List ℕ) → Every (λ n. n ≤ b) l → smallest l ≤ b
unfolding smallest Every
smallest-under b [] e = omega arith
smallest-under b (x ∷ []) e = e.0
smallest-under b (x ∷ y ∷ l) e = omega (arith, e.0)

-- THE SAME MEMBERS have the same smallest.
pub smallest-alike : (l k : List ℕ) → ((n : ℕ) → in? n l ≡ in? n k) → smallest l ≡ smallest k
smallest-alike [] [] e = refl
smallest-alike [] (y ∷ k) e = clashing (e y ∙ in-first y y k refl) (in-none y)
smallest-alike (x ∷ l) [] e = clashing (sym (e x) ∙ in-first x x l refl) (in-none x)
smallest-alike (x ∷ l) (y ∷ k) e =
    omega (
      arith,
      smallest-most (smallest (y ∷ k)) (x ∷ l) (e (smallest (y ∷ k)) ∙ smallest-in y k),
      smallest-most (smallest (x ∷ l)) (y ∷ k) (sym (e (smallest (x ∷ l))) ∙ smallest-in x l),
    )

-- a number of those that pass: one that passes has it
pub in_kept : {A : Type 0} (p : A → Bool) (f : A → ℕ) (l : List A) (n : ℕ) → in? n (map f (keep p l)) ≡ some? (λ x. p x && f x == n) l
unfolding in? some? keep
in_kept p f [] n = refl
in_kept p f (x ∷ l) n = go (p x) (in_kept p f l n)
  where
    go : (b : Bool) → in? n (map f (keep p l)) ≡ some? (λ x. p x && f x == n) l
        → in? n (map f (if b then x ∷ keep p l else keep p l)) ≡ (b && f x == n || some? (λ x. p x && f x == n) l)
    go true e = ap (λ (b : Bool). f x == n || b) e
    go false e = e

-- a member that passes is one that passes
pub some_in : (p : ℕ → Bool) (n : ℕ) (l : List ℕ) → in? n l ≡ true → p n ≡ true → some? p l ≡ true
unfolding in? some?
some_in p n [] e h = clashing e refl
some_in p n (x ∷ l) e h = go (x == n) refl e (λ r. some_in p n l r h)
  where
    go : (b : Bool) → (x == n) ≡ b → (b || in? n l) ≡ true → (in? n l ≡ true → some? p l ≡ true) → (p x || some? p l) ≡ true
    go true f g r = rw (eqb-true x n f, h) refl
    go false f g r = ap (λ (b : Bool). p x || b) (r g) ∙ or-true (p x)

-- elements with keys of their own, and numbers that hold every key
module _ {A : Type 0} (key : A → ℕ) (d : A) (l : List A) (apart : (n : ℕ) → count (λ x. key x == n) l ≤ 1) (numbers : List ℕ) (held : Every (λ x. in? (key x) numbers ≡ true) l) where
  -- a default that does not pass is not found
  pub some-by-key : (q : A → Bool) → q d ≡ false → some? q l ≡ some? (λ n. q (first (λ x. key x == n) d l)) numbers
  some-by-key q out = go (some? q l) (some? (λ n. q (at n)) numbers) refl refl
    where
      at : ℕ → A
      at n = first (λ x. key x == n) d l

      go : (a b : Bool) → some? q l ≡ a → some? (λ n. q (at n)) numbers ≡ b → a ≡ b
      go true true e f = refl
      go true false e f =
          let x = first q d l in
          let own : at (key x) ≡ x = every_first _ q d l e (every-own key d l apart) in
          clashing (some_in (λ n. q (at n)) (key x) numbers (every_first _ q d l e held) (ap q own ∙ first_passes q d l e)) f
      go false true e f =
          let n = first (λ n. q (at n)) 0 numbers in
          clashing (first_passes (λ n. q (at n)) 0 numbers f) (fails n (some? (λ x. key x == n) l) refl)
        where
          fails : (n : ℕ) (b : Bool) → some? (λ x. key x == n) l ≡ b → q (at n) ≡ false
          fails n true g = every_first (λ x. q x ≡ false) (λ x. key x == n) d l g (every-fails q l e)
          fails n false g = ap q (first-missed (λ x. key x == n) d l g) ∙ out
      go false false e f = refl

  pub smallest-by-key : (p : A → Bool) (f : A → ℕ) → p d ≡ false
      → smallest (map f (keep p l)) ≡ smallest (map (λ n. f (first (λ x. key x == n) d l)) (keep (λ n. p (first (λ x. key x == n) d l)) numbers))
  smallest-by-key p f out =
      smallest-alike _ _ (λ v. in_kept p f l v ∙ some-by-key (λ x. p x && f x == v) (ap (λ (b : Bool). b && f d == v) out) ∙ sym (in_kept _ _ numbers v))
