-- Laws of searches and of what is kept: after a change, in lists one after the other, by a test that says the same, by two tests.
-- Assumes nothing.
use mathlib.Core.Path.{◌≡◌, refl, ap}
use mathlib.Core.List.{List, [], ◌∷◌}
use mathlib.Core.Bool.{Bool, true, false, ◌&&◌, ◌||◌}
use Rattle.std.specs.Prelude.{if◌then◌else◌}
use Rattle.lists.specs.Lists.{some?, keep, first, change}

module _ {A : Type 0} (p : A → Bool) where
  -- where one passes, the first does
  pub first-changed : (f : A → A) → ((x : A) → p (f x) ≡ p x) → (d : A) (l : List A) → some? p l ≡ true → first p d (change p f l) ≡ f (first p d l)
  unfolding first change some?
  first-changed f e d [] h = cc
  first-changed f e d (x ∷ l) h = go (p x) refl h (λ k. first-changed f e d l k)
    where
      go : (b : Bool) → p x ≡ b → (b || some? p l) ≡ true → (some? p l ≡ true → first p d (change p f l) ≡ f (first p d l)) → first p d (if b then f x ∷ l else x ∷ change p f l) ≡ f (if b then x else first p d l)
      go true q k r = rw (e x, q) refl
      go false q k r = rw q (r k)

  -- or another, which does not pass the test of the change
  pub first-other : (q : A → Bool) (f : A → A) → ((x : A) → p (f x) ≡ p x) → ((x : A) → q x ≡ true → p x ≡ false) → (d : A) (l : List A) → first p d (change q f l) ≡ first p d l
  unfolding first change
  first-other q f e o d [] = refl
  first-other q f e o d (x ∷ l) = go (q x) refl (first-other q f e o d l)
    where
      go : (b : Bool) → q x ≡ b → first p d (change q f l) ≡ first p d l → first p d (if b then f x ∷ l else x ∷ change q f l) ≡ (if p x then x else first p d l)
      go true k r = rw (e x, o x k) refl
      go false k r = ap (λ (y : A). if p x then x else y) r

  -- a change that is of no account to the test
  pub some-change : (q : A → Bool) (f : A → A) → ((x : A) → p (f x) ≡ p x) → (l : List A) → some? p (change q f l) ≡ some? p l
  unfolding some? change
  some-change q f e [] = refl
  some-change q f e (x ∷ l) = go (q x) (some-change q f e l)
    where
      go : (b : Bool) → some? p (change q f l) ≡ some? p l → some? p (if b then f x ∷ l else x ∷ change q f l) ≡ (p x || some? p l)
      go true r = ap (λ (b : Bool). b || some? p l) (e x)
      go false r = ap (λ (b : Bool). p x || b) r

  -- one test after another is both
  pub keep-keep : (q r : A → Bool) → ((x : A) → (q x && p x) ≡ r x) → (l : List A) → keep p (keep q l) ≡ keep r l
  unfolding keep
  keep-keep q r e [] = refl
  keep-keep q r e (x ∷ l) = go (q x) (r x) (e x) (keep-keep q r e l)
    where
      go : (a b : Bool) → (a && p x) ≡ b → keep p (keep q l) ≡ keep r l → keep p (if a then x ∷ keep q l else keep q l) ≡ (if b then x ∷ keep r l else keep r l)
      go true b k h = rw (k, h) refl
      go false b k h = rw (← k) h
