-- Two lists of one length whose elements stand in a relation, place by place: what the relation keeps is the same of both.
-- Assumes nothing.
use Prim.Native.Nat.{ℕ, suc}
use mathlib.Core.Path.{◌≡◌, refl, ap}
use mathlib.Core.Bool.{Bool, true, false}
use mathlib.Core.List.{List, [], ◌∷◌, map}
use lib.ListN.{length}
use Rattle.std.specs.Prelude.{if◌then◌else◌}
use Rattle.lists.specs.Lists.{Every, some?, first, change, count, sum, gather}

module _ {A : Type 0} (R : A → A → Type 0) where
  unfoldable pub Matched : List A → List A → Type 0
  Matched [] [] = Unit
  Matched [] (y ∷ k) = ⊥
  Matched (x ∷ l) [] = ⊥
  Matched (x ∷ l) (y ∷ k) = R x y × Matched l k

module _ {A : Type 0} (R : A → A → Type 0) where
  -- what is changed, or pictured, matches what was there
  pub matched-map : (f : A → A) → ((x : A) → R x (f x)) → (l : List A) → Matched R l (map f l)
  unfolding Matched
  matched-map f h [] = tt
  matched-map f h (x ∷ l) = (h x, matched-map f h l)

  pub matched-self : ((x : A) → R x x) → (l : List A) → Matched R l l
  unfolding Matched
  matched-self h [] = tt
  matched-self h (x ∷ l) = (h x, matched-self h l)

  pub matched-change : (p : A → Bool) (f : A → A) (d : A) → ((x : A) → R x x) → (l : List A) → R (first p d l) (f (first p d l)) → Matched R l (change p f l)
  unfolding Matched change first
  matched-change p f d s [] h = tt
  matched-change p f d s (x ∷ l) h = go (p x) h (matched-change p f d s l)
    where
      go : (b : Bool) → R (if b then x else first p d l) (f (if b then x else first p d l)) → (R (first p d l) (f (first p d l)) → Matched R l (change p f l))
          → Matched R (x ∷ l) (if b then f x ∷ l else x ∷ change p f l)
      go true q m = (q, matched-self s l)
      go false q m = (s x, m q)

  pub matched-so : (S : A → A → Type 0) → ((x y : A) → R x y → S x y) → (l k : List A) → Matched R l k → Matched S l k
  unfolding Matched
  matched-so S h [] [] m = tt
  matched-so S h [] (y ∷ k) m = m
  matched-so S h (x ∷ l) [] m = m
  matched-so S h (x ∷ l) (y ∷ k) m = (h x y m.0, matched-so S h l k m.1)

  pub matched-length : (l k : List A) → Matched R l k → length k ≡ length l
  unfolding Matched
  matched-length [] [] m = refl
  matched-length [] (y ∷ k) m = absurd m
  matched-length (x ∷ l) [] m = absurd m
  matched-length (x ∷ l) (y ∷ k) m = ap suc (matched-length l k m.1)

  -- what holds of each
  pub matched-every : (P Q : A → Type 0) → ((x y : A) → R x y → P x → Q y) → (l k : List A) → Matched R l k → Every P l → Every Q k
  unfolding Matched Every
  matched-every P Q h [] [] m e = tt
  matched-every P Q h [] (y ∷ k) m e = absurd m
  matched-every P Q h (x ∷ l) [] m e = absurd m
  matched-every P Q h (x ∷ l) (y ∷ k) m e = (h x y m.0 e.0, matched-every P Q h l k m.1 e.1)

  pub matched-sum : (f : A → ℕ) → ((x y : A) → R x y → f y ≡ f x) → (l k : List A) → Matched R l k → sum f k ≡ sum f l
  unfolding Matched sum
  matched-sum f h [] [] m = refl
  matched-sum f h [] (y ∷ k) m = absurd m
  matched-sum f h (x ∷ l) [] m = absurd m
  matched-sum f h (x ∷ l) (y ∷ k) m = rw (h x y m.0, matched-sum f h l k m.1) refl

  pub matched-gather : {B : Type 0} (f : A → List B) → ((x y : A) → R x y → f y ≡ f x) → (l k : List A) → Matched R l k → gather f k ≡ gather f l
  unfolding Matched gather
  matched-gather f h [] [] m = refl
  matched-gather f h [] (y ∷ k) m = absurd m
  matched-gather f h (x ∷ l) [] m = absurd m
  matched-gather f h (x ∷ l) (y ∷ k) m = rw (h x y m.0, matched-gather f h l k m.1) refl

  -- of a test that the relation keeps
  module _ (p : A → Bool) (keeps : (x y : A) → R x y → p y ≡ p x) where
    pub matched-count : (l k : List A) → Matched R l k → count p k ≡ count p l
    unfolding Matched count
    matched-count [] [] m = refl
    matched-count [] (y ∷ k) m = absurd m
    matched-count (x ∷ l) [] m = absurd m
    matched-count (x ∷ l) (y ∷ k) m = rw (keeps x y m.0, matched-count l k m.1) refl

    pub matched-some : (l k : List A) → Matched R l k → some? p k ≡ some? p l
    unfolding Matched some?
    matched-some [] [] m = refl
    matched-some [] (y ∷ k) m = absurd m
    matched-some (x ∷ l) [] m = absurd m
    matched-some (x ∷ l) (y ∷ k) m = rw (keeps x y m.0, matched-some l k m.1) refl

    pub matched-first : (d : A) → R d d → (l k : List A) → Matched R l k → R (first p d l) (first p d k)
    unfolding Matched first
    matched-first d h [] [] m = h
    matched-first d h [] (y ∷ k) m = absurd m
    matched-first d h (x ∷ l) [] m = absurd m
    matched-first d h (x ∷ l) (y ∷ k) m = rw (keeps x y m.0) (go (p x) (matched-first d h l k m.1))
      where
        go : (b : Bool) → R (first p d l) (first p d k) → R (if b then x else first p d l) (if b then y else first p d k)
        go true r = m.0
        go false r = r
