-- Laws of `some?` and `first`: what a search finds after the list was joined, thinned or changed; and where a run ends.
-- Assumes nothing.
use Prim.Native.Nat.{suc, ◌<◌}
use native.Mathlib.Omega.{arith}
use mathlib.Core.Path.{◌≡◌, refl, sym, ap}
use mathlib.Core.Bool.{Bool, true, false, ◌||◌}
use mathlib.Core.List.{List, [], ◌∷◌, ◌++◌}
use lib.ListN.{length, get_or}
use Rattle.std.specs.Prelude.{if◌then◌else◌}
use Rattle.lists.specs.Lists.{some?, keep, leading, first, change}
use Rattle.lists.proofs.Decided.{clashing}
use Rattle.lists.proofs.Truth.{or-true}

module _ {A : Type 0} (p : A → Bool) where
  pub some-append : (l k : List A) → some? p (l ++ k) ≡ (some? p l || some? p k)
  unfolding some?
  some-append [] k = refl
  some-append (x ∷ l) k = go (p x) (some-append l k)
    where
      go : (b : Bool) → some? p (l ++ k) ≡ (some? p l || some? p k) → (b || some? p (l ++ k)) ≡ (b || some? p l || some? p k)
      go true e = refl
      go false e = e

  pub some-either : (q : A → Bool) (l : List A) → some? (λ x. p x || q x) l ≡ (some? p l || some? q l)
  unfolding some?
  some-either q [] = refl
  some-either q (x ∷ l) = go (p x) (q x) (some-either q l)
    where
      go : (a b : Bool) → some? (λ x. p x || q x) l ≡ (some? p l || some? q l) → (a || b || some? (λ x. p x || q x) l) ≡ (a || some? p l || (b || some? q l))
      go true b e = refl
      go false true e = sym (or-true (some? p l))
      go false false e = e

  pub first-append : (d : A) (l k : List A) → first p d (l ++ k) ≡ (if some? p l then first p d l else first p d k)
  unfolding some? first
  first-append d [] k = refl
  first-append d (x ∷ l) k = go (p x) (first-append d l k)
    where
      go : (b : Bool) → first p d (l ++ k) ≡ (if some? p l then first p d l else first p d k)
          → (if b then x else first p d (l ++ k)) ≡ (if b || some? p l then (if b then x else first p d l) else first p d k)
      go true e = refl
      go false e = e

  pub first_passes : (d : A) (l : List A) → some? p l ≡ true → p (first p d l) ≡ true
  unfolding some? first
  first_passes d [] h = clashing h refl
  first_passes d (x ∷ l) h = go (p x) refl h (first_passes d l)
    where
      go : (b : Bool) → p x ≡ b → (b || some? p l) ≡ true → (some? p l ≡ true → p (first p d l) ≡ true) → p (if b then x else first p d l) ≡ true
      go true e q r = e
      go false e q r = r q

  pub first-missed : (d : A) (l : List A) → some? p l ≡ false → first p d l ≡ d
  unfolding some? first
  first-missed d [] h = refl
  first-missed d (x ∷ l) h = go (p x) h (first-missed d l)
    where
      go : (b : Bool) → (b || some? p l) ≡ false → (some? p l ≡ false → first p d l ≡ d) → (if b then x else first p d l) ≡ d
      go true q r = clashing refl q
      go false q r = r q

  pub first-kept : (d : A) (l : List A) → first p d l ≡ get_or (keep p l) 0 d
  unfolding first keep
  first-kept d [] = refl
  first-kept d (x ∷ l) = go (p x) (first-kept d l)
    where
      go : (b : Bool) → first p d l ≡ get_or (keep p l) 0 d → (if b then x else first p d l) ≡ get_or (if b then x ∷ keep p l else keep p l) 0 d
      go true e = refl
      go false e = e

  -- what was not kept passes nowhere
  pub some-kept : (q : A → Bool) → ((x : A) → q x ≡ false → p x ≡ false) → (l : List A) → some? p (keep q l) ≡ some? p l
  unfolding keep some?
  some-kept q f [] = refl
  some-kept q f (x ∷ l) = go (q x) refl (some-kept q f l)
    where
      go : (b : Bool) → q x ≡ b → some? p (keep q l) ≡ some? p l → some? p (if b then x ∷ keep q l else keep q l) ≡ (p x || some? p l)
      go true e r = ap (λ (b : Bool). p x || b) r
      go false e r = rw (f x e) r

  -- what was kept holds all that passes
  module _ (q : A → Bool) (inside : (x : A) → p x ≡ true → q x ≡ true) where
    pub some-keep : (l : List A) → some? p (keep q l) ≡ some? p l
    some-keep l = some-kept q (λ x e. fails x e (p x) refl) l
      where
        fails : (x : A) → q x ≡ false → (b : Bool) → p x ≡ b → b ≡ false
        fails x e true h = clashing (inside x h) e
        fails x e false h = refl

    pub first-keep : (d : A) (l : List A) → first p d (keep q l) ≡ first p d l
    unfolding first keep
    first-keep d [] = refl
    first-keep d (x ∷ l) = go (q x) (p x) refl refl (first-keep d l)
      where
        go : (s t : Bool) → q x ≡ s → p x ≡ t → first p d (keep q l) ≡ first p d l → first p d (if s then x ∷ keep q l else keep q l) ≡ (if t then x else first p d l)
        go true t e f r = rw (f, r) refl
        go false true e f r = clashing (inside x f) e
        go false false e f r = r

  -- what was kept holds nothing that passes
  pub some-gone : (q : A → Bool) → ((x : A) → q x ≡ true → p x ≡ false) → (l : List A) → some? p (keep q l) ≡ false
  unfolding some? keep
  some-gone q out [] = refl
  some-gone q out (x ∷ l) = go (q x) refl (some-gone q out l)
    where
      go : (s : Bool) → q x ≡ s → some? p (keep q l) ≡ false → some? p (if s then x ∷ keep q l else keep q l) ≡ false
      go true e r = rw (out x e) r
      go false e r = r

  -- the first that passes is changed, and passes still
  pub first-changed : (f : A → A) → ((x : A) → p x ≡ true → p (f x) ≡ true) → (d : A) (l : List A) → some? p l ≡ true → first p d (change p f l) ≡ f (first p d l)
  unfolding some? first change
  first-changed f stays d [] h = clashing h refl
  first-changed f stays d (x ∷ l) h = go (p x) refl h (first-changed f stays d l)
    where
      go : (b : Bool) → p x ≡ b → (b || some? p l) ≡ true → (some? p l ≡ true → first p d (change p f l) ≡ f (first p d l))
          → first p d (if b then f x ∷ l else x ∷ change p f l) ≡ f (if b then x else first p d l)
      go true e q r = rw (stays x e) refl
      go false e q r = rw e (r q)

  -- another search does not see the change
  pub first-unchanged : (q : A → Bool) (f : A → A) → ((x : A) → q x ≡ true → p x ≡ false) → ((x : A) → p x ≡ true → q (f x) ≡ false) → (d : A) (l : List A) → first q d (change p f l) ≡ first q d l
  unfolding first change
  first-unchanged q f apart out d [] = refl
  first-unchanged q f apart out d (x ∷ l) = go (p x) (q x) refl refl (first-unchanged q f apart out d l)
    where
      go : (s t : Bool) → p x ≡ s → q x ≡ t → first q d (change p f l) ≡ first q d l → first q d (if s then f x ∷ l else x ∷ change p f l) ≡ (if t then x else first q d l)
      go true true e g r = clashing e (apart x g)
      go true false e g r = rw (out x e) refl
      go false t e g r = rw (g, r) refl

  -- what stands where a run ends does not pass
  pub leading-ends : (d : A) (l : List A) → leading p l < length l → p (get_or l (leading p l) d) ≡ false
  unfolding leading
  leading-ends d [] h = absurd (omega arith)
  leading-ends d (x ∷ l) h = go (p x) refl h (leading-ends d l)
    where
      go : (b : Bool) → p x ≡ b → (if b then suc (leading p l) else 0) < suc (length l) → (leading p l < length l → p (get_or l (leading p l) d) ≡ false) → p (get_or (x ∷ l) (if b then suc (leading p l) else 0) d) ≡ false
      go true e q r = r (omega arith)
      go false e q r = e
