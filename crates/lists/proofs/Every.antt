-- Laws of `Every`: what holds of each element still does after the list was joined, thinned, changed or stored to.
-- Assumes nothing.
use Prim.Native.Nat.{ℕ, zero, suc, ◌<◌}
use mathlib.Core.Path.{◌≡◌, refl}
use mathlib.Core.Bool.{Bool, true, false, ◌&&◌, ◌||◌}
use mathlib.Core.List.{List, [], ◌∷◌, ◌++◌, map}
use lib.ListN.{take, drop, get_or, set, replicate}
use borrow.Author.Tests.{ltb-true}
use Rattle.lists.specs.Tests.{◌<?◌}
use Rattle.std.specs.Prelude.{if◌then◌else◌}
use Rattle.lists.specs.Lists.{every?, Every, some?, keep, first, change, insert_at}
use Rattle.lists.proofs.Decided.{clashing, neither, both}

module _ {A : Type 0} (P : A → Type 0) where
  pub every-so : (Q : A → Type 0) → ((x : A) → P x → Q x) → (l : List A) → Every P l → Every Q l
  unfolding Every
  every-so Q f [] e = tt
  every-so Q f (x ∷ l) e = (f x e.0, every-so Q f l e.1)

  pub every-all : ((x : A) → P x) → (l : List A) → Every P l
  unfolding Every
  every-all h [] = tt
  every-all h (x ∷ l) = (h x, every-all h l)

  pub every-both : (Q : A → Type 0) (l : List A) → Every P l → Every Q l → Every (λ x. P x × Q x) l
  unfolding Every
  every-both Q [] e f = tt
  every-both Q (x ∷ l) e f = ((e.0, f.0), every-both Q l e.1 f.1)

  pub every_append : (l k : List A) → Every P l → Every P k → Every P (l ++ k)
  unfolding Every
  every_append [] k e f = f
  every_append (x ∷ l) k e f = (e.0, every_append l k e.1 f)

  pub every_take : (n : ℕ) (l : List A) → Every P l → Every P (take n l)
  unfolding Every
  every_take zero l e = tt
  every_take (suc n) [] e = tt
  every_take (suc n) (x ∷ l) e = (e.0, every_take n l e.1)

  pub every_drop : (n : ℕ) (l : List A) → Every P l → Every P (drop n l)
  unfolding Every
  every_drop zero l e = e
  every_drop (suc n) [] e = tt
  every_drop (suc n) (x ∷ l) e = every_drop n l e.1

  pub every-insert_at : (n : ℕ) (x : A) (l : List A) → P x → Every P l → Every P (insert_at n x l)
  unfolding insert_at Every
  every-insert_at n x l h e = every_append (take n l) (x ∷ drop n l) (every_take n l e) (h, every_drop n l e)

  pub every-get_or : (d : A) → P d → (l : List A) (i : ℕ) → Every P l → P (get_or l i d)
  unfolding Every
  every-get_or d h [] i e = h
  every-get_or d h (x ∷ l) zero e = e.0
  every-get_or d h (x ∷ l) (suc i) e = every-get_or d h l i e.1

  pub every_set : (l : List A) (i : ℕ) (x : A) → P x → Every P l → Every P (set l i x)
  unfolding Every
  every_set [] i x h e = tt
  every_set (y ∷ l) zero x h e = (h, e.1)
  every_set (y ∷ l) (suc i) x h e = (e.0, every_set l i x h e.1)

  pub every-replicate : (n : ℕ) (x : A) → P x → Every P (replicate n x)
  unfolding Every
  every-replicate zero x h = tt
  every-replicate (suc n) x h = (h, every-replicate n x h)

  -- of the pictures of the elements
  pub every_map : {B : Type 0} (f : B → A) (l : List B) → Every (λ y. P (f y)) l → Every P (map f l)
  unfolding Every
  every_map f [] e = tt
  every_map f (y ∷ l) e = (e.0, every_map f l e.1)

  module _ (p : A → Bool) where
    -- of those that passed, the test besides
    pub every-keep : (l : List A) → Every P l → Every (λ x. P x × (p x ≡ true)) (keep p l)
    unfolding Every keep
    every-keep [] e = tt
    every-keep (x ∷ l) e = go (p x) refl (every-keep l e.1)
      where
        go : (b : Bool) → p x ≡ b → Every (λ x. P x × (p x ≡ true)) (keep p l) → Every (λ x. P x × (p x ≡ true)) (if b then x ∷ keep p l else keep p l)
        go true q r = ((e.0, q), r)
        go false q r = r

    -- of the first that passes, changed
    pub every-change : (f : A → A) (d : A) (l : List A) → P (f (first p d l)) → Every P l → Every P (change p f l)
    unfolding Every change first
    every-change f d [] h e = tt
    every-change f d (x ∷ l) h e = go (p x) h (λ q. every-change f d l q e.1)
      where
        go : (b : Bool) → P (f (if b then x else first p d l)) → (P (f (first p d l)) → Every P (change p f l)) → Every P (if b then f x ∷ l else x ∷ change p f l)
        go true q r = (q, e.1)
        go false q r = (e.0, r q)

    -- of the first that passes
    pub every_first : (d : A) (l : List A) → some? p l ≡ true → Every P l → P (first p d l)
    unfolding Every some? first
    every_first d [] h e = clashing h refl
    every_first d (x ∷ l) h e = go (p x) h (λ q. every_first d l q e.1)
      where
        go : (b : Bool) → (b || some? p l) ≡ true → (some? p l ≡ true → P (first p d l)) → P (if b then x else first p d l)
        go true q r = e.0
        go false q r = r q

-- where all pass, each does; where none passes, each fails
pub every-passes : {A : Type 0} (p : A → Bool) (l : List A) → every? p l ≡ true → Every (λ x. p x ≡ true) l
unfolding every? Every
every-passes p [] e = tt
every-passes p (x ∷ l) e = let h = both (p x) (every? p l) e in (h.0, every-passes p l h.1)

pub all_pass : {A : Type 0} (p : A → Bool) → ((x : A) → p x ≡ true) → (l : List A) → every? p l ≡ true
unfolding every?
all_pass p h [] = refl
all_pass p h (x ∷ l) = rw (h x) (all_pass p h l)

pub every-fails : {A : Type 0} (p : A → Bool) (l : List A) → some? p l ≡ false → Every (λ x. p x ≡ false) l
unfolding Every some?
every-fails p [] h = tt
every-fails p (x ∷ l) h = ((neither (p x) (some? p l) h).0, every-fails p l (neither (p x) (some? p l) h).1)

-- each number is smaller than all behind it
unfoldable pub rises? : List ℕ → Bool
rises? [] = true
rises? (n ∷ l) = every? (λ k. n <? k) l && rises? l

pub rises-head : (n : ℕ) (l : List ℕ) → rises? (n ∷ l) ≡ true → Every (λ k. n < k) l
unfolding rises?
rises-head n l e = every-so (λ k. (n <? k) ≡ true) (λ k. n < k) (λ k h. ltb-true n k h) l (every-passes (λ k. n <? k) l (both (every? (λ k. n <? k) l) (rises? l) e).0)

pub rises-tail : (n : ℕ) (l : List ℕ) → rises? (n ∷ l) ≡ true → rises? l ≡ true
unfolding rises?
rises-tail n l e = (both (every? (λ k. n <? k) l) (rises? l) e).1
