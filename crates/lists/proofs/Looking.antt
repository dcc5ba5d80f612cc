-- Laws of loops that look for one that passes or compare two lists from the front; and of a search among pictures.
-- Assumes nothing.
use Prim.Native.Nat.{ℕ, ◌+◌, ◌≤◌, ◌<◌}
use native.Mathlib.Omega.{arith}
use native.Mathlib.Numerals.{add-one}
use mathlib.Core.Path.{◌≡◌, refl, sym, ap, ◌∙◌}
use mathlib.Core.List.{List, [], ◌∷◌, map}
use mathlib.Core.Bool.{Bool, true, false, ◌&&◌}
use lib.ListN.{length, take, drop, get_or, length-take, drop_of_length-le, get_or-eq_default}
use lib.Seq.{drop-cons, get_or-take, length-take-le}
use Rattle.std.specs.Prelude.{if◌then◌else◌}
use Rattle.lists.specs.Lists.{some?, alike?, index_of, first}
use Rattle.lists.proofs.Search.{Sought, index-none, first-is}

-- what stands behind the first i of the first n elements of an array
left_at : {A : Type 0} (row : List A) (n : ℕ) → n ≤ length row → (i : ℕ) (d : A) → i < n → drop i (take n row) ≡ get_or row i d ∷ drop (i + 1) (take n row)
left_at row n long i d h =
    let f : i < length (take n row) = rw (length-take-le n row long) h in
    drop-cons (take n row) i d f ∙ rw (add-one i, get_or-take n row i d h) refl

left-none : {A : Type 0} (row : List A) (n : ℕ) → n ≤ length row → (i : ℕ) → n ≤ i → drop i (take n row) ≡ []
left-none row n long i h =
    let f : length (take n row) ≤ i = rw (length-take-le n row long) h in
    drop_of_length-le (take n row) f

module _ {A : Type 0} (p : A → Bool) where
  -- a search that has come to the end
  pub sought-end : (row : List A) (n i : ℕ) → n ≤ length row → n ≤ i → Sought p row n i → index_of p (take n row) ≡ i
  sought-end row n i long h o = o.left ∙ index-none p (take n row) i (rw (length-take-le n row long) h)

  -- what a search has found at an index, or past the end
  pub found_first : (row : List A) (n i : ℕ) (d : A) → i < n → index_of p (take n row) ≡ i → get_or row i d ≡ first p d (take n row)
  found_first row n i d h e = sym (get_or-take n row i d h) ∙ ap (λ (k : ℕ). get_or (take n row) k d) (sym e) ∙ sym (first-is p (take n row) d)

  pub found_none : (row : List A) (n i : ℕ) (d : A) → n ≤ i → index_of p (take n row) ≡ i → d ≡ first p d (take n row)
  found_none row n i d h e =
      let past : length (take n row) ≤ i = omega (arith, length-take n row) in
      sym (first-is p (take n row) d ∙ ap (λ (k : ℕ). get_or (take n row) k d) e ∙ get_or-eq_default (take n row) d past)

  -- a loop that looks for one that passes among the first n of an array, and has passed i: what is left decides
  pub record Looking (row : List A) (n i : ℕ) : Type 0 where
    pub within : i ≤ n
    pub left : some? p (take n row) ≡ some? p (drop i (take n row))

  pub looking-none : (row : List A) (n : ℕ) → Looking row n 0
  looking-none row n = record { within = omega arith; left = refl }

  module _ (row : List A) (n : ℕ) (long : n ≤ length row) where
    pub looking-more : (i : ℕ) (d : A) → i < n → p (get_or row i d) ≡ false → Looking row n i → Looking row n (i + 1)
    unfolding some?
    looking-more i d h e o = record { within = omega arith; left = o.left ∙ ap (some? p) (left_at row n long i d h) ∙ rw e refl }

    pub looking-hit : (i : ℕ) (d : A) → i < n → p (get_or row i d) ≡ true → Looking row n i → true ≡ some? p (take n row)
    unfolding some?
    looking-hit i d h e o = sym (o.left ∙ ap (some? p) (left_at row n long i d h) ∙ rw e refl)

    pub looking-all : (i : ℕ) → n ≤ i → Looking row n i → false ≡ some? p (take n row)
    unfolding some?
    looking-all i h o = sym (o.left ∙ ap (some? p) (left-none row n long i h))

module _ {A : Type 0} (e : A → A → Bool) where
  -- a loop that compares the first n elements of an array with a list of n, and has found i of them alike
  pub record Matching (row l : List A) (n i : ℕ) : Type 0 where
    pub within : i ≤ n
    pub left : alike? e (take n row) l ≡ alike? e (drop i (take n row)) (drop i l)

  pub matching-none : (row l : List A) (n : ℕ) → Matching row l n 0
  matching-none row l n = record { within = omega arith; left = refl }

  module _ (row l : List A) (n : ℕ) (long : n ≤ length row) (same : n ≡ length l) where
    here : (i : ℕ) (c d : A) → i < n → alike? e (drop i (take n row)) (drop i l) ≡ (e (get_or row i c) (get_or l i d) && alike? e (drop (i + 1) (take n row)) (drop (i + 1) l))
    unfolding alike?
    here i c d h =
        let f : i < length l = rw same at h in
        rw (left_at row n long i c h, drop-cons l i d f, add-one i) refl

    pub matching-more : (i : ℕ) (c d : A) → i < n → e (get_or row i c) (get_or l i d) ≡ true → Matching row l n i → Matching row l n (i + 1)
    matching-more i c d h b o = record { within = omega arith; left = o.left ∙ here i c d h ∙ rw b refl }

    pub matching-other : (i : ℕ) (c d : A) → i < n → e (get_or row i c) (get_or l i d) ≡ false → Matching row l n i → false ≡ alike? e (take n row) l
    matching-other i c d h b o = sym (o.left ∙ here i c d h ∙ rw b refl)

    pub matching-all : (i : ℕ) → n ≤ i → Matching row l n i → true ≡ alike? e (take n row) l
    unfolding alike?
    matching-all i h o =
        let f : length l ≤ i = omega arith in
        sym (o.left ∙ rw (left-none row n long i h, drop_of_length-le l f) refl)

-- the picture of the first that passes is the first of the pictures
pub map_first : {A B : Type 0} (f : A → B) (p : B → Bool) (d : A) (l : List A) → f (first (λ x. p (f x)) d l) ≡ first p (f d) (map f l)
unfolding first
map_first f p d [] = refl
map_first f p d (x ∷ l) = go (p (f x)) (map_first f p d l)
  where
    go : (b : Bool) → f (first (λ x. p (f x)) d l) ≡ first p (f d) (map f l) → f (if b then x else first (λ x. p (f x)) d l) ≡ (if b then f x else first p (f d) (map f l))
    go true e = refl
    go false e = e
