-- What the library says of a chain, in the words of the lists.
-- Assumes nothing.
use Rattle.std.proofs.Common.{◌≡◌, ℕ, suc, ◌+◌, ◌≤◌, ◌<◌, Bool, true, false, not, ◌&&◌, ◌||◌, cond, List, [], ◌∷◌, length, refl, sym, ap, ◌∙◌, arith, Option, Some, None, unwrap_or, nat_lt}
use Rattle.std.specs.Prelude.{if◌then◌else◌}
use Rattle.std.specs.List.{list_any, find, filter, position, position_or_len, count_by, prefix_len}
use Rattle.std.specs.Option.{option_map, MatchOption}
use Rattle.std.proofs.lemmas.List.Recursion.{is_count_by}
use Rattle.std.proofs.lemmas.Option.{none-some, same_Some}
use lib.Dec.{ltb, eqb}
use lib.Pointwise.{pointwise}
use borrow.Author.Tests.{ltb-true, ltb-false}
use Rattle.lists.specs.Lists.{some?, keep, first, index_of, count, leading, alike?, same?}
use Rattle.lists.proofs.Search.{index-le}

-- slices that are equal
pub same_slices : (l k : List ℕ) → pointwise eqb l k ≡ same? l k
unfolding same? alike?
same_slices [] [] = refl
same_slices [] (y ∷ k) = refl
same_slices (x ∷ l) [] = refl
same_slices (x ∷ l) (y ∷ k) = ap (λ (b : Bool). eqb x y && b) (same_slices l k)

module _ {A : Type 0} (p : A → Bool) where
  pub some_any : (l : List A) → list_any p l ≡ some? p l
  unfolding some?
  some_any [] = refl
  some_any (x ∷ l) = ap (λ (b : Bool). p x || b) (some_any l)

  first-find : (d : A) (l : List A) → unwrap_or (find p l) d ≡ first p d l
  unfolding first
  first-find d [] = refl
  first-find d (x ∷ l) = go (p x) (first-find d l)
    where
      go : (b : Bool) → unwrap_or (find p l) d ≡ first p d l → unwrap_or (cond b (Some x) (find p l)) d ≡ (if b then x else first p d l)
      go true e = refl
      go false e = e

  index-len : (l : List A) → position_or_len p l ≡ index_of p l
  unfolding index_of
  index-len [] = refl
  index-len (x ∷ l) = go (p x) (index-len l)
    where
      go : (b : Bool) → position_or_len p l ≡ index_of p l → cond (not b) (1 + position_or_len p l) 0 ≡ (if b then 0 else suc (index_of p l))
      go true e = refl
      go false e = omega arith

  at_index : (l : List A) → position p l ≡ cond (nat_lt (index_of p l) (length l)) (Some (index_of p l)) None
  at_index l = ap (λ (n : ℕ). cond (nat_lt n (length l)) (Some n) None) (index-len l)

  pub keep-filter : (l : List A) → filter p l ≡ keep p l
  unfolding keep
  keep-filter [] = refl
  keep-filter (x ∷ l) = ap (λ (k : List A). if p x then x ∷ k else k) (keep-filter l)

  pub count-counted : (l : List A) → count_by p l ≡ count p l
  unfolding count
  count-counted l = sym (is_count_by (count p) p refl (λ x l. one (p x) (count p l)) l)
    where
      one : (b : Bool) (n : ℕ) → (if b then suc n else n) ≡ cond b (1 + n) n
      one true n = omega arith
      one false n = refl

  pub leading-front : (l : List A) → prefix_len p l ≡ leading p l
  unfolding leading
  leading-front [] = refl
  leading-front (x ∷ l) = go (p x) (leading-front l)
    where
      go : (b : Bool) → prefix_len p l ≡ leading p l → cond b (1 + prefix_len p l) 0 ≡ (if b then suc (leading p l) else 0)
      go true e = omega arith
      go false e = refl

  pub some_by : {r : Bool} (l : List A) → r ≡ list_any p l → r ≡ some? p l
  some_by l e = e ∙ some_any l

  pub first_by : {r : A} (d : A) (l : List A) (o : Option A) → r ≡ unwrap_or o d → option_map (λ (x : A). x) o ≡ find p l → r ≡ first p d l
  first_by d l None e f = e ∙ ap (λ (o : Option A). unwrap_or o d) f ∙ first-find d l
  first_by d l (Some x) e f = e ∙ ap (λ (o : Option A). unwrap_or o d) f ∙ first-find d l

  -- what is read of the first that passes, where a chain maps what it found
  pub mapped_first : (d : A) {X : Type 0} (f : A → ℕ) (v : X → A) (l : List A) (o : Option X) {P : X → Type 0} {n : ℕ} → option_map v o ≡ find p l → MatchOption o (n ≡ f d) P → ((x : X) → P x → n ≡ f (v x)) → n ≡ f (first p d l)
  mapped_first d f v l None e m k = m ∙ ap f (ap (λ (o : Option A). unwrap_or o d) e ∙ first-find d l)
  mapped_first d f v l (Some x) e m k = k x m ∙ ap f (ap (λ (o : Option A). unwrap_or o d) e ∙ first-find d l)

  -- the index that a chain finds
  pub index_by : {r : ℕ} (l : List A) → r ≡ unwrap_or (position p l) (length l) → r ≡ index_of p l
  index_by {r} l e = go (ltb (position_or_len p l) (length l)) refl e
    where
      go : (b : Bool) → ltb (position_or_len p l) (length l) ≡ b → r ≡ unwrap_or (cond b (Some (position_or_len p l)) None) (length l) → r ≡ index_of p l
      go true q e = e ∙ index-len l
      go false q e = omega (arith, e, index-len l, index-le p l, ltb-false (position_or_len p l) (length l) q)

  pub found-index : {i : ℕ} (l : List A) → Some i ≡ position p l → (i ≡ index_of p l) × (i < length l)
  found-index {i} l e = go (nat_lt (index_of p l) (length l)) refl (e ∙ at_index l)
    where
      go : (b : Bool) → nat_lt (index_of p l) (length l) ≡ b → Some i ≡ cond b (Some (index_of p l)) None → (i ≡ index_of p l) × (i < length l)
      go true h q = let s : i ≡ index_of p l = same_Some i (index_of p l) q in (s, omega (arith, s, ltb-true (index_of p l) (length l) h))
      go false h q = absurd (none-some i (sym q))

  pub found-nowhere : (l : List A) → None ≡ position p l → length l ≤ index_of p l
  found-nowhere l e = go (nat_lt (index_of p l) (length l)) refl (e ∙ at_index l)
    where
      go : (b : Bool) → nat_lt (index_of p l) (length l) ≡ b → None ≡ cond b (Some (index_of p l)) None → length l ≤ index_of p l
      go true h q = absurd (none-some (index_of p l) q)
      go false h q = ltb-false (index_of p l) (length l) h
