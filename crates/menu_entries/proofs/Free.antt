-- The search for a free identifier: the identifiers in use as bits, and the lowest bit that is clear.
-- Assumes nothing.
use Prim.Native.Nat.{ℕ, zero, suc, ◌+◌, ◌-◌, ◌*◌, ◌%◌, ◌^◌, ◌≤◌, ◌<◌}
use native.Mathlib.Omega.{arith}
use native.Mathlib.Numerals.{add-one}
use mathlib.Core.Path.{◌≡◌, refl, sym, ap, ap₂, ◌∙◌}
use mathlib.Core.Bool.{Bool, true, false, ◌||◌}
use mathlib.Core.List.{List, [], ◌∷◌, map}
use lib.Bits.{bit_or}
use lib.Count.{count_trailing_zeros}
use lib.ListN.{length, take, get_or}
use lib.Seq.{take-suc, take_all}
use borrow.Author.Tests.{eq-eqb, ne_eqb, eqb-true, eqb-false}
use Rattle.std.specs.Prelude.{if◌then◌else◌, ◌==◌}
use Rattle.lists.specs.Lists.{some?}
use Rattle.lists.specs.Bits.{bits_of}
use Rattle.lists.proofs.Bits.{trailing-more, bits-or, bits-alike, bits_none, bits-one, bits-lt}
use Rattle.lists.proofs.Firsts.{some-append}
use Rattle.lists.proofs.Mapped.{map-length, map-some}
use Rattle.lists.proofs.Truth.{or-false}
use Rattle.rules.specs.declared.Row as held
use Rattle.rules.specs.declared.Rows.{Rows}
use Rattle.rules.specs.Holds.{Row}
use Rattle.rules.specs.Rows.{has_identifier, in_use, smallest_free, identifier_for}
use Rattle.rules.specs.Held.{view_row, view_rows}
use Rattle.rules.proofs.Listed.{free_from, smallest-is, from-unused}
use Rattle.menu.proofs.Tidy.{named}

-- THE BIT of an identifier
pub no-bit : (i : ℕ) → ((j : ℕ) → j < 32 → i ≡ 128 + j → ⊥) → 0 ≡ bits_of 32 (λ j. i == 128 + j)
no-bit i h = sym (bits-alike 32 (λ j. i == 128 + j) (λ j. false) (λ j l. ne_eqb i (128 + j) (h j l)) ∙ bits_none 32)

pub one_bit : (i : ℕ) → 128 ≤ i → i - 128 < 32 → (1 * 2 ^ (i - 128)) % 2 ^ 32 ≡ bits_of 32 (λ j. i == 128 + j)
one_bit i h l =
    let is : bits_of 32 (λ j. i == 128 + j) ≡ 2 ^ (i - 128) = bits-alike 32 (λ j. i == 128 + j) (λ j. j == i - 128) (λ j k. place j) ∙ bits-one 32 (i - 128) l in
    omega (arith, is, bits-lt 32 (λ j. i == 128 + j))
  where
    place : (j : ℕ) → (i == 128 + j) ≡ (j == i - 128)
    place j = go (j == i - 128) refl
      where
        go : (b : Bool) → (j == i - 128) ≡ b → (i == 128 + j) ≡ b
        go true e = let q = eqb-true j (i - 128) e in eq-eqb i (128 + j) (omega arith)
        go false e = ne_eqb i (128 + j) (λ z. eqb-false j (i - 128) e (omega arith))

-- THE BITS of the identifiers of an array's first k rows
abbrev pub used_to : ℕ → List held.Row → ℕ
used_to k at = bits_of 32 (λ j. some? (named (128 + j)) (take k at))

pub used-none : (at : List held.Row) → 0 ≡ used_to 0 at
unfolding some?
used-none at = sym (bits_none 32)

pub used-more : (at : List held.Row) (k : ℕ) (d : held.Row) {used own : ℕ} → k < length at → used ≡ used_to k at → own ≡ bits_of 32 (λ j. (get_or at k d).identifier == 128 + j) → bit_or used own ≡ used_to (k + 1) at
unfolding some?
used-more at k d h e f =
    ap₂ bit_or e f ∙ bits-or 32 (λ j. some? (named (128 + j)) (take k at)) (λ j. (get_or at k d).identifier == 128 + j)
    ∙ bits-alike 32 _ _ (λ j l. sym (one_more j))
  where
    one_more : (j : ℕ) → some? (named (128 + j)) (take (k + 1) at) ≡ (some? (named (128 + j)) (take k at) || (get_or at k d).identifier == 128 + j)
    one_more j =
        ap (λ (m : ℕ). some? (named (128 + j)) (take m at)) (add-one k)
        ∙ ap (some? (named (128 + j))) (take-suc at k d h)
        ∙ some-append (named (128 + j)) (take k at) (get_or at k d ∷ [])
        ∙ ap (λ (b : Bool). some? (named (128 + j)) (take k at) || b) (or-false ((get_or at k d).identifier == 128 + j))

-- the lowest that is clear, of n from i on
free-bits : (n i : ℕ) (l : List Row) → count_trailing_zeros n (2 ^ n - 1 - bits_of n (λ j. in_use (i + j) l)) + i ≡ free_from n i l
unfolding free_from bits_of count_trailing_zeros
free-bits zero i l = omega arith
free-bits (suc n) i l =
    let later : bits_of n (λ j. in_use (i + suc j) l) ≡ bits_of n (λ j. in_use (suc i + j) l) = bits-alike n _ _ (λ j h. let q : i + suc j ≡ suc i + j = omega arith in ap (λ (m : ℕ). in_use m l) q) in
    let here : i + 0 ≡ i = omega arith in
    ap₂ (λ (b : Bool) (s : ℕ). count_trailing_zeros (suc n) (2 ^ suc n - 1 - ((if b then 1 else 0) + s * 2)) + i) (ap (λ (m : ℕ). in_use m l) here) later
    ∙ ap (λ (m : ℕ). m + i) (trailing-more (in_use i l) n (bits_of n (λ j. in_use (suc i + j) l)) _ (bits-lt n _) refl)
    ∙ go (in_use i l) _ (free-bits n (suc i) l)
  where
    go : (b : Bool) (r : ℕ) → r + suc i ≡ free_from n (suc i) l → (if b then suc r else 0) + i ≡ (if b then free_from n (suc i) l else i)
    go true r e = omega arith
    go false r e = omega arith

-- a search that goes further finds the same
free-here : (n k : ℕ) (l : List Row) → in_use k l ≡ false → free_from n k l ≡ k
unfolding free_from
free-here zero k l e = refl
free-here (suc n) k l e = rw e refl

free-further : (n m i : ℕ) (l : List Row) → in_use (free_from n i l) l ≡ false → free_from (n + m) i l ≡ free_from n i l
unfolding free_from
free-further zero m i l e = let q : 0 + m ≡ m = omega arith in ap (λ (k : ℕ). free_from k i l) q ∙ free-here m i l e
free-further (suc n) m i l e = let q : suc n + m ≡ suc (n + m) = omega arith in ap (λ (k : ℕ). free_from k i l) q ∙ go (in_use i l) e (λ h. free-further n m (suc i) l h)
  where
    go : (b : Bool) → in_use (if b then free_from n (suc i) l else i) l ≡ false → (in_use (free_from n (suc i) l) l ≡ false → free_from (n + m) (suc i) l ≡ free_from n (suc i) l)
        → (if b then free_from (n + m) (suc i) l else i) ≡ (if b then free_from n (suc i) l else i)
    go true e f = f e
    go false e f = refl

-- THE FREE IDENTIFIER
pub free-is : (l : List held.Row) {k used : ℕ} → length l ≤ 12 → length l ≤ k → used ≡ used_to k l → count_trailing_zeros 32 (2 ^ 32 - 1 - used) + 128 ≡ smallest_free (map view_row l)
unfolding view_row in_use
free-is l {k} few h e =
    ap (λ (k : ℕ). count_trailing_zeros 32 (2 ^ 32 - 1 - k) + 128)
    (e ∙ ap (λ (r : List held.Row). bits_of 32 (λ j. some? (named (128 + j)) r)) (take_all k l h) ∙ bits-alike 32 _ (λ j. in_use (128 + j) (map view_row l)) (λ j h. map-some view_row (has_identifier (128 + j)) l))
    ∙ free-bits 32 128 (map view_row l)
    ∙ sym (free-further 32 95 128 (map view_row l) (from-unused 32 128 (map view_row l) (omega (arith, map-length view_row l, few))))
    ∙ sym (smallest-is (map view_row l))

pub free-of : (s : Rows) {n : ℕ} → n ≡ s.count → smallest_free (map view_row (take n s.at)) ≡ smallest_free (view_rows s)
unfolding view_rows
free-of s e = rw e refl

-- THE IDENTIFIER of a new row: where 0 is requested the free one, else the requested one
pub free-for : {requested i : ℕ} (rows : List Row) → requested ≡ 0 → i ≡ smallest_free rows → i ≡ identifier_for requested rows
unfolding identifier_for
free-for rows z e = rw z e

pub own-for : {requested i : ℕ} (rows : List Row) → (requested ≡ 0 → ⊥) → i ≡ requested → i ≡ identifier_for requested rows
unfolding identifier_for
own-for {requested} rows z e = rw (ne_eqb requested 0 z) e
