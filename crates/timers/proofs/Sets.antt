-- The set of a list's places: one bit more, how large it is, how many bits are set, and how many stand set at the low end.
-- Assumes nothing.
use mathlib.Core.Path.{◌≡◌, refl, sym, ap, ap₂, ◌∙◌}
use mathlib.Core.Bool.{Bool, true, false, ◌&&◌}
use mathlib.Core.List.{List, [], ◌∷◌}
use Prim.Native.Nat.{ℕ, zero, suc, ◌+◌, ◌-◌, ◌*◌, ◌/◌, ◌%◌, ◌^◌, ◌≤◌, ◌<◌}
use native.Mathlib.Nat.{pow-suc, le_of_suc-le-suc}
use native.Mathlib.Numerals.{add-one}
use native.Mathlib.Omega.{arith}
use borrow.Author.Tests.{leb-true, leb-false, ne_eqb, eq-eqb}
use lib.Dec.{leb, eqb}
use lib.ListN.{length, get_or, drop, length-drop}
use lib.Seq.{drop-cons}
use mir.Val.{bool_byte}
use lib.Pow.{pow_pos}
use lib.Count.{ones, ones_step, count_trailing_zeros, under}
use Rattle.std.specs.Prelude.{if◌then◌else◌, ◌==◌}
use Rattle.lists.specs.Lists.{count, leading}
use Rattle.lists.proofs.Bits.{trailing-more}
use Rattle.timers.specs.Sets.{bit, is_between, set_of}

-- a test as a number
pub test-bit : (b : Bool) → bool_byte b ≡ bit b
test-bit true = refl
test-bit false = refl

bit-lt : (b : Bool) → bit b < 2
bit-lt true = omega arith
bit-lt false = omega arith

module _ (p : ℕ → Bool) where
  -- the set of a list, one element longer at its front
  set-step : (l : List ℕ) (i : ℕ) → i < length l → set_of p (drop i l) ≡ set_of p (drop (i + 1) l) * 2 + bit (p (get_or l i 0))
  unfolding set_of
  set-step l i h = rw (drop-cons l i 0 h, add-one) (omega arith)

  -- k bits hold the set of k elements
  set-lt : (l : List ℕ) (k : ℕ) → length l ≤ k → set_of p l < 2 ^ k
  unfolding set_of
  set-lt [] k h = pow_pos k
  set-lt (o ∷ os) zero h = omega arith
  set-lt (o ∷ os) (suc k) h = let ih = set-lt os k (le_of_suc-le-suc h) in omega (arith, pow-suc 2 k, bit-lt (p o))

  -- a loop from the last element to the first: where it begins, one turn, that the sums fit, and the end
  pub set-none : (l : List ℕ) (n : ℕ) → length l ≡ n → 0 ≡ set_of p (drop n l)
  set-none l n h = omega (arith, set-lt (drop n l) 0 (simp length-drop (omega arith)))

  pub set_more : (l : List ℕ) (i bits b : ℕ) → 0 < i → i ≤ length l → bits ≡ set_of p (drop i l) → b ≡ bit (p (get_or l (i - 1) 0)) → bits * 2 + b ≡ set_of p (drop (i - 1) l)
  set_more l i bits b h k e f =
      let back : i - 1 + 1 ≡ i = omega arith in
      let step = rw back at (set-step l (i - 1) (omega arith)) in
      omega arith

  pub set-small : (l : List ℕ) (i bits : ℕ) → length l ≡ 8 → 0 < i → bits ≡ set_of p (drop i l) → bits < 128
  set-small l i bits n h e = omega (arith, set-lt (drop i l) 7 (simp length-drop (omega arith)))

  pub set-fits : (l : List ℕ) (i bits b : ℕ) → length l ≡ 8 → 0 < i → i ≤ 8 → bits ≡ set_of p (drop i l) → b ≡ bit (p (get_or l (i - 1) 0)) → bits * 2 + b < 256
  set-fits l i bits b n h k e f =
      omega (arith, set_more l i bits b h (omega arith) e f, set-lt (drop (i - 1) l) 8 (simp length-drop (omega arith)))

  pub set_all : (l : List ℕ) (i bits : ℕ) → i ≤ 0 → bits ≡ set_of p (drop i l) → bits ≡ set_of p l
  set_all l i bits h e = let z : i ≡ 0 = omega arith in rw z at e

  counted : (b : Bool) (n : ℕ) → bit b + n ≡ (if b then suc n else n)
  counted true n = omega arith
  counted false n = omega arith

  -- as many bits are set as elements pass
  pub ones-count : (l : List ℕ) → ones (set_of p l) ≡ count p l
  unfolding set_of count ones
  ones-count [] = refl
  ones-count (o ∷ os) =
      let low : (bit (p o) + set_of p os * 2) % 2 ≡ bit (p o) = omega (arith, bit-lt (p o)) in
      let high : (bit (p o) + set_of p os * 2) / 2 ≡ set_of p os = omega (arith, bit-lt (p o)) in
      ones_step _ ∙ ap₂ (λ (x y : ℕ). x + ones y) low high ∙ ap (λ (n : ℕ). bit (p o) + n) (ones-count os) ∙ counted (p o) (count p os)

  -- as many low bits are set, up to the first that is clear, as elements at the front pass
  pub trailing-leading : (k : ℕ) (l : List ℕ) → length l ≤ k → count_trailing_zeros k (2 ^ k - 1 - set_of p l) ≡ leading p l
  unfolding set_of leading count_trailing_zeros
  trailing-leading zero [] h = refl
  trailing-leading zero (o ∷ os) h = absurd (omega arith)
  trailing-leading (suc k) [] h =
      let low : (2 ^ suc k - 1 - 0) % 2 ≡ 1 = omega (arith, pow-suc 2 k, pow_pos k) in
      ap (λ (d : ℕ). under d (count_trailing_zeros k ((2 ^ suc k - 1 - 0) / 2))) low
  trailing-leading (suc k) (o ∷ os) h =
      let fits = le_of_suc-le-suc h in
      trailing-more (p o) k (set_of p os) (leading p os) (set-lt os k fits) (trailing-leading k os fits)

  pub leading_le : (l : List ℕ) → leading p l ≤ length l
  unfolding leading
  leading_le [] = omega arith
  leading_le (o ∷ os) = go (p o) (leading_le os)
    where
      go : (b : Bool) → leading p os ≤ length os → (if b then suc (leading p os) else 0) ≤ suc (length os)
      go true h = omega arith
      go false h = omega arith

  -- tests that agree count alike
  pub count-alike : (q : ℕ → Bool) → ((n : ℕ) → p n ≡ q n) → (l : List ℕ) → count p l ≡ count q l
  unfolding count
  count-alike q e [] = refl
  count-alike q e (o ∷ os) = ap₂ (λ (b : Bool) (n : ℕ). if b then suc n else n) (e o) (count-alike q e os)

-- from n to n is n alone
pub between-one : (n o : ℕ) → is_between n n o ≡ (o == n)
unfolding is_between
between-one n o = go (leb n o) refl (leb o n) refl
  where
    go : (b : Bool) → leb n o ≡ b → (d : Bool) → leb o n ≡ d → (b && d) ≡ eqb o n
    go true e true f = let l = leb-true n o e in let g = leb-true o n f in sym (eq-eqb o n (omega arith))
    go true e false f = let g = leb-false o n f in sym (ne_eqb o n (λ q. omega arith))
    go false e d f = let l = leb-false n o e in sym (ne_eqb o n (λ q. omega arith))
