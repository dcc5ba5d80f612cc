-- Numbers bit by bit: the machine's operations one bit at a time, and on the bits where a test holds.
-- Assumes nothing.
use Prim.Native.Nat.{ℕ, zero, suc, ◌+◌, ◌-◌, ◌*◌, ◌/◌, ◌%◌, ◌^◌, ◌<◌, min, max}
use native.Mathlib.Nat.{pow-suc, le_of_suc-le-suc}
use native.Mathlib.Omega.{arith}
use mathlib.Core.Path.{◌≡◌, refl, ap, ap₂, ◌∙◌}
use mathlib.Core.Bool.{Bool, true, false, ◌&&◌, ◌||◌}
use lib.Bits.{bit_and, bit_or, and_step, or_step}
use lib.Count.{count_trailing_zeros, under}
use borrow.Author.Tests.{ne_eqb}
use Rattle.std.specs.Prelude.{if◌then◌else◌, ◌==◌}
use Rattle.lists.specs.Bits.{bits_of}
use Rattle.lists.proofs.Tables.{suc-same}

abbrev bit : Bool → ℕ
bit b = if b then 1 else 0

-- ONE BIT AT THE LOW END
pub half : (b : Bool) (x : ℕ) → (bit b + x * 2) / 2 ≡ x
half true x = omega arith
half false x = omega arith

pub low : (b : Bool) (x : ℕ) → (bit b + x * 2) % 2 ≡ bit b
low true x = omega arith
low false x = omega arith

pub and-more : (b c : Bool) (x y : ℕ) → bit_and (bit b + x * 2) (bit c + y * 2) ≡ bit (b && c) + bit_and x y * 2
and-more b c x y =
    and_step (bit b + x * 2) (bit c + y * 2)
    ∙ ap₂ (λ (h l : ℕ). h * 2 + l) (ap₂ bit_and (half b x) (half c y)) (ap₂ min (low b x) (low c y))
    ∙ go b c (bit_and x y)
  where
    go : (b c : Bool) (z : ℕ) → z * 2 + min (bit b) (bit c) ≡ bit (b && c) + z * 2
    go true true z = omega arith
    go true false z = omega arith
    go false true z = omega arith
    go false false z = omega arith

pub or-more : (b c : Bool) (x y : ℕ) → bit_or (bit b + x * 2) (bit c + y * 2) ≡ bit (b || c) + bit_or x y * 2
or-more b c x y =
    or_step (bit b + x * 2) (bit c + y * 2)
    ∙ ap₂ (λ (h l : ℕ). h * 2 + l) (ap₂ bit_or (half b x) (half c y)) (ap₂ max (low b x) (low c y))
    ∙ go b c (bit_or x y)
  where
    go : (b c : Bool) (z : ℕ) → z * 2 + max (bit b) (bit c) ≡ bit (b || c) + z * 2
    go true true z = omega arith
    go true false z = omega arith
    go false true z = omega arith
    go false false z = omega arith

-- how many low bits are set, of the number turned over
pub trailing-more : (b : Bool) (k s r : ℕ) → s < 2 ^ k → count_trailing_zeros k (2 ^ k - 1 - s) ≡ r → count_trailing_zeros (suc k) (2 ^ suc k - 1 - (bit b + s * 2)) ≡ (if b then suc r else 0)
unfolding count_trailing_zeros
trailing-more true k s r h e =
    let low : (2 ^ suc k - 1 - (1 + s * 2)) % 2 ≡ 0 = omega (arith, pow-suc 2 k) in
    let high : (2 ^ suc k - 1 - (1 + s * 2)) / 2 ≡ 2 ^ k - 1 - s = omega (arith, pow-suc 2 k) in
    ap₂ (λ (d n : ℕ). under d (count_trailing_zeros k n)) low high ∙ ap suc e
trailing-more false k s r h e =
    let low : (2 ^ suc k - 1 - (0 + s * 2)) % 2 ≡ 1 = omega (arith, pow-suc 2 k) in
    ap (λ (d : ℕ). under d (count_trailing_zeros k ((2 ^ suc k - 1 - (0 + s * 2)) / 2))) low

-- THE BITS WHERE A TEST HOLDS
pub bits-or : (n : ℕ) (f g : ℕ → Bool) → bit_or (bits_of n f) (bits_of n g) ≡ bits_of n (λ j. f j || g j)
unfolding bits_of
bits-or zero f g = refl
bits-or (suc n) f g =
    or-more (f 0) (g 0) (bits_of n (λ j. f (suc j))) (bits_of n (λ j. g (suc j)))
    ∙ ap (λ (z : ℕ). bit (f 0 || g 0) + z * 2) (bits-or n (λ j. f (suc j)) (λ j. g (suc j)))

pub bits-alike : (n : ℕ) (f g : ℕ → Bool) → ((j : ℕ) → j < n → f j ≡ g j) → bits_of n f ≡ bits_of n g
unfolding bits_of
bits-alike zero f g h = refl
bits-alike (suc n) f g h =
    ap₂ (λ (b : Bool) (z : ℕ). bit b + z * 2) (h 0 (omega arith)) (bits-alike n (λ j. f (suc j)) (λ j. g (suc j)) (λ j k. h (suc j) (omega arith)))

pub bits_none : (n : ℕ) → bits_of n (λ j. false) ≡ 0
unfolding bits_of
bits_none zero = refl
bits_none (suc n) = ap (λ (z : ℕ). 0 + z * 2) (bits_none n)

pub bits-one : (n k : ℕ) → k < n → bits_of n (λ j. j == k) ≡ 2 ^ k
unfolding bits_of
bits-one zero k h = absurd (omega arith)
bits-one (suc n) zero h = omega (arith, bits-alike n (λ j. suc j == 0) (λ j. false) (λ j l. ne_eqb (suc j) 0 (λ z. omega arith)), bits_none n)
bits-one (suc n) (suc k) h =
    let rest : bits_of n (λ j. suc j == suc k) ≡ 2 ^ k = bits-alike n (λ j. suc j == suc k) (λ j. j == k) (λ j l. suc-same j k) ∙ bits-one n k (le_of_suc-le-suc h) in
    ap₂ (λ (b : Bool) (z : ℕ). bit b + z * 2) (ne_eqb 0 (suc k) (λ z. omega arith)) rest ∙ omega (arith, pow-suc 2 k)

pub bits-lt : (n : ℕ) (f : ℕ → Bool) → bits_of n f < 2 ^ n
unfolding bits_of
bits-lt zero f = omega arith
bits-lt (suc n) f = go (f 0) (bits-lt n (λ j. f (suc j)))
  where
    go : (b : Bool) → bits_of n (λ j. f (suc j)) < 2 ^ n → bit b + bits_of n (λ j. f (suc j)) * 2 < 2 ^ suc n
    go true h = omega (arith, pow-suc 2 n)
    go false h = omega (arith, pow-suc 2 n)
