-- The set of those that pass, bit by bit; what the machine's operations make of two such sets; and that every byte is the set of what it has.
-- Assumes nothing.
use Prim.Native.Nat.{ℕ, zero, suc, ◌+◌, ◌-◌, ◌*◌, ◌/◌, ◌%◌, ◌^◌, ◌≤◌, ◌<◌}
use native.Mathlib.Nat.{pow-suc}
use native.Mathlib.Omega.{arith}
use mathlib.Core.Path.{◌≡◌, refl, sym, ap, ap₂, ◌∙◌}
use mathlib.Core.Logic.{◌⊎◌, inl, inr}
use mathlib.Core.Bool.{Bool, true, false, not, ◌&&◌, ◌||◌}
use mathlib.Core.List.{List, [], ◌∷◌, map}
use lib.Bits.{bit_and, bit_or, and_mask}
use lib.Dec.{eqb}
use lib.ListN.{length, get_or, get_or-eq_default}
use borrow.Author.Tests.{ne_eqb, eqb-true, eqb-false, leb-true, leb-false}
use Rattle.lists.specs.Tests.{◌≤?◌}
use Rattle.std.specs.Prelude.{if◌then◌else◌, ◌==◌}
use Rattle.lists.specs.Lists.{some?, Every}
use Rattle.lists.proofs.Bits.{half, low, and-more, or-more}
use Rattle.lists.proofs.Places.{get_or-blank}
use Rattle.lists.proofs.Decided.{clashing}
use Rattle.sets.specs.Sets.{numbers, is_number, digits, valued, has?, set_of, single}

abbrev bit : Bool → ℕ
bit b = if b then 1 else 0

-- over any list
module _ (p q : ℕ → Bool) where
  and-all : (l : List ℕ) → bit_and (valued (map p l)) (valued (map q l)) ≡ valued (map (λ n. p n && q n) l)
  unfolding valued
  and-all [] = refl
  and-all (n ∷ l) = and-more (p n) (q n) (valued (map p l)) (valued (map q l)) ∙ ap (λ (z : ℕ). bit (p n && q n) + z * 2) (and-all l)

  or-all : (l : List ℕ) → bit_or (valued (map p l)) (valued (map q l)) ≡ valued (map (λ n. p n || q n) l)
  unfolding valued
  or-all [] = refl
  or-all (n ∷ l) = or-more (p n) (q n) (valued (map p l)) (valued (map q l)) ∙ ap (λ (z : ℕ). bit (p n || q n) + z * 2) (or-all l)

module _ (p : ℕ → Bool) where
  not-all : (l : List ℕ) → valued (map (λ n. not (p n)) l) + valued (map p l) + 1 ≡ 2 ^ length l
  unfolding valued
  not-all [] = refl
  not-all (n ∷ l) = go (p n) (not-all l)
    where
      go : (b : Bool) → valued (map (λ n. not (p n)) l) + valued (map p l) + 1 ≡ 2 ^ length l
          → (bit (not b) + valued (map (λ n. not (p n)) l) * 2) + (bit b + valued (map p l) * 2) + 1 ≡ 2 ^ suc (length l)
      go true e = omega (arith, pow-suc 2 (length l))
      go false e = omega (arith, pow-suc 2 (length l))

  some-all : (l : List ℕ) → not (eqb (valued (map p l)) 0) ≡ some? p l
  unfolding valued some?
  some-all [] = refl
  some-all (n ∷ l) = go (p n) (some-all l)
    where
      go : (b : Bool) → not (eqb (valued (map p l)) 0) ≡ some? p l → not (eqb (bit b + valued (map p l) * 2) 0) ≡ (b || some? p l)
      go true e = ap not (ne_eqb (1 + valued (map p l) * 2) 0 (λ z. omega arith))
      go false e = same (valued (map p l)) ∙ e
        where
          same : (v : ℕ) → not (eqb (0 + v * 2) 0) ≡ not (eqb v 0)
          same zero = refl
          same (suc v) = ap not (ne_eqb (0 + suc v * 2) 0 (λ z. omega arith) ∙ sym (ne_eqb (suc v) 0 (λ z. omega arith)))

-- the digits of a value, and the value of digits
digits-back : (l : List Bool) → digits (length l) (valued l) ≡ l
unfolding digits valued
digits-back [] = refl
digits-back (b ∷ l) =
    ap₂ (λ (x : ℕ) (y : ℕ). (x == 1) ∷ digits (length l) y) (low b (valued l)) (half b (valued l))
    ∙ ap₂ (λ (x : Bool) (y : List Bool). x ∷ y) (one b) (digits-back l)
  where
    one : (b : Bool) → (bit b == 1) ≡ b
    one true = refl
    one false = refl

valued_back : (k s : ℕ) → s < 2 ^ k → valued (digits k s) ≡ s
unfolding digits valued
valued_back zero s h = omega arith
valued_back (suc k) s h = go (s % 2 == 1) refl (valued_back k (s / 2) (omega (arith, pow-suc 2 k)))
  where
    go : (b : Bool) → (s % 2 == 1) ≡ b → valued (digits k (s / 2)) ≡ s / 2 → bit b + valued (digits k (s / 2)) * 2 ≡ s
    go true e i = let o = eqb-true (s % 2) 1 e in omega arith
    go false e i = let o = eqb-false (s % 2) 1 e in omega (arith, o)

-- what holds of each of 1 to 8
pub one_of : (P : ℕ → Type 0) → Every P numbers → (n : ℕ) → 1 ≤ n → n ≤ 8 → P n
unfolding numbers Every
one_of P e zero h k = absurd (omega arith)
one_of P e (suc zero) h k = e.0
one_of P e (suc (suc zero)) h k = e.1.0
one_of P e (suc (suc (suc zero))) h k = e.1.1.0
one_of P e (suc (suc (suc (suc zero)))) h k = e.1.1.1.0
one_of P e (suc (suc (suc (suc (suc zero))))) h k = e.1.1.1.1.0
one_of P e (suc (suc (suc (suc (suc (suc zero)))))) h k = e.1.1.1.1.1.0
one_of P e (suc (suc (suc (suc (suc (suc (suc zero))))))) h k = e.1.1.1.1.1.1.0
one_of P e (suc (suc (suc (suc (suc (suc (suc (suc zero)))))))) h k = e.1.1.1.1.1.1.1.0
one_of P e (suc (suc (suc (suc (suc (suc (suc (suc (suc n))))))))) h k = absurd (omega arith)

pub is-number : (n : ℕ) → is_number n ≡ true → (1 ≤ n) × (n ≤ 8)
unfolding is_number
is-number n e = go (1 ≤? n) (n ≤? 8) refl refl e
  where
    go : (a b : Bool) → (1 ≤? n) ≡ a → (n ≤? 8) ≡ b → (a && b) ≡ true → (1 ≤ n) × (n ≤ 8)
    go true true p q e = (leb-true 1 n p, leb-true n 8 q)
    go true false p q e = clashing e refl
    go false b p q e = clashing e refl

pub no_number : (n : ℕ) → is_number n ≡ false → (n ≡ 0) ⊎ (8 < n)
unfolding is_number
no_number n e = go (1 ≤? n) (n ≤? 8) refl refl e
  where
    go : (a b : Bool) → (1 ≤? n) ≡ a → (n ≤? 8) ≡ b → (a && b) ≡ false → (n ≡ 0) ⊎ (8 < n)
    go true true p q e = clashing refl e
    go true false p q e = inr (leb-false n 8 q)
    go false b p q e = let h = leb-false 1 n p in inl (omega arith)

-- SETS. The machine's operations on the sets of those that pass.
module _ (p q : ℕ → Bool) where
  pub set-alike : ((k : ℕ) → 1 ≤ k → k ≤ 8 → p k ≡ q k) → set_of p ≡ set_of q
  unfolding set_of numbers
  set-alike h =
      rw (
        h 1 (omega arith) (omega arith),
        h 2 (omega arith) (omega arith),
        h 3 (omega arith) (omega arith),
        h 4 (omega arith) (omega arith),
        h 5 (omega arith) (omega arith),
        h 6 (omega arith) (omega arith),
        h 7 (omega arith) (omega arith),
        h 8 (omega arith) (omega arith),
      )
      refl

  pub set-and : bit_and (set_of p) (set_of q) ≡ set_of (λ n. p n && q n)
  unfolding set_of
  set-and = and-all p q numbers

  pub set-or : bit_or (set_of p) (set_of q) ≡ set_of (λ n. p n || q n)
  unfolding set_of
  set-or = or-all p q numbers

module _ (p : ℕ → Bool) where
  pub set-not : 255 - set_of p ≡ set_of (λ n. not (p n))
  unfolding set_of numbers
  set-not = omega (arith, not-all p numbers)

  pub set-some : not (eqb (set_of p) 0) ≡ some? p numbers
  unfolding set_of
  set-some = some-all p numbers

  pub has-set : (n : ℕ) → 1 ≤ n → n ≤ 8 → has? (set_of p) n ≡ p n
  unfolding has? set_of numbers
  has-set n h k = ap (λ (l : List Bool). get_or (false ∷ l) n false) (digits-back (map p numbers)) ∙ one_of (λ (n : ℕ). get_or (false ∷ map p numbers) n false ≡ p n) (unfold numbers Every in (refl, (refl, (refl, (refl, (refl, (refl, (refl, (refl, tt))))))))) n h k

-- what is asked of 1 to 8 only
pub some-each : (p q : ℕ → Bool) → ((k : ℕ) → 1 ≤ k → k ≤ 8 → p k ≡ q k) → some? p numbers ≡ some? q numbers
some-each p q h = sym (set-some p) ∙ ap (λ (s : ℕ). not (eqb s 0)) (set-alike p q h) ∙ set-some q

-- every byte is the set of what it has
pub set-has : (s : ℕ) → s < 256 → s ≡ set_of (has? s)
unfolding set_of has? numbers digits
set-has s h = sym (valued_back 8 s h)

-- nobody is in the set of none
pub has-empty : (n : ℕ) → has? 0 n ≡ false
unfolding has? digits
has-empty n = get_or-blank false 9 n

pub has-none : (s n : ℕ) → is_number n ≡ false → false ≡ has? s n
unfolding has? digits
has-none s n e = go (no_number n e)
  where
    go : (n ≡ 0) ⊎ (8 < n) → false ≡ has? s n
    go (inl z) = rw z refl
    go (inr h) = sym (get_or-eq_default (false ∷ digits 8 s) false {n = n} (omega arith))

pub single-is : (n : ℕ) → is_number n ≡ true → (1 * 2 ^ (n - 1)) % 256 ≡ single n
unfolding single set_of valued numbers
single-is n e =
    let k = is-number n e in
    one_of (λ (n : ℕ). (1 * 2 ^ (n - 1)) % 256 ≡ single n) (unfold Every in (refl, (refl, (refl, (refl, (refl, (refl, (refl, (refl, tt))))))))) n k.0 k.1

pub single-none : (n : ℕ) → is_number n ≡ false → 0 ≡ single n
unfolding single
single-none n e = go (no_number n e)
  where
    none : 0 ≡ set_of (λ (k : ℕ). false)
    none = unfold set_of valued numbers in refl

    go : (n ≡ 0) ⊎ (8 < n) → 0 ≡ single n
    go (inl z) = none ∙ set-alike (λ (k : ℕ). false) (λ (k : ℕ). k == n) (λ k h l. sym (ne_eqb k n (λ w. omega arith)))
    go (inr g) = none ∙ set-alike (λ (k : ℕ). false) (λ (k : ℕ). k == n) (λ k h l. sym (ne_eqb k n (λ w. omega arith)))

-- one bit read
pub has-read : (s n : ℕ) → is_number n ≡ true → eqb (bit_and (s / 2 ^ (n - 1)) 1) 1 ≡ has? s n
unfolding has? digits numbers Every
has-read s n e =
    let k = is-number n e in
    let d1 : s / 1 ≡ s = omega arith in
    let d2 : s / 2 ≡ s / 2 = omega arith in
    let d3 : s / 4 ≡ s / 2 / 2 = omega arith in
    let d4 : s / 8 ≡ s / 2 / 2 / 2 = omega arith in
    let d5 : s / 16 ≡ s / 2 / 2 / 2 / 2 = omega arith in
    let d6 : s / 32 ≡ s / 2 / 2 / 2 / 2 / 2 = omega arith in
    let d7 : s / 64 ≡ s / 2 / 2 / 2 / 2 / 2 / 2 = omega arith in
    let d8 : s / 128 ≡ s / 2 / 2 / 2 / 2 / 2 / 2 / 2 = omega arith in
    ap (λ (x : ℕ). eqb x 1) (and_mask (s / 2 ^ (n - 1)) 1)
    ∙ one_of (λ (n : ℕ). eqb (s / 2 ^ (n - 1) % 2) 1 ≡ has? s n) ((ap odd d1, (ap odd d2, (ap odd d3, (ap odd d4, (ap odd d5, (ap odd d6, (ap odd d7, (ap odd d8, tt))))))))) n k.0 k.1
  where
    odd : ℕ → Bool
    odd x = eqb (x % 2) 1

-- what the operations make of any two bytes
module _ (a b : ℕ) (f : a < 256) (g : b < 256) where
  pub both_is : bit_and a b ≡ set_of (λ k. has? a k && has? b k)
  both_is = ap₂ bit_and (set-has a f) (set-has b g) ∙ set-and (has? a) (has? b)

  pub without_is : bit_and a (255 - b) ≡ set_of (λ k. has? a k && not (has? b k))
  without_is =
      ap₂ bit_and (set-has a f) (ap (λ (z : ℕ). 255 - z) (set-has b g) ∙ set-not (has? b)) ∙ set-and (has? a) (λ k. not (has? b k))

module _ (s n b : ℕ) (f : s < 256) (e : b ≡ single n) where
  own : b ≡ set_of (λ k. k == n)
  unfolding single
  own = e

  pub turned_on : bit_or s b ≡ set_of (λ k. if k == n then true else has? s k)
  turned_on =
      ap₂ bit_or (set-has s f) own ∙ set-or (has? s) (λ k. k == n)
      ∙ set-alike _ _ (λ k h l. go (has? s k) (k == n))
    where
      go : (x y : Bool) → (x || y) ≡ (if y then true else x)
      go true true = refl
      go true false = refl
      go false true = refl
      go false false = refl

  pub turned-off : bit_and s (255 - b) ≡ set_of (λ k. if k == n then false else has? s k)
  turned-off =
      ap₂ bit_and (set-has s f) (ap (λ (z : ℕ). 255 - z) own ∙ set-not (λ k. k == n)) ∙ set-and (has? s) (λ k. not (k == n))
      ∙ set-alike _ _ (λ k h l. go (has? s k) (k == n))
    where
      go : (x y : Bool) → (x && not y) ≡ (if y then false else x)
      go true true = refl
      go true false = refl
      go false true = refl
      go false false = refl
