-- Laws of a line's parts: numbers in decimal without regard to fuel, bytes in hex one by one, how long each is, and the whole.
-- Assumes nothing.
use Prim.Native.Nat.{ℕ, zero, suc, ◌+◌, ◌*◌, ◌/◌, ◌%◌, ◌≤◌, ◌<◌}
use native.Mathlib.Omega.{arith}
use native.Mathlib.Numerals.{add-one}
use mathlib.Core.Path.{◌≡◌, refl, sym, ap, ◌∙◌}
use mathlib.Core.Bool.{Bool, true, false}
use mathlib.Core.List.{List, [], ◌∷◌, ◌++◌, append_assoc, append-nil}
use lib.ListN.{length, take, get_or, length-append}
use lib.Seq.{take-suc}
use borrow.Author.Tests.{lt-ltb, le-ltb, ltb-true, ltb-false}
use Rattle.lists.specs.Tests.{◌<?◌}
use Rattle.std.specs.Prelude.{if◌then◌else◌}
use Rattle.lists.specs.Lists.{gather, in?, empty?}
use Rattle.writing.specs.declared.Out.{Out}
use Rattle.writing.specs.Puts.{Room, Puts}
use Rattle.writing.proofs.PutLaws.{puts_none, puts_then, puts_as}
use Rattle.rules.specs.Floor.{letters, digit, decimal_by, decimal, hex, line_of}
use Rattle.floor_lines.specs.Texts.{answer_text}

-- fuel from the number on is of no account
fuel : (f g n : ℕ) → n ≤ f → n ≤ g → decimal_by f n ≡ decimal_by g n
unfolding decimal_by
fuel zero zero n h k = refl
fuel zero (suc g) n h k = let z : n ≡ 0 = omega arith in rw z refl
fuel (suc f) zero n h k = let z : n ≡ 0 = omega arith in rw z refl
fuel (suc f) (suc g) n h k = go (n <? 10) refl (fuel f g (n / 10))
  where
    go : (b : Bool) → (n <? 10) ≡ b → (n / 10 ≤ f → n / 10 ≤ g → decimal_by f (n / 10) ≡ decimal_by g (n / 10))
        → (if b then digit n ∷ [] else decimal_by f (n / 10) ++ digit (n % 10) ∷ []) ≡ (if b then digit n ∷ [] else decimal_by g (n / 10) ++ digit (n % 10) ∷ [])
    go true e i = refl
    go false e i = let m = ltb-false n 10 e in ap (λ (s : List ℕ). s ++ digit (n % 10) ∷ []) (i (omega arith) (omega arith))

-- a number of one digit, and of more
pub decimal-one : (n : ℕ) → n < 10 → digit (n % 10) ∷ [] ≡ decimal n
unfolding decimal decimal_by
decimal-one zero h = refl
decimal-one (suc k) h = let e : suc k % 10 ≡ suc k = omega arith in rw (lt-ltb (suc k) 10 h, e) refl

pub decimal-more : (n : ℕ) → 10 ≤ n → decimal (n / 10) ++ digit (n % 10) ∷ [] ≡ decimal n
unfolding decimal decimal_by
decimal-more zero h = absurd (omega arith)
decimal-more (suc k) h = rw (le-ltb (suc k) 10 h) (ap (λ (s : List ℕ). s ++ digit (suc k % 10) ∷ []) (fuel (suc k / 10) k (suc k / 10) (omega arith) (omega arith)))

-- ten times over, so often
unfoldable limit : ℕ → ℕ
limit zero = 10
limit (suc k) = 10 * limit k

short : (k n : ℕ) → n < limit k → length (decimal n) ≤ suc k
unfolding limit
short zero n h = let e = ap length (decimal-one n h) in omega arith
short (suc k) n h = go (n <? 10) refl (short k (n / 10))
  where
    go : (b : Bool) → (n <? 10) ≡ b → (n / 10 < limit k → length (decimal (n / 10)) ≤ suc k) → length (decimal n) ≤ suc (suc k)
    go true e i = let f = ap length (decimal-one n (ltb-true n 10 e)) in omega arith
    go false e i =
        let f = simp length-append at (ap length (decimal-more n (ltb-false n 10 e))) in
        let j = i (omega arith) in
        omega arith

pub decimal-20 : (n : ℕ) → n < 18446744073709551616 → length (decimal n) ≤ 20
unfolding limit
decimal-20 n h = short 19 n (omega arith)

pub decimal-3 : (n : ℕ) → n < 256 → length (decimal n) ≤ 3
unfolding limit
decimal-3 n h = short 2 n (omega arith)

pub shorter : (n : ℕ) → 10 ≤ n → length (decimal n) ≡ length (decimal (n / 10)) + 1
shorter n h = sym (ap length (decimal-more n h)) ∙ length-append (decimal (n / 10)) _

pub some-digit : (n : ℕ) → n < 10 → length (decimal n) ≡ 1
some-digit n h = sym (ap length (decimal-one n h))

-- the last digit was put, alone or behind the others
module _ {o : Out} {n x : ℕ} (last : x ≡ digit (n % 10)) where
  pub puts_one : {p : Out} → n < 10 → Puts o (x ∷ []) p → Puts o (decimal n) p
  puts_one h w = puts_as (rw last (decimal-one n h)) w

  pub puts_more : {p q : Out} → 10 ≤ n → Room o (length (decimal n)) → Puts o (decimal (n / 10)) p → Puts p (x ∷ []) q → Puts o (decimal n) q
  puts_more h f w v = puts_as (rw last (decimal-more n h)) (puts_then w v (omega (arith, shorter n h)))

gather-snoc : {A B : Type 0} (f : A → List B) (l : List A) (x : A) → gather f (l ++ x ∷ []) ≡ gather f l ++ f x
unfolding gather
gather-snoc f [] x = append-nil (f x)
gather-snoc {B = B} f (y ∷ l) x = ap (λ (r : List B). f y ++ r) (gather-snoc f l x) ∙ sym (append_assoc (f y) (gather f l) (f x))

hex-more : (s : List ℕ) (i : ℕ) → i < length s → hex (take i s) ++ digit (get_or s i 0 / 16) ∷ digit (get_or s i 0 % 16) ∷ [] ≡ hex (take (i + 1) s)
unfolding hex
hex-more s i h = rw (add-one, take-suc s i 0 h) (sym (gather-snoc _ (take i s) (get_or s i 0)))

length-hex : (s : List ℕ) → length (hex s) ≡ 2 * length s
unfolding hex gather
length-hex [] = refl
length-hex (x ∷ s) = let i = length-hex s in omega arith

-- a loop that has spelled the first i bytes of s
pub record Spelled (o : Out) (s : List ℕ) (i : ℕ) (p : Out) : Type 0 where
  pub within : i ≤ length s
  pub place : p.at ≡ o.at + 2 * i
  pub puts : Puts o (hex (take i s)) p

module _ (o : Out) (s : List ℕ) (fits : Room o (2 * length s)) where
  pub spelled_none : Spelled o s 0 o
  unfolding hex gather
  spelled_none = record { within = omega arith; place = omega arith; puts = puts_none o }

  pub spelled-more
      : (i : ℕ) {p q : Out} {x y : ℕ}
      → i < length s → Spelled o s i p → x ≡ digit (get_or s i 0 / 16) → y ≡ digit (get_or s i 0 % 16) → Puts p (x ∷ y ∷ []) q → Spelled o s (i + 1) q
  spelled-more i h l e f w =
      record {
        within = omega arith;
        place = omega (arith, l.place, w.wrote.next);
        puts = puts_as (rw (e, f) (hex-more s i h)) (puts_then l.puts w (omega (arith, l.place, l.puts.wrote.next)));
      }

-- the answer's text
pub answer-none : (l : List ℕ) → length l ≡ 0 → 45 ∷ [] ≡ answer_text l
unfolding answer_text empty?
answer-none [] e = refl
answer-none (x ∷ l) e = absurd (omega arith)

pub answer-some : (l : List ℕ) → (length l ≡ 0 → ⊥) → hex l ≡ answer_text l
unfolding answer_text empty?
answer-some [] n = absurd (n refl)
answer-some (x ∷ l) n = refl

pub answer-fits : (l : List ℕ) → (length l ≡ 0 → ⊥) → 2 * length l ≡ length (answer_text l)
answer-fits l n = sym (length-hex l) ∙ ap length (answer-some l n)

pub answer-short : (l : List ℕ) → length l ≤ 256 → length (answer_text l) ≤ 512
unfolding answer_text empty?
answer-short [] h = omega arith
answer-short (x ∷ l) h = omega (arith, length-hex (x ∷ l))

-- the parts of a line, one behind the other
line-parts
    : (number letter x : ℕ) (refusal answer : List ℕ)
    → x ≡ (if in? letter letters then letter else 63)
    → decimal number ++ (32 ∷ x ∷ 32 ∷ []) ++ refusal ++ (32 ∷ []) ++ answer_text answer ++ (10 ∷ []) ≡ line_of number letter refusal answer
unfolding line_of answer_text
line-parts number letter x refusal answer e = rw e (simp append_assoc)

pub puts_line
    : {o p₁ p₂ p₃ p₄ p₅ p₆ : Out} {x : ℕ} {refusal : List ℕ} (number letter : ℕ) (answer : List ℕ)
    → p₆.at ≤ length o.buf.now
    → x ≡ (if in? letter letters then letter else 63)
    → Puts o (decimal number) p₁
    → Puts p₁ (32 ∷ x ∷ 32 ∷ []) p₂
    → Puts p₂ refusal p₃
    → Puts p₃ (32 ∷ []) p₄
    → Puts p₄ (answer_text answer) p₅
    → Puts p₅ (10 ∷ []) p₆
    → Puts o (line_of number letter refusal answer) p₆
puts_line {x = x} {refusal} number letter answer h e w₁ w₂ w₃ w₄ w₅ w₆ =
    let n₁ = w₁.wrote.next in
    let n₂ = w₂.wrote.next in
    let n₃ = w₃.wrote.next in
    let n₄ = w₄.wrote.next in
    let n₅ = w₅.wrote.next in
    let n₆ = w₆.wrote.next in
    let k₂ = puts_then w₁ w₂ (omega arith) in
    let k₃ = puts_then k₂ w₃ (omega (arith, k₂.wrote.next)) in
    let k₄ = puts_then k₃ w₄ (omega (arith, k₃.wrote.next)) in
    let k₅ = puts_then k₄ w₅ (omega (arith, k₄.wrote.next)) in
    puts_as (line-parts number letter x refusal answer e) (puts_then k₅ w₆ (omega (arith, k₅.wrote.next)))
