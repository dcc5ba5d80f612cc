-- Laws of the words of a line, and of the numbers that they give.
-- Assumes nothing.
use Rattle.std.proofs.Common.{ℕ, suc, ◌≡◌, ◌≢◌, ◌+◌, ◌-◌, ◌*◌, ◌≤◌, ◌<◌, ◌==◌, Bool, true, false, List, [], ◌∷◌, Ok, Err, length, get_or, take, drop, drop-cons, drop_of_length-le, add-one, if◌then◌else◌, refl, sym, ap, ◌∙◌, arith}
use Rattle.std.specs.List.{prefix_len}
use Rattle.std.specs.Char.{IsNotAsciiDigit}
use mathlib.Core.Logic.{⊎_elim}
use lib.Dec.{eqb}
use borrow.Author.Tests.{eqb-true, eq-eqb, ne_eqb, le-ltb, lt-ltb}
use Rattle.lists.proofs.Parts.{part-rest}
use Rattle.script_line.specs.Words.{space?, skipped, ended?, Number, digits_from, decimal_of, minus, plus, signed_of}
use Rattle.script_line.specs.declared.Cause.TheVariants.{BadNumber, LargeNumber}

-- what is left behind spaces: nothing where a comment starts
unfoldable uncommented : List ℕ → List ℕ
uncommented [] = []
uncommented (b ∷ s) = if b == 0x23 then [] else b ∷ s

-- spaces end before a comment starts
skipped-is : (s : List ℕ) → skipped s ≡ uncommented (drop (prefix_len space? s) s)
unfolding skipped uncommented space?
skipped-is [] = refl
skipped-is (b ∷ s) = go (eqb b 0x23) refl (space? b) refl (skipped-is s)
  where
    go : (t : Bool) → eqb b 0x23 ≡ t → (u : Bool) → space? b ≡ u → skipped s ≡ uncommented (drop (prefix_len space? s) s) → skipped (b ∷ s) ≡ uncommented (drop (prefix_len space? (b ∷ s)) (b ∷ s))
    go true e u f more = rw (eqb-true b 0x23 e) refl
    go false e true f more = let k : 1 + prefix_len space? s ≡ suc (prefix_len space? s) = omega arith in simp (e, f) (rw k more)
    go false e false f more = simp (e, f)

uncommented-hash : (t : List ℕ) → get_or t 0 0 ≡ 0x23 → uncommented t ≡ []
unfolding uncommented
uncommented-hash [] h = refl
uncommented-hash (b ∷ t) h = simp (eq-eqb b 0x23 h)

uncommented-else : (t : List ℕ) → get_or t 0 0 ≢ 0x23 → uncommented t ≡ t
unfolding uncommented
uncommented-else [] h = refl
uncommented-else (b ∷ t) h = simp (ne_eqb b 0x23 h)

module _ (s : List ℕ) {n : ℕ} (e : n ≡ prefix_len space? s) where
  rest : take (length s - n) (drop n s) ≡ drop (prefix_len space? s) s
  rest = part-rest s n ∙ ap (λ k. drop k s) e

  pub skipped-hash : get_or (take (length s - n) (drop n s)) 0 0 ≡ 0x23 → [] ≡ skipped s
  skipped-hash h = sym (skipped-is s ∙ ap uncommented (sym rest) ∙ uncommented-hash _ h)

  pub skipped-else : get_or (take (length s - n) (drop n s)) 0 0 ≢ 0x23 → take (length s - n) (drop n s) ≡ skipped s
  skipped-else h = sym (skipped-is s ∙ ap uncommented (sym rest) ∙ uncommented-else _ h)

-- a number with or without a minus
module _ (s : List ℕ) {d r : Number} where
  pub signed-minus : 0 < length s → get_or s 0 0 ≡ 0x2D → d ≡ decimal_of (take (length s - 1) (drop 1 s)) → r ≡ minus d → r ≡ signed_of s
  unfolding signed_of
  signed-minus some e a b = let n : length s ≢ 0 = omega arith in simp (ne_eqb _ _ n, eq-eqb _ _ e) (b ∙ ap minus (a ∙ ap decimal_of (part-rest s 1)))

  signed-some : length s ≢ 0 → get_or s 0 0 ≢ 0x2D → d ≡ decimal_of s → r ≡ plus d → r ≡ signed_of s
  unfolding signed_of
  signed-some some n a b = simp (ne_eqb _ _ some, ne_eqb _ _ n) (b ∙ ap plus a)

pub signed-plus : (s : List ℕ) {d r : Number} → get_or s 0 0 ≢ 0x2D → d ≡ decimal_of s → r ≡ plus d → r ≡ signed_of s
unfolding signed_of decimal_of plus
signed-plus [] n a b = b ∙ ap plus a
signed-plus (x ∷ s) n a b = signed-some (x ∷ s) (λ z. omega arith) n a b

-- where nothing stands there is no byte
pub none-there : (s : List ℕ) {b : ℕ} → length s < 1 → 0 < b → get_or s 0 0 ≢ b
none-there [] h some e = omega arith
none-there (x ∷ s) h some e = omega arith

-- the digit at a place goes into the number before the rest is read
module _ (s : List ℕ) {at : ℕ} (v : ℕ) where
  here : at < length s → drop at s ≡ get_or s at 0 ∷ drop (at + 1) s
  here h = rw add-one (drop-cons s at 0 h)

  pub digits_more : at < length s → 0x30 ≤ get_or s at 0 → get_or s at 0 ≤ 0x39 → v * 10 + (get_or s at 0 - 0x30) ≤ 65535
      → digits_from v (drop at s) ≡ digits_from (v * 10 + (get_or s at 0 - 0x30)) (drop (at + 1) s)
  unfolding digits_from
  digits_more h low high few = rw (here h) (simp (le-ltb _ _ low, le-ltb _ _ high, le-ltb _ _ few))

  pub digits-none : at < length s → IsNotAsciiDigit (get_or s at 0) → digits_from v (drop at s) ≡ Err BadNumber
  unfolding digits_from
  digits-none h n = rw (here h) (⊎_elim (λ (l : get_or s at 0 < 0x30). simp (lt-ltb _ _ l)) (λ (u : 0x39 < get_or s at 0). let low : 0x30 ≤ get_or s at 0 = omega arith in simp (le-ltb _ _ low, lt-ltb _ _ u)) n)

  pub digits-many : at < length s → 0x30 ≤ get_or s at 0 → get_or s at 0 ≤ 0x39 → 65535 < v * 10 + (get_or s at 0 - 0x30) → digits_from v (drop at s) ≡ Err LargeNumber
  unfolding digits_from
  digits-many h low high many = rw (here h) (simp (le-ltb _ _ low, le-ltb _ _ high, lt-ltb _ _ many))

  pub digits-done : length s ≤ at → digits_from v (drop at s) ≡ Ok v
  unfolding digits_from
  digits-done h = rw (drop_of_length-le s h) refl

-- a word that is not empty is read from its first digit on
pub decimal-some : (s : List ℕ) {x : Number} → length s ≢ 0 → digits_from 0 s ≡ x → x ≡ decimal_of s
unfolding decimal_of
decimal-some s n e = simp (ne_eqb _ _ n) (sym e)

-- a word ends where nothing, a comment or a space stands
pub ended-none : (s : List ℕ) → length s < 1 → true ≡ ended? s
unfolding ended?
ended-none [] h = refl
ended-none (b ∷ s) h = absurd (omega arith)

pub ended-hash : (s : List ℕ) → 1 ≤ length s → get_or s 0 0 ≡ 0x23 → true ≡ ended? s
unfolding ended?
ended-hash [] h e = absurd (omega arith)
ended-hash (b ∷ s) h e = simp (eq-eqb _ _ e)

pub ended-else : (s : List ℕ) → 1 ≤ length s → get_or s 0 0 ≢ 0x23 → space? (get_or s 0 0) ≡ ended? s
unfolding ended?
ended-else [] h n = absurd (omega arith)
ended-else (b ∷ s) h n = simp (ne_eqb _ _ n)
