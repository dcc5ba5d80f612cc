-- Laws of a number spelled in decimal and counted on: all digits stay but the last, unless that is 9.
-- Assumes nothing.
use Prim.Native.Nat.{ℕ, ◌+◌, ◌-◌, ◌/◌, ◌%◌, ◌≤◌, ◌<◌}
use native.Mathlib.Omega.{arith}
use mathlib.Core.Path.{◌≡◌, refl, sym, ap, ◌∙◌}
use mathlib.Core.Bool.{Bool, true, false}
use mathlib.Core.List.{List, [], ◌∷◌, ◌++◌}
use lib.ListN.{length, get_or, set, length-append}
use lib.Seq.{get_or-take, get_or_at, take-set-lt, set_at}
use borrow.Author.Tests.{lt-ltb, ltb-true, ltb-false}
use Rattle.lists.specs.Tests.{◌<?◌}
use Rattle.lists.specs.Wrote.{Wrote}
use Rattle.lists.proofs.WrittenParts.{wrote-front}
use Rattle.rules.specs.Floor.{digit, decimal}
use Rattle.floor_lines.specs.Texts.{Spells}
use Rattle.floor_lines.proofs.LineLaws.{decimal-one, decimal-more}

digit-ten : (n : ℕ) → n < 10 → digit n ≡ 48 + n
unfolding digit
digit-ten n h = rw (lt-ltb n 10 h) refl

-- the last digit, behind the others, and that of the next number where it is not 9
record Ends (k : ℕ) : Type 0 where
  front : List ℕ
  here : decimal k ≡ front ++ (48 + k % 10) ∷ []
  next : k % 10 < 9 → decimal (k + 1) ≡ front ++ (48 + k % 10 + 1) ∷ []

ends : (k : ℕ) → Ends k
ends k = go (k <? 10) refl
  where
    last : (n : ℕ) → digit (n % 10) ≡ 48 + n % 10
    last n = digit-ten (n % 10) (omega arith)

    go : (b : Bool) → (k <? 10) ≡ b → Ends k
    go true e =
        let h = ltb-true k 10 e in
        record {
          front = [];
          here = sym (decimal-one k h) ∙ ap (λ x. x ∷ []) (last k);
          next = λ s.
              let n : 48 + (k + 1) % 10 ≡ 48 + k % 10 + 1 = omega arith in
              sym (decimal-one (k + 1) (omega arith)) ∙ ap (λ x. x ∷ []) (last (k + 1) ∙ n);
        }
    go false e =
        let h = ltb-false k 10 e in
        record {
          front = decimal (k / 10);
          here = sym (decimal-more k h) ∙ ap (λ x. decimal (k / 10) ++ x ∷ []) (last k);
          next = λ s.
              let n : 48 + (k + 1) % 10 ≡ 48 + k % 10 + 1 = omega arith in
              let q : (k + 1) / 10 ≡ k / 10 = omega arith in
              sym (decimal-more (k + 1) (omega arith)) ∙ ap (λ x. decimal ((k + 1) / 10) ++ x ∷ []) (last (k + 1) ∙ n) ∙ ap (λ x. decimal x ++ (48 + k % 10 + 1) ∷ []) q;
        }

module _ {k n : ℕ} {b : List ℕ} (s : Spells k b n) where
  pub spells-some : 1 ≤ n
  spells-some = let e = ends k in omega (arith, s.long, ap length e.here, length-append e.front ((48 + k % 10) ∷ []))

  -- the last digit counted on
  front_long : length (ends k).front ≡ n - 1
  front_long = let e = ends k in omega (arith, s.long, ap length e.here, length-append e.front ((48 + k % 10) ∷ []))

  last-is : get_or b (n - 1) 0 ≡ 48 + k % 10
  last-is =
      let e = ends k in
      sym (get_or-take n b (n - 1) 0 (omega (arith, spells-some)))
      ∙ ap (λ l. get_or l (n - 1) 0) (s.text ∙ e.here)
      ∙ get_or_at e.front (48 + k % 10) [] 0 (n - 1) front_long

  pub spells-on : get_or b (n - 1) 0 < 57 → Spells (k + 1) (set b (n - 1) (get_or b (n - 1) 0 + 1)) n
  spells-on h =
      let e = ends k in
      let next = e.next (omega (arith, last-is)) in
      record {
        long = omega (arith, s.long, ap length e.here, ap length next, length-append e.front ((48 + k % 10) ∷ []), length-append e.front ((48 + k % 10 + 1) ∷ []));
        text =
            take-set-lt n b (n - 1) (get_or b (n - 1) 0 + 1) (omega (arith, spells-some))
            ∙ ap (λ l. set l (n - 1) (get_or b (n - 1) 0 + 1)) (s.text ∙ e.here)
            ∙ set_at e.front (48 + k % 10) [] (get_or b (n - 1) 0 + 1) (n - 1) front_long
            ∙ ap (λ x. e.front ++ (x + 1) ∷ []) last-is
            ∙ sym next;
      }

-- written at the front
pub wrote-spells : {k n : ℕ} {b c : List ℕ} → Wrote b 0 (decimal k) c n → Spells k c n
wrote-spells w = record { long = omega (arith, w.next); text = wrote-front w }
