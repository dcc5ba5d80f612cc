-- The line of an answer that is accepted, and of one that is refused.
-- Assumes nothing.
use Prim.Native.Nat.{ℕ, zero, suc}
use Prim.Native.Char.{code}
use native.Mathlib.Omega.{arith}
use mathlib.Core.Path.{◌≡◌, refl, sym, ap, ◌∙◌}
use mathlib.Core.List.{List, [], ◌∷◌}
use lib.ListN.{take}
use lib.Seq.{take-nil}
use borrow.Author.Tests.{ne_eqb}
use Rattle.std.specs.Prelude.{Option, Some, None, if◌then◌else◌, ◌==◌}
use Rattle.lists.specs.Lists.{some?, in?}
use Rattle.lists.specs.Text.{ascii}
use Rattle.lists.specs.Wrote.{Wrote}
use Rattle.lists.proofs.Writing.{wrote_as}
use Rattle.rules.specs.Floor.{decimal, dash, line_of}
use Rattle.rules.specs.declared.Answer.{Answer}
use Rattle.floor_answers.specs.Shown.{shown_by, line_by}

module _ (k letter : ℕ) (a : Answer) (out : List ℕ) {b d : List ℕ} {n : ℕ} where
  pub no-call-line : {call : Option ℕ} → call ≡ None → Wrote b 0 (line_of k letter dash []) d n → Wrote b 0 (line_by k letter call a out) d n
  unfolding line_by
  no-call-line e w = rw e w

  pub refused-line : {call : Option ℕ} {x : ℕ} → call ≡ Some x → (a.refusal ≡ 0 → ⊥) → Wrote b 0 (line_of k letter (decimal a.refusal) []) d n → Wrote b 0 (line_by k letter call a out) d n
  unfolding line_by
  refused-line e h w = rw (e, ne_eqb a.refusal 0 h) w

  pub accepted-line : {call : Option ℕ} {x : ℕ} {r : List ℕ} → call ≡ Some x → a.refusal ≡ 0 → r ≡ shown_by x a out → Wrote b 0 (line_of k letter (decimal 0) r) d n → Wrote b 0 (line_by k letter call a out) d n
  unfolding line_by shown_by
  accepted-line c e f w = rw (c, e) (wrote_as (ap (line_of k letter (decimal 0)) f) w)

-- what a letter shows
module _ (call : ℕ) (a : Answer) (out : List ℕ) where
  pub shown-at : {r s : List ℕ} (x : ℕ) → call ≡ x → s ≡ r → r ≡ shown_by x a out → s ≡ shown_by call a out
  shown-at x e f h = rw e (f ∙ h)

  pub shown-none
      : (call ≡ code "M" → ⊥) → (call ≡ code "T" → ⊥) → (call ≡ code "N" → ⊥) → (call ≡ code "W" → ⊥) → [] ≡ shown_by call a out
  unfolding shown_by in? some? ascii
  shown-none m t n w =
      rw (ne_eqb (code "M") call (λ e. m (sym e)), ne_eqb (code "T") call (λ e. t (sym e)), ne_eqb call (code "N") n, ne_eqb call (code "W") w) refl

-- the one called, and none of it where it is 0
pub one-called : (n : ℕ) → take n (n ∷ []) ≡ (if n == 0 then [] else n ∷ [])
one-called zero = refl
one-called (suc n) = rw (ne_eqb (suc n) 0 (λ e. omega arith)) (ap (λ l. suc n ∷ l) (take-nil n))
