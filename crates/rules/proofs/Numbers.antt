-- A number tells its refusal, and none is 0: the number of an answer leaves one refusal, or none.
-- Assumes nothing.
use Prim.Native.Nat.{ℕ, ◌+◌}
use native.Mathlib.Omega.{arith}
use mathlib.Core.Path.{◌≡◌, refl, sym, ap, ◌∙◌}
use mathlib.Core.Bool.{Bool, true, false}
use mathlib.Core.List.{List, [], ◌∷◌}
use lib.ListN.{get_or}
use borrow.Author.Tests.{eqb-true, eqb-false, ne_eqb}
use denote.Enum.Declared as enum
use Rattle.std.specs.Prelude.{Result, Ok, Err, is_ok, IsErrAnd, if◌then◌else◌, ◌==◌}
use Rattle.std.specs.Result.{result_and}
use Rattle.rules.specs.declared.refused.Refused.{Refused}
use Rattle.rules.specs.declared.refused.Refused.TheVariants.{Malformed, NoApplet, NumberInUse, OutOfRange, TooManyEntries, IdentifierTwice}
use Rattle.rules.specs.declared.refused.Refused.TheVariants.{NotSupported, NotToSet, ControlOwned, AllMade, NotItsRow, BadText, TimerLimit, NoTimerFree}
use Rattle.rules.specs.declared.refused.Refused.TheVariants.{NotItsTimer, Outstanding, SystemType, ShortBuffer, NoneOutstanding, BadDuration, NoRound, RoundOpen}
use Rattle.rules.specs.contracts.refused.Refused.{the_type}
use Rattle.rules.specs.Numbers.{number_of, refusal_number}
use Rattle.rules.specs.Calls.{Answer, refused_with, answer_with}

-- the variants are numbered from 1 on
pub variant_number : (r : Refused) → enum.tag_of the_type r + 1 ≡ number_of r
unfolding number_of
variant_number Malformed = refl
variant_number NoApplet = refl
variant_number NumberInUse = refl
variant_number OutOfRange = refl
variant_number TooManyEntries = refl
variant_number IdentifierTwice = refl
variant_number NotSupported = refl
variant_number NotToSet = refl
variant_number ControlOwned = refl
variant_number AllMade = refl
variant_number NotItsRow = refl
variant_number BadText = refl
variant_number TimerLimit = refl
variant_number NoTimerFree = refl
variant_number NotItsTimer = refl
variant_number Outstanding = refl
variant_number SystemType = refl
variant_number ShortBuffer = refl
variant_number NoneOutstanding = refl
variant_number BadDuration = refl
variant_number NoRound = refl
variant_number RoundOpen = refl

-- the refusals by their numbers, with a filler at 0
abbrev by_number : List Refused
by_number =
    Malformed
    ∷ Malformed
    ∷ NoApplet
    ∷ NumberInUse
    ∷ OutOfRange
    ∷ TooManyEntries
    ∷ IdentifierTwice
    ∷ NotSupported
    ∷ NotToSet
    ∷ ControlOwned
    ∷ AllMade
    ∷ NotItsRow
    ∷ BadText
    ∷ TimerLimit
    ∷ NoTimerFree
    ∷ NotItsTimer
    ∷ Outstanding
    ∷ SystemType
    ∷ ShortBuffer
    ∷ NoneOutstanding
    ∷ BadDuration
    ∷ NoRound
    ∷ RoundOpen
    ∷ []

numbered : (r : Refused) → get_or by_number (number_of r) Malformed ≡ r
unfolding number_of
numbered Malformed = refl
numbered NoApplet = refl
numbered NumberInUse = refl
numbered OutOfRange = refl
numbered TooManyEntries = refl
numbered IdentifierTwice = refl
numbered NotSupported = refl
numbered NotToSet = refl
numbered ControlOwned = refl
numbered AllMade = refl
numbered NotItsRow = refl
numbered BadText = refl
numbered TimerLimit = refl
numbered NoTimerFree = refl
numbered NotItsTimer = refl
numbered Outstanding = refl
numbered SystemType = refl
numbered ShortBuffer = refl
numbered NoneOutstanding = refl
numbered BadDuration = refl
numbered NoRound = refl
numbered RoundOpen = refl

pub number-above : (r : Refused) → number_of r ≡ 0 → ⊥
number-above r h = let v = variant_number r in absurd (omega arith)

pub one-refusal : (r s : Refused) → number_of r ≡ number_of s → r ≡ s
one-refusal r s h = sym (numbered r) ∙ ap (λ n. get_or by_number n Malformed) h ∙ numbered s

-- a call that tells nothing has one answer with its number
pub one-answer : (x y : Result Unit Refused) → refusal_number x ≡ refusal_number y → x ≡ y
unfolding refusal_number
one-answer (Ok a) (Ok b) h = refl
one-answer (Ok a) (Err s) h = absurd (number-above s (sym h))
one-answer (Err r) (Ok b) h = absurd (number-above r h)
one-answer (Err r) (Err s) h = ap (λ e. Err e) (one-refusal r s h)

-- whether it was refused, by the number
pub accepted_number : {A : Type 0} (x : Result A Refused) → is_ok x ≡ (refusal_number x == 0)
unfolding refusal_number
accepted_number (Ok a) = refl
accepted_number (Err r) = sym (ne_eqb (number_of r) 0 (number-above r))

module _ {A : Type 0} (x : Result A Refused) {b : Bool} (is : b ≡ is_ok x) where
  pub accepted-zero : b ≡ true → refusal_number x ≡ 0
  accepted-zero e = eqb-true (refusal_number x) 0 (sym (accepted_number x) ∙ sym is ∙ e)

  pub refused-above : b ≡ false → refusal_number x ≡ 0 → ⊥
  refused-above e = eqb-false (refusal_number x) 0 (sym (accepted_number x) ∙ sym is ∙ e)

-- the answer of a call, by its refusal and what it tells where it is accepted
pub answer-beside : {A : Type 0} (told : A → Answer) (x : Result Unit Refused) (a : A) {given : Result A Refused} → given ≡ result_and x (Ok a) → answer_with told given ≡ (if refusal_number x == 0 then told a else refused_with (refusal_number x))
unfolding answer_with refusal_number
answer-beside told x a is = ap (answer_with told) is ∙ go x
  where
    go : (x : Result Unit Refused) → answer_with told (result_and x (Ok a)) ≡ (if refusal_number x == 0 then told a else refused_with (refusal_number x))
    go (Ok b) = refl
    go (Err r) = rw (ne_eqb (number_of r) 0 (number-above r)) refl

-- what `?` hands on has the number of the refusal that it was handed
pub handed : {B : Type 0} {s : Refused} (n : ℕ) (r : Result B Refused) (e : Refused) → IsErrAnd r (λ f. f ≡ e) → e ≡ s → number_of s ≡ n → refusal_number r ≡ n
unfolding refusal_number
handed n (Ok b) e h is k = absurd h
handed n (Err f) e h is k = ap number_of (h ∙ is) ∙ k
