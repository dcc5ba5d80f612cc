-- The marks of an answer, and the desk after a profile, by the rules.
-- Assumes nothing.
use Prim.Native.Nat.{ℕ}
use mathlib.Core.Path.{◌≡◌, refl, ap, ◌∙◌}
use mathlib.Core.Bool.{true, false}
use mathlib.Core.List.{List}
use borrow.Author.Tests.{ne_eqb}
use lib.ListN.{take}
use Rattle.std.specs.Prelude.{Result, Ok, Err}
use Rattle.std.specs.Result.{result_and, result_unwrap_or}
use Rattle.lists.specs.Lists.{padded}
use Rattle.rules.specs.declared.Desk as held
use Rattle.rules.specs.declared.Due.{Due}
use Rattle.rules.specs.declared.Marks.{Marks}
use Rattle.rules.specs.declared.refused.Refused.{Refused}
use Rattle.rules.specs.Arrivals.{no_marks}
use Rattle.rules.specs.Numbers.{number_of, refusal_number}
use Rattle.rules.specs.Held.{stored_desk}
use Rattle.rules.specs.Desk.{with_profile}
use Rattle.rules.proofs.Numbers.{number-above}
use Rattle.arrivals.specs.Answers.{answering, Begins}

pub begins
    : (bytes : List ℕ) (due : Due) (k : held.Desk) {kept : List ℕ}
    → kept ≡ padded 32 0 (take 32 bytes)
    → Begins bytes due k
    (record { due = due; session = true; outstanding = false; title_len = k.title_len; title = k.title; profile = kept })
unfolding stored_desk with_profile
begins bytes due k f t d e i = rw (f, e, i) refl

-- the marks of an answer: none with a refusal
pub marks-beside : (x : Result Unit Refused) (m : Marks) {given : Result Marks Refused} → given ≡ result_and x (Ok m) → answering (refusal_number given) (result_unwrap_or given no_marks) ≡ answering (refusal_number x) m
unfolding refusal_number
marks-beside x m is = ap (λ (g : Result Marks Refused). answering (refusal_number g) (result_unwrap_or g no_marks)) is ∙ go x
  where
    go : (x : Result Unit Refused) → answering (refusal_number (result_and x (Ok m))) (result_unwrap_or (result_and x (Ok m)) no_marks) ≡ answering (refusal_number x) m
    go (Ok b) = refl
    go (Err r) = rw (ne_eqb (number_of r) 0 (number-above r)) refl
