-- DEMAND 1. Bad input gets a numbered refusal, in a fixed order where several apply; a refused call changes neither the card nor one
-- byte of a buffer lent to it, and gives no other answer. Assumes nothing.
use Prim.Native.Nat.{ℕ, suc, ◌≤◌}
use mathlib.Core.Path.{◌≡◌, sym, ap, subst, ◌∙◌}
use mathlib.Core.Bool.{true}
use Rattle.lists.specs.Lists.{Every}
use Rattle.rules.specs.Holds.{Model}
use Rattle.rules.specs.Calls.{Call, Outcome, refused_with}
use Rattle.rules.specs.Refusals.{Line, lines, refusal}
use Rattle.rules.specs.Step.{step, lent}
use Rattle.rules.proofs.OnRefusal.{refused}
use Rattle.runs.proofs.Lowest.{IsLowest, call-gets-the-lowest}
use Rattle.history.proofs.Answered.{gives}
use Rattle.card.specs.declared.Card.{Card}
use Rattle.card.specs.View.{view, stored, Left}
use Rattle.card.proofs.Left.{left-form}

-- A REFUSED CALL ..
module _ (c : Card) (left : Left c) (x : Call) (n : ℕ) (no_way : refusal (view c) x ≡ suc n) where
  -- .. hands the card back as it was ..
  pub refusal-leaves-the-card : stored (step (view c) x).after ≡ c
  refusal-leaves-the-card = ap (λ (o : Outcome). stored o.after) (refused (view c) x n no_way) ∙ sym (left-form c left)

  -- .. leaves every byte of a lent buffer ..
  pub refusal-leaves-the-buffer : (step (view c) x).buffer ≡ lent x
  refusal-leaves-the-buffer = ap (λ (o : Outcome). o.buffer) (refused (view c) x n no_way)

  -- .. and gives its number and no other answer.
  pub refusal-gives-its-number-only : (step (view c) x).answer ≡ refused_with (suc n)
  refusal-gives-its-number-only = ap (λ (o : Outcome). o.answer) (refused (view c) x n no_way)

-- OF SEVERAL REFUSALS THE LOWEST IS GIVEN. The number in the answer is that of a line of the table that lists the call and holds, and no
-- lower line holds; 0 is given just where none holds.
pub answer-is-the-lowest : (m : Model) (x : Call) → IsLowest (lines m x) (step m x).answer.refusal
answer-is-the-lowest m x = subst (IsLowest (lines m x)) (sym (gives m x)) (call-gets-the-lowest m x)

-- A line that holds: a number is given, and no higher one than its own.
pub lowest-is-given : (m : Model) (x : Call) → Every (λ (k : Line). k.holds ≡ true → (1 ≤ refusal m x) × (refusal m x ≤ k.number)) (lines m x)
lowest-is-given m x = (call-gets-the-lowest m x).least
