-- What a card's method hands back is what its door does.
-- Assumes nothing.
use mathlib.Core.Bool.{Bool, true, false}
use mathlib.Core.Path.{◌≡◌, refl, sym, ap, subst, ◌∙◌}
use mathlib.Core.List.{[], List}
use Prim.Native.Nat.{ℕ, zero, suc}
use lib.IntN.{ℤ}
use borrow.Author.Tests.{clash}
use Rattle.rules.specs.Holds.{Model}
use Rattle.rules.specs.Calls.{Call, admin, event, entry, timer, arrival, next, proactive, system_command, ask_event}
use Rattle.rules.specs.Refusals.{refusal}
use Rattle.rules.specs.Step.{step, in_buffer, lent, written, outcome}
use Rattle.card.specs.declared.Card.{Card}
use Rattle.card.specs.declared.Reply.{Reply}
use Rattle.card.specs.View.{view, stored, Left}
use Rattle.card.specs.Replies.{replied, Replies, Fills}
use Rattle.card.proofs.Asking.{ask-stays}
use Rattle.card.proofs.Left.{left-again}
use Rattle.toolkit.specs.Does.{Does}

-- a call that is lent no buffer leaves none
abbrev pub Unlent : Call → Type 0
Unlent x = (f : List ℕ → List ℕ) → in_buffer f x ≡ []

pub unlent : (m : Model) (x : Call) → Unlent x → [] ≡ (step m x).buffer
unfolding step outcome written lent
unlent m x u = go (refusal m x)
  where
    go : (n : ℕ) → [] ≡ (outcome n m x).buffer
    go zero = sym (u _)
    go (suc n) = sym (u _)

-- of the calls on a card one is lent a buffer
abbrev pub is_lent : Call → Bool
is_lent (system_command buffer) = true
is_lent x = false

pub no_buffer : (x : Call) → is_lent x ≡ false → Unlent x
no_buffer (admin x) e f = refl
no_buffer (event x) e f = refl
no_buffer (entry x) e f = refl
no_buffer (timer x) e f = refl
no_buffer (arrival x) e f = refl
no_buffer next e f = refl
no_buffer (proactive x) e f = refl
no_buffer (system_command buffer) e f = absurd (clash (sym e))

-- the card that a method hands back
pub card-left : (h : Card) (x : Call) {r : Reply} → Replies h x r → r.card ≡ stored (step (view h) x).after
unfolding replied
card-left h x e = ap (λ (r : Reply). r.card) e

-- what the method hands back is what the call does
pub as-done : (h : Card) → Left h → (x : Call) {r : Reply} {b : List ℕ} → Replies h x r → Fills h x b → Does h x r.card r.answer b
as-done h left x e b = record { replies = e; fills = b; left = subst Left (sym (card-left h x e)) (left-again h x left) }

-- A DOOR of a call that is lent no buffer
pub done : (h : Card) (x : Call) (r : Reply) → Left h → Replies h x r → is_lent x ≡ false → Does h x r.card r.answer []
done h x r left e n = as-done h left x e (unlent (view h) x (no_buffer x n))

-- of ask event, which leaves the lent card as it stands
pub asked : (h : Card) (n : ℕ) (v : ℤ) (r : Reply) → Left h → Replies h (event (ask_event n v)) r → Does h (event (ask_event n v)) h r.answer []
asked h n v r left e =
    let x = event (ask_event n v) in
    subst (λ (c : Card). Does h x c r.answer []) (card-left h x e ∙ sym (ask-stays h left n v)) (done h x r left e refl)

-- of the system command, which is lent a buffer
pub handed : (h : Card) (b c : List ℕ) (r : Reply) → Left h → Replies h (system_command b) r → Fills h (system_command b) c → Does h (system_command b) r.card r.answer c
handed h b c r left e f = as-done h left (system_command b) e f
