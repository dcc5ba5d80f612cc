-- What an accepted call answers: only next calls anybody.
-- Assumes nothing.
use Prim.Native.Nat.{ℕ, zero, suc}
use native.Mathlib.Omega.{arith}
use mathlib.Core.Path.{◌≡◌, refl, ap}
use mathlib.Core.Bool.{false}
use mathlib.Core.List.{[]}
use Rattle.lists.proofs.Decided.{clashing}
use Rattle.rules.specs.Holds.{Model}
use Rattle.rules.specs.Calls.{Call, admin, event, entry, timer, arrival, next, proactive, system_command, set_event, clear_event, ask_event, request_poll, new_entry, change_entry, enable_entry, disable_entry, allocate, release, envelope, profile, status, settled}
use Rattle.rules.specs.Refusals.{first_holding, arrival_lines, lines, refusal}
use Rattle.rules.specs.Step.{event_answer, entry_answer, timer_answer, arrival_answer, answer, outcome, step}
use Rattle.history.specs.Rounds.{is_next}
use Rattle.history.proofs.Agrees.{plain}

-- a call is accepted if its answer has no refusal, and then its answer is the rules'
pub passes : (m : Model) (c : Call) → (step m c).answer.refusal ≡ 0 → refusal m c ≡ 0
unfolding step outcome
passes m c e = go (refusal m c) e
  where
    go : (n : ℕ) → (outcome n m c).answer.refusal ≡ 0 → n ≡ 0
    go zero q = refl
    go (suc n) q = absurd (omega arith)

pub answers : (m : Model) (c : Call) → refusal m c ≡ 0 → (step m c).answer ≡ answer m c
unfolding step outcome
answers m c e = ap (λ (n : ℕ). (outcome n m c).answer) e

-- a refusal in its answer is the rules'
pub refuses : (m : Model) (c : Call) (n : ℕ) → (step m c).answer.refusal ≡ suc n → refusal m c ≡ suc n
unfolding step outcome
refuses m c n e = go (refusal m c) e
  where
    go : (k : ℕ) → (outcome k m c).answer.refusal ≡ suc n → k ≡ suc n
    go zero q = absurd (omega (arith, plain m c))
    go (suc k) q = q

-- the number in the answer is the rules'
pub gives : (m : Model) (c : Call) → (step m c).answer.refusal ≡ refusal m c
unfolding step outcome
gives m c = go (refusal m c)
  where
    go : (k : ℕ) → (outcome k m c).answer.refusal ≡ k
    go zero = plain m c
    go (suc k) = refl

-- only next calls anybody
pub calls-nobody : (m : Model) (c : Call) → is_next c ≡ false → (answer m c).called ≡ []
unfolding answer event_answer entry_answer timer_answer arrival_answer is_next
calls-nobody m (admin c) e = refl
calls-nobody m (event (set_event n v)) e = refl
calls-nobody m (event (clear_event n v)) e = refl
calls-nobody m (event (ask_event n v)) e = refl
calls-nobody m (event (request_poll n d)) e = refl
calls-nobody m (entry (new_entry n help text)) e = refl
calls-nobody m (entry (change_entry n i help text)) e = refl
calls-nobody m (entry (enable_entry n i)) e = refl
calls-nobody m (entry (disable_entry n i)) e = refl
calls-nobody m (timer (allocate n)) e = refl
calls-nobody m (timer (release n k)) e = refl
calls-nobody m (arrival (envelope bytes)) e = refl
calls-nobody m (arrival (profile bytes)) e = refl
calls-nobody m (arrival status) e = refl
calls-nobody m (arrival settled) e = refl
calls-nobody m next e = clashing refl e
calls-nobody m (proactive c) e = refl
calls-nobody m (system_command buffer) e = refl

-- a STATUS is always accepted
pub status-is-taken : (m : Model) → (step m (arrival status)).answer.refusal ≡ 0
unfolding refusal lines arrival_lines first_holding
status-is-taken m = gives m (arrival status)
