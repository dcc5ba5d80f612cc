-- SEND AND RESPONSE, on any card: the four system types get 17 and no other type does; send makes a command outstanding, response ends it.
-- Assumes nothing.
use Prim.Native.Nat.{ℕ}
use mathlib.Core.Path.{◌≡◌, refl, ap, ◌∙◌}
use mathlib.Core.Bool.{Bool, true, false}
use mathlib.Core.List.{List, [], ◌∷◌}
use Rattle.std.specs.Prelude.{Ok, if◌then◌else◌}
use Rattle.lists.specs.Lists.{in?}
use Rattle.rules.specs.declared.Command.TheVariants.{Plain}
use Rattle.rules.specs.Holds.{Desk, Model}
use Rattle.rules.specs.Envelopes.{command_of, system_type}
use Rattle.rules.specs.Desk.{with_outstanding}
use Rattle.rules.specs.Calls.{Outcome, accepted, proactive, send, response}
use Rattle.rules.specs.Refusals.{first_holding, absent, foreign_timer, proactive_lines, lines, refusal}
use Rattle.rules.specs.Step.{proactive_desk, desk_after, tables_after, round_after, changed, answer, written, outcome, step}
use Rattle.rules.proofs.DueMarks.{marked-same}
use Rattle.history.proofs.Answered.{passes, gives}

-- A COMMAND OF ANOTHER TYPE THAN TIMER MANAGEMENT, by an applet that is there, with none outstanding: it gets 17 just for the four types.
pub send-gets-17 : (m : Model) (n : ℕ) (bytes : List ℕ) (type : ℕ) → command_of bytes ≡ Ok (Plain type) → absent m.tables n ≡ false → m.desk.outstanding ≡ false
    → (step m (proactive (send n bytes))).answer.refusal ≡ (if in? type (0x25 ∷ 0x05 ∷ 0x03 ∷ 0x04 ∷ []) then 17 else 0)
unfolding refusal lines proactive_lines first_holding foreign_timer system_type
send-gets-17 m n bytes type is here none =
    gives m (proactive (send n bytes)) ∙ rw (is, here, none) refl

-- accepted, with the card as it was but for what is outstanding
abbrev pub leaving : Bool → Model → Outcome
leaving b m = record { after = record { tables = m.tables; desk = with_outstanding b m.desk; round = m.round }; answer = accepted; buffer = [] }

-- SEND makes a command outstanding ..
pub send-makes-outstanding : (m : Model) (n : ℕ) (bytes : List ℕ) → (step m (proactive (send n bytes))).answer.refusal ≡ 0
    → step m (proactive (send n bytes)) ≡ leaving true m
unfolding step outcome changed tables_after round_after desk_after proactive_desk answer written
send-makes-outstanding m n bytes ok =
    ap (λ (k : ℕ). outcome k m (proactive (send n bytes))) (passes m (proactive (send n bytes)) ok)
    ∙ ap (λ (d : Desk). record { after = record { tables = m.tables; desk = d; round = m.round }; answer = accepted; buffer = [] }) (marked-same m.tables (with_outstanding true m.desk))

-- .. and RESPONSE ends it.
pub response-ends-it : (m : Model) → (step m (proactive response)).answer.refusal ≡ 0 → step m (proactive response) ≡ leaving false m
unfolding step outcome changed tables_after round_after desk_after proactive_desk answer written
response-ends-it m ok =
    ap (λ (k : ℕ). outcome k m (proactive response)) (passes m (proactive response) ok)
    ∙ ap (λ (d : Desk). record { after = record { tables = m.tables; desk = d; round = m.round }; answer = accepted; buffer = [] }) (marked-same m.tables (with_outstanding false m.desk))
