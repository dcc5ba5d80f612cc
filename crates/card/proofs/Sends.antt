-- What send and response leave of the card: its desk with a command outstanding, or with none.
-- Assumes nothing.
use Prim.Native.Nat.{ℕ, zero, suc}
use native.Mathlib.Omega.{arith}
use mathlib.Core.Path.{◌≡◌, refl, ap, ◌∙◌}
use mathlib.Core.Bool.{Bool, true, false, not}
use mathlib.Core.List.{List, [], ◌∷◌}
use borrow.Author.Tests.{ne_eqb}
use Rattle.std.specs.Prelude.{Result, if◌then◌else◌, ◌==◌}
use Rattle.sets.specs.Sets.{has?}
use Rattle.rules.specs.declared.Malformed.{Malformed}
use Rattle.rules.specs.declared.Command.{Command}
use Rattle.rules.specs.declared.Answer.{Answer}
use Rattle.rules.specs.declared.Desk as held
use Rattle.rules.specs.Holds.{Tables, Desk, Model}
use Rattle.rules.specs.Held.{view_desk, stored_desk, stored_answer}
use Rattle.rules.specs.Envelopes.{command_of}
use Rattle.rules.specs.Calls.{ProactiveCall, proactive, send, response, accepted, refused_with}
use Rattle.rules.specs.Desk.{with_outstanding}
use Rattle.rules.specs.Refusals.{refusal, line, lines, first_holding, proactive_lines}
use Rattle.rules.specs.Step.{step, outcome, changed, tables_after, round_after, desk_after, proactive_desk, answer}
use Rattle.rules.proofs.DueMarks.{marked-same}
use Rattle.refusals.specs.Lines.{send_refusal}
use Rattle.refusals.proofs.Calls.{send-is}
use Rattle.card.specs.declared.Card.{Card}
use Rattle.card.specs.declared.Reply.{Reply}
use Rattle.card.specs.View.{view, stored, Left}
use Rattle.card.specs.Replies.{replied}
use Rattle.card.proofs.Left.{left-form}
use Rattle.card.proofs.Replied.{plain-reply, card-is, roll-form, selectable-form, registered-form, made-form, polls-form, control-form, rows-form, bank-form, desk-form, round-form}
use Rattle.card.proofs.Present.{found-by}

-- the card with another desk
abbrev pub with_desk : Card → held.Desk → Card
with_desk c d =
    record { roll = c.roll; selectable = c.selectable; registered = c.registered; made = c.made; polls = c.polls; control = c.control; rows = c.rows; bank = c.bank; desk = d; round = c.round }

pub desk-card : (c : Card) → Left c → (e : Desk) {d : held.Desk} → d ≡ stored_desk e → with_desk c d ≡ stored (record { tables = (view c).tables; desk = e; round = (view c).round })
desk-card c l e p =
    card-is (record { tables = (view c).tables; desk = e; round = (view c).round }) (round-form c l)
    (roll-form c l) (selectable-form c l) (registered-form c l) (made-form c l) (polls-form c l) (control-form c l) (rows-form c l) (bank-form c l) p

-- the desk as it is held, with a command outstanding, or with none
abbrev waiting : held.Desk → Bool → held.Desk
waiting d b = record { due = d.due; session = d.session; outstanding = b; title_len = d.title_len; title = d.title; profile = d.profile }

module _ (c : Card) (l : Left c) where
  abbrev m : Model
  m = view c

  waiting-form : (b : Bool) → waiting c.desk b ≡ stored_desk (with_outstanding b m.desk)
  unfolding stored_desk
  waiting-form b = ap (λ (d : held.Desk). waiting d b) (desk-form c l)

  -- a call that makes it so, or not so, where it is accepted
  module _ (p : ProactiveCall) (is : Bool) (desk-is : proactive_desk m.desk p ≡ with_outstanding is m.desk) {r : ℕ} (e : r ≡ refusal m (proactive p)) where
    by-refusal : (k : ℕ) → with_desk c (waiting c.desk (if k == 0 then is else c.desk.outstanding)) ≡ stored (outcome k m (proactive p)).after
    unfolding outcome changed tables_after desk_after round_after
    by-refusal zero = rw (desk-is, marked-same m.tables (with_outstanding is m.desk)) (desk-card c l (with_outstanding is m.desk) (waiting-form is))
    by-refusal (suc k) = rw (ne_eqb (suc k) 0 (λ z. omega arith)) (left-form c l)

    plain : answer m (proactive p) ≡ accepted
    unfolding answer
    plain = refl

    pub waits : {b : Bool} {a : Answer} → b ≡ (if r == 0 then is else c.desk.outstanding) → a ≡ stored_answer (refused_with r)
        → ◌≡◌ {A = Reply} (record { card = with_desk c (waiting c.desk b); answer = a }) (replied (step m (proactive p)))
    unfolding step
    waits q s =
        plain-reply m (proactive p) e plain
        (ap (λ (b : Bool). with_desk c (waiting c.desk b)) q ∙ by-refusal r ∙ ap (λ (k : ℕ). stored (outcome k m (proactive p)).after) e) s

  -- RESPONSE
  pub responds : {r : ℕ} {b : Bool} {a : Answer}
      → r ≡ first_holding (line 19 (not c.desk.outstanding) ∷ [])
      → b ≡ (if r == 0 then false else c.desk.outstanding)
      → a ≡ stored_answer (refused_with r)
      → ◌≡◌ {A = Reply} (record { card = with_desk c (waiting c.desk b); answer = a }) (replied (step m (proactive response)))
  unfolding proactive_desk refusal lines proactive_lines view view_desk
  responds e = waits response false refl e

  -- SEND
  pub sends : (n : ℕ) (bytes : List ℕ) {k : Result Command Malformed} {there : Bool} {r : ℕ} {b : Bool} {a : Answer}
      → k ≡ command_of bytes
      → there ≡ has? c.roll.present n
      → ((t : Tables) → t.timers ≡ c.bank.owner → r ≡ send_refusal t n there c.desk.outstanding k)
      → b ≡ (if r == 0 then true else c.desk.outstanding)
      → a ≡ stored_answer (refused_with r)
      → ◌≡◌ {A = Reply} (record { card = with_desk c (waiting c.desk b); answer = a }) (replied (step m (proactive (send n bytes))))
  unfolding proactive_desk view view_desk
  sends n bytes says found by = waits (send n bytes) true refl (send-is m n (found-by c l n found) bytes says (by m.tables refl))
