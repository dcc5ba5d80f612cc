-- What an arrival leaves of the card, the round that it opens, and what it answers.
-- Assumes nothing.
use Prim.Native.Nat.{ℕ, zero, suc}
use native.Mathlib.Omega.{arith}
use mathlib.Core.Path.{◌≡◌, refl, sym, ap, ◌∙◌}
use mathlib.Core.Bool.{Bool, true}
use mathlib.Core.List.{List, [], ◌∷◌}
use lib.ListN.{get_or}
use borrow.Author.Tests.{ne_eqb}
use Rattle.std.specs.Prelude.{Result, if◌then◌else◌, ◌==◌}
use Rattle.lists.proofs.Times.{if-same}
use Rattle.sets.specs.Sets.{set_both}
use Rattle.rules.specs.declared.Answer.{Answer}
use Rattle.rules.specs.declared.Arrived.{Arrived}
use Rattle.rules.specs.declared.Malformed.{Malformed}
use Rattle.rules.specs.declared.Envelope.{Envelope}
use Rattle.rules.specs.declared.Marks.{Marks}
use Rattle.rules.specs.declared.Roll.{Roll}
use Rattle.rules.specs.declared.Round as held
use Rattle.rules.specs.Holds.{Desk, Model}
use Rattle.rules.specs.Held.{view_rows, view_desk, view_arrival, stored_answer, stored_arrival}
use Rattle.rules.specs.Events.{handler_available}
use Rattle.rules.specs.Envelopes.{envelope_of, bad_envelope}
use Rattle.rules.specs.Arrivals.{arrival_of, settled_arrival, envelope_marks, other_marks}
use Rattle.rules.specs.Calls.{ArrivalCall, Call, arrival, envelope, status as status_call, settled, marking}
use Rattle.rules.specs.Refusals.{line, first_holding, lines, arrival_lines, refusal}
use Rattle.rules.specs.Rounds.{arrived_with, opened}
use Rattle.rules.specs.Step.{step, outcome, tables_after, round_after, desk_after, arrival_desk, answer, arrival_answer}
use Rattle.rules.proofs.DueMarks.{marked-same}
use Rattle.polling.specs.Polls.{polling_set}
use Rattle.arrivals.specs.Whom.{IsFor, IsForOn}
use Rattle.arrivals.specs.Rounds.{view_round, stored_round}
use Rattle.arrivals.specs.Answers.{answering}
use Rattle.arrivals.proofs.IsFor.{for_as, for-event, status-for}
use Rattle.arrivals.proofs.Rounds.{arrival-back}
use Rattle.arrivals.proofs.Waiting.{waiting-opened}
use Rattle.card.specs.declared.Card.{Card}
use Rattle.card.specs.declared.Reply.{Reply}
use Rattle.card.specs.View.{view, stored, Left}
use Rattle.card.specs.Replies.{replied}
use Rattle.card.proofs.Left.{left-sound, left-bounds}
use Rattle.card.proofs.Replied.{replies, round_by, after-with, card-is, roll-form, selectable-form, registered-form, made-form, polls-form, control-form, rows-form, bank-form, desk-form, round-form}

-- the round's struct after an arrival, by its refusal
abbrev pub opened_by : (refusal : ℕ) → held.Round → Arrived → (whom present : ℕ) → held.Round
opened_by r q a whom present = if r == 0 then record { «open» = true; arrived = a; waiting = set_both whom present } else q

abbrev pub with_round : Card → held.Round → Card
with_round c q =
    record { roll = c.roll; selectable = c.selectable; registered = c.registered; made = c.made; polls = c.polls; control = c.control; rows = c.rows; bank = c.bank; desk = c.desk; round = q }

module _ (c : Card) (left : Left c) (y : ArrivalCall) {r : ℕ} (e : r ≡ refusal (view c) (arrival y)) where
  abbrev m : Model
  m = view c

  abbrev it : Call
  it = arrival y

  -- THE ROUND
  module _ {w : ℕ} (f : IsFor m.tables (arrived_with y) w) {a : Arrived} (is : a ≡ stored_arrival (arrived_with y)) {q : held.Round} (p : q ≡ opened_by r c.round a w c.roll.present) where
    opened-is : (k : ℕ) → opened_by k c.round a w c.roll.present ≡ stored_round (round_by m it k)
    unfolding stored_round round_after opened
    opened-is zero =
        rw (is, waiting-opened m.tables (left-sound c left).tables (left-bounds c left) (arrived_with y) f (ap (λ (r : Roll). r.present) (roll-form c left))) refl
    opened-is (suc k) = rw (ne_eqb (suc k) 0 (λ z. omega arith)) (round-form c left)

    pub round_is : q ≡ stored_round (round_by m it r)
    round_is = p ∙ opened-is r

    -- the card, where the desk is left
    pub round-left : desk_after m it ≡ m.desk → with_round c q ≡ stored (step m it).after
    unfolding tables_after
    round-left still =
        card-is (record { tables = m.tables; desk = m.desk; round = round_by m it r }) round_is
        (roll-form c left) (selectable-form c left) (registered-form c left) (made-form c left) (polls-form c left) (control-form c left) (rows-form c left) (bank-form c left) (desk-form c left)
        ∙ ap (λ (d : Desk). stored (record { tables = m.tables; desk = d; round = round_by m it r })) (sym (marked-same m.tables m.desk))
        ∙ ap stored (sym (after-with m it e still (if-same (r == 0) m.tables) refl))

  -- THE ANSWER
  module _ (allowed : Marks) (so : answer m it ≡ marking allowed) where
    answer-by : (k : ℕ) → answering k allowed ≡ stored_answer (outcome k m it).answer
    unfolding stored_answer outcome
    answer-by zero = rw so refl
    answer-by (suc k) = rw (ne_eqb (suc k) 0 (λ z. omega arith)) refl

    pub answers : {marks : Marks} {b : Answer} → marks ≡ allowed → b ≡ answering r marks → b ≡ stored_answer (step m it).answer
    unfolding step
    answers g h = h ∙ ap (answering r) g ∙ answer-by r ∙ ap (λ (k : ℕ). stored_answer (outcome k m it).answer) e

-- ENVELOPE, by what the parts of the code say
module _ (c : Card) (left : Left c) (bytes : List ℕ) where
  pub comes
      : {e : Result Envelope Malformed} {bad : Bool} {a : Arrived} {r w : ℕ} {q : held.Round} {marks : Marks} {b : Answer}
      → e ≡ envelope_of bytes
      → bad ≡ bad_envelope e
      → r ≡ first_holding (line 1 bad ∷ [])
      → a ≡ stored_arrival (arrival_of e)
      → IsForOn (view_rows c.rows) c.registered c.bank.owner c.control c.polls (view_arrival a) w
      → q ≡ opened_by r c.round a w c.roll.present
      → marks ≡ envelope_marks c.desk.outstanding e
      → b ≡ answering r marks
      → ◌≡◌ {A = Reply} (record { card = with_round c q; answer = b }) (replied (step (view c) (arrival (envelope bytes))))
  unfolding step view view_desk refusal lines arrival_lines arrived_with answer arrival_answer arrival_desk desk_after
  comes {e} {r = r} i x n k f p g h =
      let t = (view c).tables in
      let is : r ≡ refusal (view c) (arrival (envelope bytes)) = n ∙ ap (λ (b : Bool). first_holding (line 1 b ∷ [])) (x ∙ ap bad_envelope i) in
      let kept = k ∙ ap (λ (e : Result Envelope Malformed). stored_arrival (arrival_of e)) i in
      let arrived = sym (arrival-back (arrival_of (envelope_of bytes))) ∙ ap view_arrival (sym kept) in
      let for-it = for_as t arrived (f t (left-sound c left).tables refl (registered-form c left) refl refl (polls-form c left)) in
      replies (step (view c) (arrival (envelope bytes)))
      (round-left c left (envelope bytes) is for-it kept p refl)
      (answers c left (envelope bytes) is (envelope_marks c.desk.outstanding (envelope_of bytes)) refl (g ∙ ap (envelope_marks c.desk.outstanding) i) h)

module _ (c : Card) (left : Left c) where
  -- SETTLED
  pub settles
      : {a : Arrived} {r : ℕ} {q : held.Round} {marks : Marks} {b : Answer}
      → r ≡ first_holding (line 16 c.desk.outstanding ∷ line 22 c.round.«open» ∷ [])
      → a ≡ stored_arrival settled_arrival
      → q ≡ opened_by r c.round a (get_or c.registered handler_available 0) c.roll.present
      → marks ≡ other_marks c.desk.outstanding
      → b ≡ answering r marks
      → ◌≡◌ {A = Reply} (record { card = with_round c q; answer = b }) (replied (step (view c) (arrival settled)))
  unfolding view view_desk view_round refusal lines arrival_lines arrived_with answer arrival_answer arrival_desk desk_after
  settles e k p g h =
      replies (step (view c) (arrival settled))
      (round-left c left settled e (for-event (view c).tables (registered-form c left) handler_available (omega arith) (λ z. omega arith)) k p refl)
      (answers c left settled e (other_marks c.desk.outstanding) refl g h)

  -- STATUS
  pub wakes
      : {w : ℕ} {q : held.Round} {marks : Marks} {b : Answer}
      → w ≡ polling_set c.polls
      → q ≡ opened_by 0 c.round (record { kind = 5; number = 0 }) w c.roll.present
      → marks ≡ other_marks c.desk.outstanding
      → b ≡ answering 0 marks
      → ◌≡◌ {A = Reply} (record { card = with_round c q; answer = b }) (replied (step (view c) (arrival status_call)))
  unfolding view view_desk refusal lines arrival_lines first_holding arrived_with stored_arrival answer arrival_answer arrival_desk desk_after
  wakes w p g h =
      replies (step (view c) (arrival status_call))
      (round-left c left status_call refl (status-for (view c).tables (polls-form c left) w) refl p refl)
      (answers c left status_call refl (other_marks c.desk.outstanding) refl g h)
