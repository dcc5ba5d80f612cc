-- What a profile leaves of the card.
-- Assumes nothing.
use Prim.Native.Nat.{ℕ, suc}
use native.Mathlib.Omega.{arith}
use mathlib.Core.Path.{◌≡◌, refl, sym, ap, ap₂, ◌∙◌}
use mathlib.Core.Bool.{Bool, false, not}
use mathlib.Core.List.{List, [], ◌∷◌}
use lib.ListN.{length, get_or}
use borrow.Author.Tests.{ne_eqb}
use Rattle.std.specs.Prelude.{◌==◌}
use Rattle.lists.specs.Lists.{empty?}
use Rattle.rules.specs.declared.Answer.{Answer}
use Rattle.rules.specs.declared.Arrived.{Arrived}
use Rattle.rules.specs.declared.Desk as held-desk
use Rattle.rules.specs.declared.Due.{Due}
use Rattle.rules.specs.declared.Marks.{Marks}
use Rattle.rules.specs.declared.Round as held-round
use Rattle.rules.specs.Holds.{Desk, Model}
use Rattle.rules.specs.Held.{view_rows, stored_answer, stored_arrival}
use Rattle.rules.specs.Events.{profile_download}
use Rattle.rules.specs.Arrivals.{profile_arrival, other_marks}
use Rattle.rules.specs.Calls.{Call, arrival, profile, marking}
use Rattle.rules.specs.Desk.{is_polled, due_at_first, with_profile}
use Rattle.rules.specs.Refusals.{line, first_holding, lines, arrival_lines, refusal}
use Rattle.rules.specs.Rounds.{arrived_with}
use Rattle.rules.specs.Step.{step, outcome, changed, tables_after, round_after, desk_after, arrival_desk, answer, arrival_answer}
use Rattle.rules.proofs.DueMarks.{marked-same}
use Rattle.menu_shown.specs.Chosen.{has_shown_row}
use Rattle.menu_shown.proofs.BySet.{menu-shown}
use Rattle.events_shown.specs.Turns.{any_code, is_listened}
use Rattle.events_shown.proofs.Shown.{codes-shown}
use Rattle.polling.specs.Polls.{interval_of}
use Rattle.arrivals.specs.Rounds.{stored_round}
use Rattle.arrivals.specs.Answers.{answering, Begins}
use Rattle.arrivals.proofs.IsFor.{for-event}
use Rattle.card.specs.declared.Card.{Card}
use Rattle.card.specs.declared.Reply.{Reply}
use Rattle.card.specs.View.{view, Left}
use Rattle.card.specs.Replies.{replied}
use Rattle.card.proofs.Left.{left-sound, left-bounds}
use Rattle.card.proofs.Replied.{replies, round_by, refused-stays, card-is, roll-form, selectable-form, registered-form, made-form, polls-form, control-form, rows-form, bank-form, desk-form}
use Rattle.card.proofs.Polled.{polled-now}
use Rattle.card.proofs.Arrival.{opened_by, with_round, round_is, answers}

no_bytes : (bytes : List ℕ) → (length bytes == 0) ≡ empty? bytes
unfolding empty?
no_bytes [] = refl
no_bytes (x ∷ l) = ne_eqb (suc (length l)) 0 (λ z. omega arith)

module _ (c : Card) (left : Left c) (bytes : List ℕ) where
  abbrev m : Model
  m = view c

  abbrev it : Call
  it = arrival (profile bytes)

  refusal_is : first_holding (line 1 (length bytes == 0) ∷ []) ≡ refusal m it
  unfolding refusal lines arrival_lines
  refusal_is = ap (λ (b : Bool). first_holding (line 1 b ∷ [])) (no_bytes bytes)

  accepted : answer m it ≡ marking (other_marks false)
  unfolding answer arrival_answer arrival_desk with_profile
  accepted = refl

  -- what is shown is due
  due-is
      : {menu events interval : Bool} → menu ≡ has_shown_row c.selectable (view_rows c.rows) → events ≡ any_code (is_listened c.registered c.selectable)
      → interval ≡ not (interval_of c.polls c.selectable == 0)
      → ◌≡◌ {A = Due} (record { menu = menu; events = events; interval = interval; off = false }) (due_at_first m.tables)
  unfolding due_at_first view
  due-is p q r =
      let sound = (left-sound c left).tables in
      let bounds = left-bounds c left in
      let polled = r ∙ polled-now c left in
      rw polled
      (ap₂ (λ (x y : Bool). record { menu = x; events = y; interval = is_polled m.tables; off = false })
      (p ∙ ap (λ (s : ℕ). has_shown_row s (view_rows c.rows)) (selectable-form c left) ∙ menu-shown m.tables sound bounds)
      (q ∙ ap₂ (λ (g : List ℕ) (s : ℕ). any_code (is_listened g s)) (registered-form c left) (selectable-form c left) ∙ codes-shown m.tables sound bounds))

  begun-is : changed m it ≡ record { tables = m.tables; desk = with_profile m.tables bytes m.desk; round = round_after m it }
  unfolding changed tables_after desk_after arrival_desk
  begun-is = ap (λ (d : Desk). record { tables = m.tables; desk = d; round = round_after m it }) (marked-same m.tables (with_profile m.tables bytes m.desk))

  -- PROFILE, by what the parts of the code say
  module _
      {a : Arrived} {r : ℕ} {q : held-round.Round} {marks : Marks} {b : Answer}
      (e : r ≡ first_holding (line 1 (length bytes == 0) ∷ []))
      (k : a ≡ stored_arrival profile_arrival)
      (p : q ≡ opened_by r c.round a (get_or c.registered profile_download 0) c.roll.present)
      (g : marks ≡ other_marks false)
      (h : b ≡ answering r marks)
    where
      answer-is : b ≡ stored_answer (step m it).answer
      answer-is = answers c left (profile bytes) (e ∙ refusal_is) (other_marks false) accepted g h

      opened-is : q ≡ stored_round (round_by m it r)
      unfolding arrived_with
      opened-is = round_is c left (profile bytes) (e ∙ refusal_is) (for-event m.tables (registered-form c left) profile_download (omega arith) (λ z. omega arith)) k p

      after_is : {j : ℕ} → r ≡ j → (step m it).after ≡ (outcome j m it).after
      unfolding step
      after_is z = ap (λ (j : ℕ). (outcome j m it).after) (sym (e ∙ refusal_is) ∙ z)

      pub begins-session
          : {menu events interval : Bool} {d : held-desk.Desk}
          → menu ≡ has_shown_row c.selectable (view_rows c.rows)
          → events ≡ any_code (is_listened c.registered c.selectable)
          → interval ≡ not (interval_of c.polls c.selectable == 0)
          → Begins bytes (record { menu = menu; events = events; interval = interval; off = false }) c.desk d
          → r ≡ 0
          → ◌≡◌ {A = Reply}
          (record { card = record { roll = c.roll; selectable = c.selectable; registered = c.registered; made = c.made; polls = c.polls; control = c.control; rows = c.rows; bank = c.bank; desk = d; round = q }; answer = b })
          (replied (step m it))
      unfolding outcome
      begins-session x y i f z =
          replies (step m it)
          (rw (after_is z, begun-is)
          (card-is (record { tables = m.tables; desk = with_profile m.tables bytes m.desk; round = round_after m it })
          (opened-is ∙ ap (λ (j : ℕ). stored_round (round_by m it j)) z)
          (roll-form c left) (selectable-form c left) (registered-form c left) (made-form c left) (polls-form c left) (control-form c left) (rows-form c left) (bank-form c left)
          (f m.tables m.desk (due-is x y i) (desk-form c left))))
          answer-is

      pub refuses-profile : (r ≡ 0 → ⊥) → ◌≡◌ {A = Reply} (record { card = with_round c q; answer = b }) (replied (step m it))
      refuses-profile n =
          let same : q ≡ c.round = p ∙ rw (ne_eqb r 0 n) refl in
          replies (step m it) (ap (with_round c) same ∙ refused-stays c left it (e ∙ refusal_is) n) answer-is
