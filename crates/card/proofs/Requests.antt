-- What a request for a poll interval leaves of the card.
-- Assumes nothing.
use Prim.Native.Nat.{ℕ, ◌≤◌}
use mathlib.Core.Path.{◌≡◌, refl, sym, ap, ◌∙◌}
use mathlib.Core.Bool.{Bool, true, not}
use mathlib.Core.List.{List, [], ◌∷◌}
use lib.IntN.{ℤ}
use Rattle.lists.specs.Lists.{change, Every}
use Rattle.lists.proofs.Tables.{table-alike}
use Rattle.sets.specs.Sets.{has?}
use Rattle.rules.specs.declared.Answer.{Answer}
use Rattle.rules.specs.Holds.{Applet, Tables, Model, with_applets, with_poll}
use Rattle.rules.specs.Held.{stored_answer}
use Rattle.rules.specs.Applets.{has_number, present, longest_poll, bad_duration, seconds_of}
use Rattle.rules.specs.Calls.{Call, event, request_poll, accepted, refused_with}
use Rattle.rules.specs.Desk.{marked}
use Rattle.rules.specs.Refusals.{line, lines, first_holding, event_lines, refusal}
use Rattle.rules.specs.Step.{step, tables_after, event_tables, desk_after, answer, event_answer, round_after}
use Rattle.runs.proofs.Accepted as runs
use Rattle.runs.proofs.Filled.{is-here}
use Rattle.runs.proofs.Registered.{changed-sound, poll-same, seconds-few}
use Rattle.applets.specs.ByNumber.{table_with, selectable_set, poll_table}
use Rattle.applets.proofs.Numbers.{roll-kept, selectable-kept, registered-kept, made_kept}
use Rattle.applets.proofs.Made.{poll-changed}
use Rattle.menu_shown.proofs.MenuByApplets.{request-menu}
use Rattle.events_shown.proofs.Quiet.{request-events}
use Rattle.polling.specs.declared.Polling.{Polling}
use Rattle.polling.specs.Polls.{interval_of, polling_after}
use Rattle.card.specs.declared.Card.{Card}
use Rattle.card.specs.declared.Reply.{Reply}
use Rattle.card.specs.View.{view, stored, Left}
use Rattle.card.specs.Replies.{replied}
use Rattle.card.proofs.Left.{left-sound, left-bounds}
use Rattle.card.proofs.Replied.{tables_by, after-by, plain-reply, refused-stays, card-is, roll-form, selectable-form, registered-form, made-form, polls-form, control-form, rows-form, bank-form, round-form}
use Rattle.card.proofs.Marks.{with_polling_due, polling-desk}
use Rattle.card.proofs.Polled.{Marks-then}
use Rattle.card.proofs.Present.{gone-by}

-- the card with other requests, and these marks of polling
abbrev pub with_requests : Card → (polls : List ℕ) → Polling → Card
with_requests c polls p =
    record { roll = c.roll; selectable = c.selectable; registered = c.registered; made = c.made; polls = polls; control = c.control; rows = c.rows; bank = c.bank; desk = with_polling_due c.desk p; round = c.round }

module _ (c : Card) (left : Left c) (n : ℕ) (d : ℤ) {there : Bool} (found : there ≡ has? c.roll.present n)
    {r : ℕ} (refused : r ≡ first_holding (line 2 (not there) ∷ line 20 (bad_duration d) ∷ []))
  where
    abbrev m : Model
    m = view c

    abbrev t : Tables
    t = m.tables

    abbrev l : List Applet
    l = t.applets

    abbrev s : ℕ
    s = seconds_of d

    abbrev u : Tables
    u = with_applets t (change (has_number n) (with_poll s) l)

    abbrev call : Call
    call = event (request_poll n d)

    refusal_is : r ≡ refusal m call
    unfolding refusal lines event_lines
    refusal_is = refused ∙ ap (λ (b : Bool). first_holding (line 2 b ∷ line 20 (bad_duration d) ∷ [])) (sym (gone-by c left n found))

    plain : answer m call ≡ accepted
    unfolding answer event_answer
    plain = refl

    abbrev Says : Card → Answer → Type 0
    Says k a = ◌≡◌ {A = Reply} (record { card = k; answer = a }) (replied (step m call))

    module _ (z : r ≡ 0) where
      here : present t n ≡ true
      unfolding lines event_lines Every
      here = is-here t n (runs.accepted m call (sym refusal_is ∙ z)).0

      few : s ≤ longest_poll
      unfolding lines event_lines Every
      few = seconds-few d (runs.accepted m call (sym refusal_is ∙ z)).1.0

      polls-next : table_with 0 c.polls n s ≡ poll_table u.applets
      polls-next = ap (λ (k : List ℕ). table_with 0 k n s) (polls-form c left) ∙ poll-changed l n (unfold present in here) s

      requested-card
          : {next : List ℕ} {p : Polling}
          → next ≡ table_with 0 c.polls n s
          → p ≡ polling_after c.desk.session c.desk.due.interval c.desk.due.off (interval_of c.polls c.selectable) (interval_of next c.selectable)
          → with_requests c next p ≡ stored (record { tables = u; desk = marked t u m.desk; round = m.round })
      unfolding present
      requested-card e f =
          card-is (record { tables = u; desk = marked t u m.desk; round = m.round }) (round-form c left)
          (roll-form c left ∙ sym (roll-kept l n (with_poll s) here (λ x. refl)))
          sets
          (registered-form c left ∙ table-alike 20 _ _ (λ i h. sym (registered-kept l n (with_poll s) here (λ x. refl) i (λ x. refl))))
          (made-form c left ∙ sym (made_kept l n (with_poll s) here (λ x. refl) (λ x. refl)))
          (e ∙ polls-next) (control-form c left) (rows-form c left) (bank-form c left)
          (polling-desk c left u (request-menu t n s) (request-events t n s)
          (Marks-then c left u (changed-sound t n (with_poll s) (poll-same s few) (left-sound c left).tables) (left-bounds c left) (e ∙ polls-next) sets f))
        where
          sets : c.selectable ≡ selectable_set u.applets
          sets = selectable-form c left ∙ sym (selectable-kept l n (with_poll s) here (λ x. refl) (λ x. refl))

      -- A REQUEST THAT IS TAKEN, by what the parts of the code say
      pub takes
          : {k : Card} {seconds : ℕ} {next : List ℕ} {p : Polling} {a : Answer}
          → seconds ≡ seconds_of d
          → next ≡ table_with 0 c.polls n seconds
          → p ≡ polling_after c.desk.session c.desk.due.interval c.desk.due.off (interval_of c.polls c.selectable) (interval_of (table_with 0 c.polls n seconds) c.selectable)
          → k ≡ with_requests c next p
          → a ≡ stored_answer (refused_with r)
          → Says k a
      unfolding tables_after event_tables desk_after round_after
      takes so e p is says =
          plain-reply m call refusal_is plain
          (is
          ∙ requested-card (e ∙ ap (table_with 0 c.polls n) so) (p ∙ rw e refl)
          ∙ ap stored (sym (after-by m call refusal_is (refl, refl) (ap (tables_by m call) z))))
          says

    -- one that is refused
    pub takes-not : {k : Card} {a : Answer} → (r ≡ 0 → ⊥) → k ≡ c → a ≡ stored_answer (refused_with r) → Says k a
    takes-not z is says = plain-reply m call refusal_is plain (is ∙ refused-stays c left call refusal_is z) says
