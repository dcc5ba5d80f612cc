-- A call more after any calls, on the card in its one form: judged, ordered and shown as specs/Promised.antt says. Assumes nothing.
use Prim.Native.Nat.{ℕ, zero, suc, ◌-◌, ◌≤◌, ◌<◌}
use mathlib.Core.Path.{◌≡◌, refl, sym, ap, ap₂, subst, ◌∙◌}
use mathlib.Core.Logic.{◌⊎◌, inl, inr}
use mathlib.Core.Bool.{Bool, false, not}
use mathlib.Core.List.{List, [], ◌∷◌, ◌++◌}
use lib.ListN.{length, take, drop}
use Rattle.std.specs.Prelude.{◌==◌}
use Rattle.lists.specs.Lists.{keep}
use Rattle.rules.specs.Holds.{Row, Model, document}
use Rattle.rules.specs.Held.{view_rows, stored_desk}
use Rattle.rules.specs.Applets.{applet}
use Rattle.rules.specs.Envelopes.{envelope_of}
use Rattle.rules.specs.Rows.{next_pair}
use Rattle.rules.specs.Commands.{Menu, menu_of}
use Rattle.rules.specs.Arrivals.{no_marks, envelope_marks, other_marks}
use Rattle.rules.specs.Calls.{Call, Answer, Outcome, entry, arrival, next, status, system_command, new_entry}
use Rattle.rules.specs.Desk.{Matter, menu, event_list, poll_interval, polling_off, due_command, with_profile}
use Rattle.rules.specs.Refusals.{refusal}
use Rattle.rules.specs.Step.{arrival_answer, arrival_desk, answer, written, front, outcome, step}
use Rattle.rules.specs.Beside.{ReadOutcome, menu_reader}
use Rattle.rules.specs.Runs.{card_after}
use Rattle.rules.proofs.OnRefusal.{refused}
use Rattle.card.specs.declared.Card.{Card}
use Rattle.card.specs.View.{stored, Left}
use Rattle.card.proofs.Left.{after-seen}
use Rattle.history.specs.Handed.{Seen, seen, seen_of, handed, title_of, is_shown, interval_named}
use Rattle.history.specs.OnScreen.{wanted, OfPolling, command, ScreenRight}
use Rattle.history.proofs.Answered.{passes, answers, refuses, status-is-taken}
use Rattle.history.proofs.Promises as runs
use Rattle.history.proofs.HandOuts.{handed-due}
use Rattle.history.proofs.Screen.{screen-is-right}
use Rattle.history.proofs.MenuOrder.{AlwaysInUse, rows-keep-their-order, new-row-at-its-place, new-row-last-for-0, new-row-last-behind-all}
use Rattle.promises.specs.Promised.{Judged, Handlers, position_of, new_row, Orders, HandsOut, Shows}
use Rattle.promises.proofs.SameRuns.{next-says}
use Rattle.promises.proofs.DemandOne.{answer-is-the-lowest}
use Rattle.promises.proofs.TablesNamed.{m, h, c, rows_are}

-- what the menu reader answers with a menu
abbrev read_as : Menu → ReadOutcome
read_as x = record { refusal = 0; menu = x }

-- an accepted hand-out writes at the front
front-so : (v : Model) (buffer : List ℕ) → (step v (system_command buffer)).answer.refusal ≡ 0 → (step v (system_command buffer)).buffer ≡ front (due_command v.tables v.desk) buffer
unfolding step outcome written
front-so v buffer ok = ap (λ (n : ℕ). (outcome n v (system_command buffer)).buffer) (passes v (system_command buffer) ok)

-- a call more after these, as it is seen
module _ (title : List ℕ) (calls : List Call) (x : Call) where
  abbrev pub s : Seen
  s = seen x (step (m title calls) x)

  abbrev pub k : Card
  k = stored (step (m title calls) x).after

  -- DEMAND 1
  pub judged : Judged (c title calls) s k
  unfolding card_after
  judged =
      record {
        holds = rw (after-seen title calls) (answer-is-the-lowest (m title calls) x).holds;
        lowest = rw (after-seen title calls) (answer-is-the-lowest (m title calls) x).least;
        refused = λ n e.
            let o = refused (m title calls) x n (refuses (m title calls) x n e) in
            (ap stored (runs.refused-call-leaves-the-card title calls x n e), ap (λ (o : Outcome). o.buffer) o, ap (λ (o : Outcome). o.answer) o);
        no_second = λ t j n e. (
          (next-says left n).seen ∙ ap₂ (λ (v : Model) (y : Call). seen y (step v y)) (after-seen title calls) e,
          (next-says left n).card ∙ ap₂ (λ (v : Model) (y : Call). stored (step v y).after) (after-seen title calls) e,
        );
      }
    where
      left : Left (c title calls)
      left = record { title = title; calls = calls; is = refl }

  -- what is told of another name of the call
  pub named-so : {y : Call} → x ≡ y → (step (m title calls) x).answer.refusal ≡ 0 → (step (m title calls) y).answer.refusal ≡ 0
  named-so e ok = ap (λ (y : Call). (step (m title calls) y).answer.refusal) (sym e) ∙ ok

  -- a STATUS is never refused
  status-taken : x ≡ arrival status → (step (m title calls) x).answer.refusal ≡ 0
  status-taken e = ap (λ (y : Call). (step (m title calls) y).answer.refusal) e ∙ status-is-taken (m title calls)

  -- DEMAND 2, the handlers
  pub handlers : Handlers (h title calls) s
  unfolding answer arrival_answer arrival_desk with_profile step outcome
  handlers =
      record {
        envelope-marks = λ bytes ok e. marks-are ok e ∙ ap (λ (b : Bool). envelope_marks b (envelope_of bytes)) (runs.outstanding-is-named title calls);
        profile-marks = λ bytes ok e. marks-are ok e;
        settled-marks = λ ok e. marks-are ok e ∙ ap other_marks (runs.outstanding-is-named title calls);
        status-marks = λ e. (status-taken e, marks-are (status-taken e) e ∙ ap other_marks (runs.outstanding-is-named title calls));
        next_marks = λ e. ap (λ (y : Call). (step (m title calls) y).answer.marks) e ∙ none-marked (refusal (m title calls) next);
      }
    where
      none-marked : (n : ℕ) → (outcome n (m title calls) next).answer.marks ≡ no_marks
      none-marked zero = refl
      none-marked (suc n) = refl

      marks-are : {y : Call} → (step (m title calls) x).answer.refusal ≡ 0 → x ≡ y → s.entry.answer.marks ≡ (answer (m title calls) y).marks
      marks-are ok e =
          ap (λ (a : Answer). a.marks) (answers (m title calls) x (passes (m title calls) x ok)) ∙ ap (λ (y : Call). (answer (m title calls) y).marks) e

  -- DEMAND 2, the menu order
  pub orders : Orders (position_of (c title calls)) (view_rows (c title calls).rows) s (view_rows k.rows)
  unfolding card_after AlwaysInUse
  orders =
      subst (λ (v : Model). Orders (λ n. (next_pair (applet v.tables n)).position) (view_rows (c title calls).rows) s (view_rows k.rows)) (sym (after-seen title calls))
      (rw (rows_are title calls, rows_are title (x ∷ calls)) record {
        at_its_place = λ n help text e.
            subst (λ (y : Call). Accepts y → 1 ≤ position n → position n ≤ length before → rows_after y ≡ take (position n - 1) before ++ new_row (seen_by y) n help text ∷ drop (position n - 1) before)
            (sym e) (new-row-at-its-place (m title calls) n help text);
        last = λ n help text e. subst (λ (y : Call). Accepts y → Last n → rows_after y ≡ before ++ new_row (seen_by y) n help text ∷ []) (sym e) (last_one n help text);
        kept = λ p a b. rows-keep-their-order p title (x ∷ []) calls (a, b);
      })
    where
      before : List Row
      before = (m title calls).tables.rows

      position : ℕ → ℕ
      position n = (next_pair (applet (m title calls).tables n)).position

      seen_by : Call → Seen
      seen_by y = seen y (step (m title calls) y)

      Accepts : Call → Type 0
      Accepts y = (step (m title calls) y).answer.refusal ≡ 0

      rows_after : Call → List Row
      rows_after y = (step (m title calls) y).after.tables.rows

      Last : ℕ → Type 0
      Last n = (position n ≡ 0) ⊎ (length before < position n)

      last_one : (n : ℕ) (help : Bool) (text : List ℕ) → Accepts (entry (new_entry n help text)) → Last n
          → rows_after (entry (new_entry n help text)) ≡ before ++ new_row (seen_by (entry (new_entry n help text))) n help text ∷ []
      last_one n help text ok (inl z) = new-row-last-for-0 (m title calls) n help text ok z
      last_one n help text ok (inr g) = new-row-last-behind-all (m title calls) n help text ok g

  -- THE SCREEN, by a call
  pub shows : Shows title (h title calls) (c title calls) s k
  unfolding stored stored_desk
  shows =
      record {
        hands_out = λ buffer ok e. hand-out buffer e (named-so e ok);
        accepts = λ buffer e idle room.
            ap (λ (y : Call). (step (m title calls) y).answer.refusal) e ∙ right.accepts buffer (sym (runs.outstanding-is-named title calls) ∙ idle) room;
        begins = λ bytes ok e.
            subst (λ (y : Call). OfPolling (step (m title calls) y).after.desk.due (not (interval_named (h title calls) == 0)) false) (sym e) (right.begins bytes (named-so e ok));
        turns = λ begun. right.turns x (sym (runs.session-is-named title calls) ∙ begun);
        sent = λ n bytes ok e. right.sent n bytes (named-so e ok);
      }
    where
      right : ScreenRight title (seen_of title calls) (m title calls) (h title calls)
      right = screen-is-right title calls

      wanted-of : (y : Matter) → wanted title (m title calls).tables.rows (h title calls) y ≡ wanted title (view_rows (c title calls).rows) (h title calls) y
      wanted-of y = sym (ap (λ (r : List Row). wanted title r (h title calls) y) (rows_are title calls))

      hand-out : (buffer : List ℕ) → x ≡ system_command buffer → (step (m title calls) (system_command buffer)).answer.refusal ≡ 0
          → HandsOut title (h title calls) (c title calls) s k buffer
      hand-out buffer e ok =
          let does = right.hand-out buffer ok in
          let due = handed-due (m title calls) buffer (passes (m title calls) (system_command buffer) ok) in
          let by : handed s ≡ command (m title calls) buffer = ap (λ (y : Call). handed (seen y (step (m title calls) y))) e in
          record {
            menu-first = λ q. by ∙ does.menu-first q ∙ wanted-of menu;
            read_back = λ q. ap (menu_reader document) (by ∙ does.menu-first q) ∙ right.read_back ∙ sym (ap (λ (r : List Row). read_as (menu_of (title_of title) (keep (is_shown (h title calls)) r))) (rows_are title calls));
            then-events = λ p q. by ∙ does.then-events p q ∙ wanted-of event_list;
            then-interval = λ p q i. by ∙ does.then-interval p q i ∙ wanted-of poll_interval;
            then-off = λ p q o. by ∙ does.then-off p q o ∙ wanted-of polling_off;
            else-nothing = λ q. (by ∙ (does.else-nothing q).0, ap (λ (y : Call). stored (step (m title calls) y).after) e ∙ ap stored (does.else-nothing q).1);
            at-the-front = ap (λ (y : Call). (step (m title calls) y).buffer) e ∙ front-so (m title calls) buffer ok ∙ ap (λ (b : List ℕ). front b buffer) (sym (by ∙ due));
            clears = ap (λ (y : Call). (step (m title calls) y).after.desk.due) e ∙ does.clears;
          }
