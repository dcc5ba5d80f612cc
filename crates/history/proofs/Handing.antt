-- What was last handed out is what the card shows, unless it is due: kept by every call.
-- Assumes nothing.
use Prim.Native.Nat.{ℕ, zero, suc}
use native.Mathlib.Omega.{arith}
use mathlib.Core.Path.{◌≡◌, refl, sym, ap, subst, ◌∙◌}
use mathlib.Core.Bool.{Bool, true, false, not, ◌&&◌, false≢true}
use mathlib.Core.List.{List, [], ◌∷◌}
use lib.ListN.{take}
use lib.Seq.{take-nil, take-append_seam}
use lib.Dec.{eqb-suc-zero}
use Rattle.std.specs.Prelude.{if◌then◌else◌, ◌==◌}
use Rattle.lists.specs.Lists.{alike?, same?, empty?, first}
use Rattle.lists.proofs.Decided.{both, clashing, neither}
use Rattle.lists.proofs.Truth.{and-false}
use Rattle.rules.specs.Holds.{Row, Tables, Desk, Model, document}
use Rattle.rules.specs.Commands.{Menu, shown_menu, shown_events, interval, menu_of, menu_bytes, event_bytes, interval_bytes, off_bytes, may_stand}
use Rattle.rules.specs.Desk.{same_row?, menu_changes, events_change, interval_changes, is_polled, due_after, marked, with_marks, due_at_first, with_profile, menu, event_list, poll_interval, polling_off, handed_out, due_command, with_handed_out}
use Rattle.rules.specs.Calls.{Call, refused_with, admin, event, entry, timer, arrival, next, proactive, system_command, envelope, profile, status, settled, send, response}
use Rattle.rules.specs.Refusals.{refusal}
use Rattle.rules.specs.Step.{arrival_desk, proactive_desk, desk_after, tables_after, changed, answer, lent, front, written, outcome, step}
use Rattle.rules.specs.Beside.{fresh_by, fresh_card}
use Rattle.rules.specs.Runs.{card_after}
use Rattle.rules.proofs.DueMarks.{first-due, first-handed}
use Rattle.rules.proofs.Reader.{same_true, accepts}
use Rattle.history.specs.Deeds.{of_arrival, is_profile, profiles}
use Rattle.history.specs.Handed.{title_of, Seen, seen, seen_of, handed, begins, handed_since, last_menu, last_list}
use Rattle.history.proofs.RowsNamed.{same_row}
use Rattle.history.proofs.Agrees.{plain, ground}
use Rattle.history.proofs.Agree.{Ground}
use Rattle.history.proofs.Stands.{shown-stands}
use Rattle.history.proofs.Types.{type_of, its-type, none-typed, menu-typed, list-typed, interval-typed, off-typed, past-menu, past-list, past-polling, the-list}
use Rattle.history.proofs.Polling.{PollingRight, polling-passed, interval-handed, off-handed, interval-changed, interval-unseen, polling-unbegun, polling-begun}

-- THE INVARIANT, over the card's title, the tables, the desk and the commands handed out since the profile.
pub record Right (took : List ℕ) (t : Tables) (d : Desk) (commands : List (List ℕ)) : Type 0 where
  pub title : d.title ≡ took
  pub menu : d.session ≡ true → d.due.menu ≡ false → last_menu d.title commands ≡ menu_bytes (menu_of d.title (shown_menu t))
  pub events : d.session ≡ true → d.due.events ≡ false → last_list commands ≡ event_bytes (shown_events t)
  pub polling : PollingRight (interval t) d.session d.due.interval d.due.off commands

-- a call that hands out nothing
nothing-handed : (title : List ℕ) (t : Tables) (d : Desk) (k : List (List ℕ)) → Right title t d k → Right title t d ([] ∷ k)
nothing-handed title t d k r =
    record {
      title = r.title;
      menu = λ s q. past-menu [] k d.title (λ e. omega (arith, none-typed)) ∙ r.menu s q;
      events = λ s q. past-list [] k (λ e. omega (arith, none-typed)) ∙ r.events s q;
      polling = polling-passed _ _ _ _ k r.polling [] (past-polling [] k (λ e. omega (arith, none-typed)) (λ e. omega (arith, none-typed)));
    }

-- a profile: nothing is handed out since, and what is not empty is due
is-empty : {A : Type 0} (l : List A) → not (empty? l) ≡ false → l ≡ []
unfolding empty?
is-empty [] e = refl
is-empty (x ∷ l) e = clashing refl e

profiled : (title : List ℕ) (t : Tables) (bytes : List ℕ) (d : Desk) → d.title ≡ title → Right title t (with_profile t bytes d) []
unfolding with_profile due_at_first is_polled last_menu last_list first
profiled title t bytes d e =
    record {
      title = e;
      menu = λ s q. ap (λ (l : List Row). menu_bytes (menu_of d.title l)) (sym (is-empty (shown_menu t) q));
      events = λ s q. ap event_bytes (sym (is-empty (shown_events t) q));
      polling = polling-begun (interval t);
    }

-- a hand-out: of the menu, of the event list, of one of the two for polling, of nothing
module _ (title : List ℕ) (t : Tables) (d : Desk) (k : List (List ℕ)) (r : Right title t d k) where
  -- the menu and the list that were last handed out stay the last when a command of another type is handed out
  other-menu : (c : List ℕ) → (type_of c ≡ 0x25 → ⊥) → d.session ≡ true → d.due.menu ≡ false → last_menu d.title (c ∷ k) ≡ menu_bytes (menu_of d.title (shown_menu t))
  other-menu c h s q = past-menu c k d.title h ∙ r.menu s q

  other-list : (c : List ℕ) → (type_of c ≡ 0x05 → ⊥) → d.session ≡ true → d.due.events ≡ false → last_list (c ∷ k) ≡ event_bytes (shown_events t)
  other-list c h s q = past-list c k h ∙ r.events s q

  other-polling : (c : List ℕ) → (type_of c ≡ 0x04 → ⊥) → (type_of c ≡ 0x03 → ⊥) → PollingRight (interval t) d.session d.due.interval d.due.off (c ∷ k)
  other-polling c h g = polling-passed _ _ _ _ k r.polling c (past-polling c k h g)

  abbrev x : Menu
  x = menu_of d.title (shown_menu t)

  menu-out : may_stand document x ≡ true → Right title t (with_marks d true (handed_out menu d.due)) (menu_bytes x ∷ k)
  unfolding handed_out last_menu first
  menu-out may =
      let w : type_of (menu_bytes x) ≡ 0x25 = its-type 0x25 (menu_bytes x) (menu-typed x) in
      record {
        title = r.title;
        menu = λ s q. rw (accepts document x may) refl;
        events = other-list (menu_bytes x) (λ e. omega arith);
        polling = other-polling (menu_bytes x) (λ e. omega arith) (λ e. omega arith);
      }

  list-out : Right title t (with_marks d true (handed_out event_list d.due)) (event_bytes (shown_events t) ∷ k)
  unfolding handed_out
  list-out =
      let c = event_bytes (shown_events t) in
      let w : type_of c ≡ 0x05 = its-type 0x05 c (list-typed (shown_events t)) in
      record {
        title = r.title;
        menu = other-menu c (λ e. omega arith);
        events = λ s q. the-list k (shown_events t);
        polling = other-polling c (λ e. omega arith) (λ e. omega arith);
      }

  interval-out : d.due.interval ≡ true → Right title t (with_marks d true (handed_out poll_interval d.due)) (interval_bytes (interval t) ∷ k)
  unfolding handed_out
  interval-out due =
      let c = interval_bytes (interval t) in
      let w : type_of c ≡ 0x03 = its-type 0x03 c (interval-typed (interval t)) in
      record {
        title = r.title;
        menu = other-menu c (λ e. omega arith);
        events = other-list c (λ e. omega arith);
        polling = interval-handed _ _ _ _ k r.polling due;
      }

  off-out : d.due.off ≡ true → Right title t (with_marks d true (handed_out polling_off d.due)) (off_bytes ∷ k)
  unfolding handed_out
  off-out due =
      let w : type_of off_bytes ≡ 0x04 = its-type 0x04 off_bytes off-typed in
      record {
        title = r.title;
        menu = other-menu off_bytes (λ e. omega arith);
        events = other-list off_bytes (λ e. omega arith);
        polling = off-handed _ _ _ _ k r.polling due;
      }

  handing : may_stand document x ≡ true → Right title t (with_handed_out d) (due_command t d ∷ k)
  handing may = rw (first-handed d, first-due d t) (go d.due.menu d.due.events d.due.interval d.due.off refl refl)
    where
      go : (a b i o : Bool) → d.due.interval ≡ i → d.due.off ≡ o
          → Right title t
          (if a then with_marks d true (handed_out menu d.due) else if b then with_marks d true (handed_out event_list d.due) else
          if i then with_marks d true (handed_out poll_interval d.due) else if o then with_marks d true (handed_out polling_off d.due) else d)
          ((if a then menu_bytes x else if b then event_bytes (shown_events t) else if i then interval_bytes (interval t) else if o then off_bytes else []) ∷ k)
      go true b i o p q = menu-out may
      go false true i o p q = list-out
      go false false true o p q = interval-out p
      go false false false true p q = off-out q
      go false false false false p q = nothing-handed title t d k r

-- THE MARKS: what changes is due.
same_rows : (l k : List Row) → not (alike? same_row? l k) ≡ false → l ≡ k
unfolding alike?
same_rows [] [] e = refl
same_rows [] (y ∷ k) e = clashing refl e
same_rows (x ∷ l) [] e = clashing refl e
same_rows (x ∷ l) (y ∷ k) e =
    let h = both (same_row? x y) (alike? same_row? l k) (upright (same_row? x y && alike? same_row? l k) e) in
    let p : x ≡ y = same_row x y h.0 in
    let q : l ≡ k = same_rows l k (ap not h.1) in
    rw (p, q) refl
  where
    upright : (b : Bool) → not b ≡ false → b ≡ true
    upright true e = refl
    upright false e = sym e

same_codes : (l k : List ℕ) → not (same? l k) ≡ false → l ≡ k
same_codes l k e = go (same? l k) refl e
  where
    go : (b : Bool) → same? l k ≡ b → not b ≡ false → l ≡ k
    go true p q = same_true l k p
    go false p q = clashing refl q

marks-right : (title : List ℕ) (before after : Tables) (d : Desk) (k : List (List ℕ)) → Right title before d k
    → Right title after (marked before after d) k
unfolding marked due_after menu_changes events_change interval_changes is_polled
marks-right title before after d k r = go d.session refl
  where
    go : (s : Bool) → d.session ≡ s
        → Right title after (if s then with_marks d d.outstanding (due_after before after d.due) else d) k
    go true e =
        record {
          title = r.title;
          menu =
              λ s q. let h = neither d.due.menu (menu_changes before after) q in
              r.menu e h.0 ∙ ap (λ (l : List Row). menu_bytes (menu_of d.title l)) (same_rows (shown_menu before) (shown_menu after) h.1);
          events =
              λ s q. let h = neither d.due.events (events_change before after) q in
              r.events e h.0 ∙ ap event_bytes (same_codes (shown_events before) (shown_events after) h.1);
          polling = interval-changed _ _ _ _ k r.polling e (interval after);
        }
    go false e = record { title = r.title; menu = λ s q. clashing s e; events = λ s q. clashing s e; polling = interval-unseen _ _ _ _ k r.polling e (interval after) }

-- ONE CALL. An accepted one, seen from outside ..
abbrev taken : Model → Call → Seen
taken m c = seen c (record { after = changed m c; answer = answer m c; buffer = written m c })

-- .. that is no profile, or is one
goes_on : (m : Model) (c : Call) (l : List Seen) → of_arrival false is_profile c ≡ false → handed_since (taken m c ∷ l) ≡ handed (taken m c) ∷ handed_since l
unfolding handed_since begins profiles
goes_on m c l e = rw (e, and-false ((answer m c).refusal == 0)) refl

starts : (m : Model) (c : Call) (l : List Seen) → of_arrival false is_profile c ≡ true → handed_since (taken m c ∷ l) ≡ []
unfolding handed_since begins profiles
starts m c l e = rw (e, plain m c) refl

-- a refused one hands out nothing and begins no session
passed_over : (m : Model) (c : Call) (n : ℕ) (l : List Seen)
    → handed_since (seen c (record { after = m; answer = refused_with (suc n); buffer = lent c }) ∷ l) ≡ [] ∷ handed_since l
unfolding handed_since begins handed
passed_over m c n l = rw (eqb-suc-zero n) refl

-- what an accepted one leaves of the desk
module _ (title : List ℕ) (m : Model) (l : List Seen) (g : Ground m) (r : Right title m.tables m.desk (handed_since l)) where
  quiet : (c : Call) (d : Desk) → of_arrival false is_profile c ≡ false → written m c ≡ [] → Right title m.tables d (handed_since l)
      → Right title m.tables d (handed_since (taken m c ∷ l))
  unfolding handed
  quiet c d e w q =
      subst (Right title m.tables d)
      (sym (goes_on m c l e ∙ ap (λ (b : List ℕ). take (answer m c).number b ∷ handed_since l) w ∙ ap (λ (b : List ℕ). b ∷ handed_since l) (take-nil (answer m c).number)))
      (nothing-handed title m.tables d (handed_since l) q)

  desk-right : (c : Call) → Right title m.tables (desk_after m c) (handed_since (taken m c ∷ l))
  unfolding desk_after arrival_desk proactive_desk of_arrival is_profile written answer handed front
  desk-right (admin c) = quiet (admin c) m.desk refl refl r
  desk-right (event c) = quiet (event c) m.desk refl refl r
  desk-right (entry c) = quiet (entry c) m.desk refl refl r
  desk-right (timer c) = quiet (timer c) m.desk refl refl r
  desk-right (arrival (envelope bytes)) = quiet (arrival (envelope bytes)) m.desk refl refl r
  desk-right (arrival (profile bytes)) =
      subst (Right title m.tables _) (sym (starts m (arrival (profile bytes)) l refl)) (profiled title m.tables bytes m.desk r.title)
  desk-right (arrival status) = quiet (arrival status) m.desk refl refl r
  desk-right (arrival settled) = quiet (arrival settled) m.desk refl refl r
  desk-right next = quiet next m.desk refl refl r
  desk-right (proactive (send n bytes)) = quiet (proactive (send n bytes)) _ refl refl (record { title = r.title; menu = r.menu; events = r.events; polling = r.polling })
  desk-right (proactive response) = quiet (proactive response) _ refl refl (record { title = r.title; menu = r.menu; events = r.events; polling = r.polling })
  desk-right (system_command buffer) =
      subst (Right title m.tables _)
      (sym (goes_on m (system_command buffer) l refl ∙ ap (λ (b : List ℕ). b ∷ handed_since l) (take-append_seam (due_command m.tables m.desk) _)))
      (handing title m.tables m.desk (handed_since l) r (shown-stands m g.sound g.bounds))

  -- and any call
  one-call : (c : Call) (n : ℕ)
      → Right title (outcome n m c).after.tables (outcome n m c).after.desk (handed_since (seen c (outcome n m c) ∷ l))
  unfolding outcome changed
  one-call c zero = marks-right title m.tables (tables_after m c) (desk_after m c) _ (desk-right c)
  one-call c (suc n) =
      subst (Right title m.tables m.desk) (sym (passed_over m c n l)) (nothing-handed title m.tables m.desk (handed_since l) r)

-- ANY SEQUENCE OF CALLS on a fresh card: no session has begun on it.
right-start : (n : ℕ) (title : List ℕ) → Right (fresh_by n document title).card.desk.title (fresh_by n document title).card.tables (fresh_by n document title).card.desk []
unfolding fresh_by
right-start zero title = record { title = refl; menu = λ s q. absurd (false≢true s); events = λ s q. absurd (false≢true s); polling = polling-unbegun _ }
right-start (suc n) title = record { title = refl; menu = λ s q. absurd (false≢true s); events = λ s q. absurd (false≢true s); polling = polling-unbegun _ }

pub right : (title : List ℕ) (calls : List Call)
    → Right (title_of title) (card_after document title calls).tables (card_after document title calls).desk (handed_since (seen_of title calls))
unfolding card_after fresh_card seen_of step handed_since
right title [] = right-start _ title
right title (c ∷ calls) =
    one-call (title_of title) (card_after document title calls) (seen_of title calls) (ground title calls) (right title calls) c (refusal (card_after document title calls) c)
