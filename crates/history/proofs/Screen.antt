-- THE SCREEN IS RIGHT after any sequence of calls on a fresh card, refused ones included. What the terminal was handed is looked back
-- from the calls, their answers and what they left in the lent buffers. Assumes nothing.
use Prim.Native.Nat.{ℕ, ◌≤◌}
use native.Mathlib.Omega.{arith}
use mathlib.Core.Path.{◌≡◌, refl, sym, ap, subst, ◌∙◌}
use mathlib.Core.Bool.{Bool, true, false, ◌&&◌}
use mathlib.Core.List.{List, [], map}
use lib.ListN.{length}
use borrow.Author.Tests.{eqb-true, eqb-false}
use Rattle.std.specs.Prelude.{if◌then◌else◌}
use Rattle.lists.specs.Lists.{count, keep}
use Rattle.lists.proofs.Counts.{count_map}
use Rattle.lists.proofs.Times.{some_alike}
use Rattle.lists.proofs.Truth.{and-true}
use Rattle.rules.specs.Holds.{Row, Model, document}
use Rattle.rules.specs.Commands.{Menu, shown_menu, shown_events, menu_of, menu_bytes, event_bytes, interval_bytes, is_menu}
use Rattle.rules.specs.Desk.{Matter, menu, event_list, poll_interval, polling_off, command_for}
use Rattle.rules.specs.Calls.{Call, Answer, proactive, system_command, send}
use Rattle.rules.specs.Refusals.{refusal}
use Rattle.rules.specs.Step.{step}
use Rattle.rules.specs.Beside.{ReadOutcome, menu_reader}
use Rattle.rules.specs.Runs.{card_after}
use Rattle.rules.proofs.DueMarks.{first-due}
use Rattle.history.specs.Histories.{History}
use Rattle.history.specs.Named.{rows_named, in_session, is_outstanding}
use Rattle.history.specs.Handed.{title_of, Seen, seen_of, handed_since, last_menu, screen, codes_in, is_event_list, codes_handed, is_polling, last_polling, is_shown, codes_named, interval_named, polling_named}
use Rattle.history.specs.OnScreen.{item_of, wanted, command, MenuRight, HandsOut, ScreenRight}
use Rattle.history.proofs.Agrees.{plain, ground}
use Rattle.history.proofs.Answered.{passes, answers}
use Rattle.history.proofs.Promises.{past, agree, sound, from-1-to-8, session-is-named, outstanding-is-named}
use Rattle.history.proofs.Stands.{shown_read}
use Rattle.history.proofs.Types.{codes-back}
use Rattle.history.proofs.Polling.{PollingRight, polling_for, never_both}
use Rattle.history.proofs.Handing.{right}
use Rattle.history.proofs.Shown.{rows-shown, rows-wanted, codes-shown}
use Rattle.history.proofs.Marking.{interval-is-named, begins, turns}
use Rattle.history.proofs.HandOuts.{taken, handed-due, nothing-due, due-left, mended}
use Rattle.history.proofs.Sent.{sends-no-menu, sends-no-list, sends-no-polling}

module _ (title : List ℕ) (calls : List Call) where
  -- the card that the calls have left, their history, and the calls as they were seen
  abbrev m : Model
  m = card_after document title calls

  abbrev h : History
  h = past title calls

  abbrev l : List Seen
  l = seen_of title calls

  -- the rows of the menu list that are to be shown, by the card and by the history
  abbrev rows : List Row
  rows = keep (is_shown h) m.tables.rows

  as_wanted : (p : Row → Bool) → count p rows ≡ count p (keep (is_shown h) (rows_named h))
  as_wanted = rows-wanted m.tables h (sound title calls) (agree title calls).tables (from-1-to-8 title calls)

  -- the card's menu command says these rows under the card's title, and its event list the codes
  card-shows : menu_of m.desk.title (shown_menu m.tables) ≡ menu_of (title_of title) rows
  card-shows =
      ap (λ (s : List ℕ). menu_of s (shown_menu m.tables)) (right title calls).title
      ∙ ap (menu_of (title_of title)) (rows-shown m.tables h (sound title calls) (agree title calls).tables (from-1-to-8 title calls))

  card-reads : menu_reader document (menu_bytes (menu_of m.desk.title (shown_menu m.tables))) ≡ record { refusal = 0; menu = menu_of (title_of title) rows }
  card-reads = shown_read m (ground title calls).sound (ground title calls).bounds ∙ ap (λ (x : Menu). record { refusal = 0; menu = x }) card-shows

  card-codes : shown_events m.tables ≡ codes_named h
  card-codes = codes-shown m.tables h (sound title calls) (agree title calls).tables (from-1-to-8 title calls)

  menu-right : in_session h ≡ true → m.desk.due.menu ≡ false → MenuRight title l m h
  unfolding screen menu_of
  menu-right begun current =
      record {
        reads = ap (λ (o : ReadOutcome). o.refusal) read;
        title = ap (λ (o : ReadOutcome). o.menu.title) read;
        in_order = items;
        named = λ p. ap (count p) items ∙ count_map p item_of rows ∙ as_wanted (λ r. p (item_of r)) ∙ sym (count_map p item_of (keep (is_shown h) (rows_named h)));
        help =
            ap (λ (o : ReadOutcome). o.menu.help) read
            ∙ some_alike (λ (r : Row). r.help) rows (keep (is_shown h) (rows_named h)) (as_wanted (λ r. r.help));
      }
    where
      read : menu_reader document (last_menu (title_of title) (handed_since l)) ≡ record { refusal = 0; menu = menu_of (title_of title) rows }
      read =
          ap (λ (s : List ℕ). menu_reader document (last_menu s (handed_since l))) (sym (right title calls).title)
          ∙ ap (menu_reader document) ((right title calls).menu (session-is-named title calls ∙ begun) current)
          ∙ card-reads

      items : (screen (title_of title) l).items ≡ map item_of rows
      items = ap (λ (o : ReadOutcome). o.menu.items) read

  codes-right : in_session h ≡ true → m.desk.due.events ≡ false → codes_handed l ≡ codes_named h
  unfolding codes_handed
  codes-right begun current =
      ap codes_in ((right title calls).events (session-is-named title calls ∙ begun) current) ∙ codes-back (shown_events m.tables) ∙ card-codes

  -- what is known of polling, of the interval that the history names
  polling-kept : PollingRight (interval_named h) m.desk.session m.desk.due.interval m.desk.due.off (handed_since l)
  polling-kept = subst (λ (n : ℕ). PollingRight n m.desk.session m.desk.due.interval m.desk.due.off (handed_since l)) (interval-is-named title calls) (right title calls).polling

  polling-right : in_session h ≡ true → m.desk.due.interval ≡ false → m.desk.due.off ≡ false → last_polling (handed_since l) ≡ polling_named h
  unfolding polling_for polling_named
  polling-right begun p q = polling-kept.last (session-is-named title calls ∙ begun) p q

  -- POLL INTERVAL AND POLLING OFF are never both due.
  pub interval-and-off-never-both-due : (m.desk.due.interval && m.desk.due.off) ≡ false
  interval-and-off-never-both-due = never_both _ _ _ _ _ polling-kept

  interval-due : m.desk.due.interval ≡ true → 1 ≤ interval_named h
  interval-due e = some (eqb-false (interval_named h) 0 (polling-kept.interval-due e).1)
    where
      some : {n : ℕ} → (n ≡ 0 → ⊥) → 1 ≤ n
      some f = omega arith

  off-due : m.desk.due.off ≡ true → interval_named h ≡ 0
  off-due e = eqb-true (interval_named h) 0 (polling-kept.off-due e).1

  sends-neither : (n : ℕ) (bytes : List ℕ) → (step m (proactive (send n bytes))).answer.refusal ≡ 0
      → (is_menu document bytes ≡ false) × (is_event_list bytes ≡ false) × (is_polling bytes ≡ false)
  sends-neither n bytes ok =
      let q : refusal m (proactive (send n bytes)) ≡ 0 = passes m (proactive (send n bytes)) ok in
      (sends-no-menu m n bytes q, sends-no-list m n bytes q, sends-no-polling m n bytes q)

  card-wants : (x : Matter) → command_for m.tables m.desk.title x ≡ wanted title m.tables.rows h x
  unfolding command_for wanted
  card-wants menu = ap menu_bytes card-shows
  card-wants event_list = ap event_bytes card-codes
  card-wants poll_interval = ap interval_bytes (interval-is-named title calls)
  card-wants polling_off = refl

  hands_out : (buffer : List ℕ) → (step m (system_command buffer)).answer.refusal ≡ 0 → HandsOut title m h buffer
  unfolding command_for
  hands_out buffer ok =
      record {
        menu-first = λ e. the-due ∙ rw e (card-wants menu);
        then-events = λ e f. the-due ∙ rw (e, f) (card-wants event_list);
        then-interval = λ e f p. the-due ∙ rw (e, f, p) (card-wants poll_interval);
        then-off = λ e f p. the-due ∙ rw (e, f, not-interval p, p) (card-wants polling_off);
        else-nothing = λ e. (the-due ∙ rw e refl, nothing-due m buffer (passes m (system_command buffer) ok) e);
        clears = due-left m buffer (passes m (system_command buffer) ok) interval-and-off-never-both-due;
      }
    where
      for : Matter → List ℕ
      for = command_for m.tables m.desk.title

      the-due : command m buffer ≡ (if m.desk.due.menu then for menu else if m.desk.due.events then for event_list else if m.desk.due.interval then for poll_interval else if m.desk.due.off then for polling_off else [])
      the-due = handed-due m buffer (passes m (system_command buffer) ok) ∙ first-due m.desk m.tables

      not-interval : m.desk.due.off ≡ true → m.desk.due.interval ≡ false
      not-interval p = sym (and-true m.desk.due.interval) ∙ ap (λ (b : Bool). m.desk.due.interval && b) (sym p) ∙ interval-and-off-never-both-due

  accepts : (buffer : List ℕ) → is_outstanding h ≡ false → 256 ≤ length buffer → (step m (system_command buffer)).answer.refusal ≡ 0
  accepts buffer idle room =
      ap (λ (a : Answer). a.refusal) (answers m (system_command buffer) (taken m buffer (outstanding-is-named title calls ∙ idle) room))
      ∙ plain m (system_command buffer)

  pub screen-is-right : ScreenRight title l m h
  unfolding wanted
  screen-is-right =
      record {
        menu = menu-right;
        codes = codes-right;
        polling = polling-right;
        never_both = interval-and-off-never-both-due;
        interval-due = interval-due;
        off-due = off-due;
        begins = begins title calls;
        turns = turns title calls;
        sent = sends-neither;
        read_back = sym (ap (λ (x : Menu). menu_reader document (menu_bytes x)) card-shows) ∙ card-reads;
        hand-out = hands_out;
        accepts = accepts;
        mends = λ buffers idle room few. mended m buffers interval-and-off-never-both-due (outstanding-is-named title calls ∙ idle) room few;
      }
