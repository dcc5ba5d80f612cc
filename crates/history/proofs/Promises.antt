-- DEMAND 3. Take any sequence of calls on a fresh card, refused ones included: one theorem for each sentence, in its order. Those of events
-- stand in Turns, those of one-shots in OneShot. Assumes nothing.
use Prim.Native.Nat.{ℕ, suc, ◌≤◌}
use native.Mathlib.Omega.{arith}
use mathlib.Core.Path.{◌≡◌, refl, sym, ap, ◌∙◌}
use mathlib.Core.Bool.{Bool, true, false, ◌&&◌}
use mathlib.Core.List.{List, ◌∷◌, map}
use lib.ListN.{length}
use lib.IntN.{ℤ}
use borrow.Author.Tests.{eqb-true}
use Rattle.std.specs.Prelude.{if◌then◌else◌, ◌==◌}
use Rattle.lists.specs.Lists.{Every, count, first, times}
use Rattle.lists.proofs.Counts.{count-alike, count_map}
use Rattle.lists.proofs.Mapped.{map-length}
use Rattle.lists.proofs.Times.{count-all, count-one, first_alike}
use Rattle.rules.specs.declared.Kind.TheVariants.{Event}
use Rattle.rules.specs.Holds.{Row, Bounds, Model, document}
use Rattle.rules.specs.Events.{call_control, kind_of}
use Rattle.rules.specs.Rows.{has_identifier}
use Rattle.rules.specs.Timers.{owner_of}
use Rattle.rules.specs.Applets.{has_number, nobody, present, applet}
use Rattle.rules.specs.Applets as rules
use Rattle.rules.specs.Commands.{menu_bytes, menu_of, shown_menu}
use Rattle.rules.specs.Calls.{Call, event, ask_event}
use Rattle.rules.specs.Desk.{same_row?}
use Rattle.rules.specs.Refusals.{event_lines, lines, refusal}
use Rattle.rules.specs.Step.{event_answer, answer, step}
use Rattle.rules.proofs.OnRefusal.{refused}
use Rattle.rules.proofs.DueMarks.{row-self}
use Rattle.rules.specs.Runs.{card_after}
use Rattle.runs.specs.Sound.{SoundTables}
use Rattle.runs.proofs.Accepted.{accepted as none-holds}
use Rattle.runs.proofs.Filled.{is-here}
use Rattle.runs.proofs.Looked.{number-from, number-to}
use Rattle.history.specs.Histories.{did, History, accepted}
use Rattle.history.specs.Named.{is_present, is_registered, poll_of, owns_timer, owns_control, one_to_eight, timer_owner, control_owner, rows_named, in_session, is_outstanding}
use Rattle.history.specs.Runs.{history_of}
use Rattle.history.proofs.Agree.{number_of, Agree}
use Rattle.history.proofs.Agrees.{accepted-same, ground, agrees}
use Rattle.history.proofs.Owners.{within, timer-within}
use Rattle.history.proofs.RowsNamed.{same_row}
use Rattle.history.proofs.Calling.{told}
use Rattle.history.proofs.Answered.{passes, answers, refuses}
use Rattle.history.proofs.Fits.{menu-fits}
use Rattle.history.proofs.Eight.{the-one-is, counted-by-place, length-due}

-- the history of the accepted calls
abbrev pub past : (title : List ℕ) → List Call → History
past title calls = accepted (history_of title calls)

module _ (title : List ℕ) (calls : List Call) where
  -- the card that the calls have left, and their history
  abbrev pub m : Model
  m = card_after document title calls

  abbrev pub h : History
  h = past title calls

  -- what the induction over the calls gives
  pub agree : Agree m h
  agree = agrees title calls

  pub sound : SoundTables m.tables
  sound = (ground title calls).sound.tables

  bounds : m.tables.bounds ≡ document
  bounds = (ground title calls).bounds

  pub from-1-to-8 : (n : ℕ) → present m.tables n ≡ true → (1 ≤ n) × (n ≤ 8)
  from-1-to-8 n e =
      (number-from m.tables sound n e, omega (arith, number-to m.tables sound n e, ap (λ (b : Bounds). b.applets) bounds))

  -- A refused call changes neither the card nor what the history names.
  module _ (c : Call) (n : ℕ) (no_way : (step m c).answer.refusal ≡ suc n) where
    pub refused-call-leaves-the-card : card_after document title (c ∷ calls) ≡ m
    unfolding card_after
    refused-call-leaves-the-card = ap (λ o. o.after) (refused m c n (refuses m c n no_way))

    pub refused-call-leaves-the-past : past title (c ∷ calls) ≡ h
    unfolding history_of
    refused-call-leaves-the-past =
        ap (λ o. accepted (did c o.answer ∷ history_of title calls)) (refused m c n (refuses m c n no_way)) ∙ accepted-same c n (history_of title calls)

  -- The applets present are those that were installed and not deleted since, as many as these.
  pub applets-are-those-named : (n : ℕ) → present m.tables n ≡ is_present n h
  applets-are-those-named n = agree.tables.presence n

  pub applets-are-as-many : length m.tables.applets ≡ count (λ n. is_present n h) one_to_eight
  unfolding times present
  applets-are-as-many =
      sym (map-length number_of m.tables.applets)
      ∙ length-due (map number_of m.tables.applets) (λ n. is_present n h) once (λ n e. from-1-to-8 n (applets-are-those-named n ∙ e))
    where
      plainly : (b : Bool) → ◌≡◌ {A = ℕ} (if b && true then 1 else 0) (if b then 1 else 0)
      plainly true = refl
      plainly false = refl

      once : (n : ℕ) → times n (map number_of m.tables.applets) ≡ (if is_present n h then 1 else 0)
      once n =
          count_map (λ k. k == n) number_of m.tables.applets
          ∙ count-one (has_number n) nobody (λ x. true) m.tables.applets (sound.numbers_apart n)
          ∙ plainly (present m.tables n)
          ∙ ap (λ (b : Bool). if b then 1 else 0) (applets-are-those-named n)

  -- THE MENU LIST holds one row for each accepted menu entry whose applet has not been deleted since, and no other: whatever is
  -- asked of a row, as many rows meet it as the history names ..
  pub menu-list-holds-what-is-named : (p : Row → Bool) → count p m.tables.rows ≡ count p (rows_named h)
  menu-list-holds-what-is-named p = agree.tables.rows p

  -- .. it is as long as the list of those entries ..
  pub menu-list-is-as-long : length m.tables.rows ≡ length (rows_named h)
  menu-list-is-as-long = sym (count-all m.tables.rows) ∙ agree.tables.rows (λ r. true) ∙ count-all (rows_named h)

  -- .. all identifiers different, whatever the titles ..
  pub identifiers-are-different : (i : ℕ) → count (has_identifier i) m.tables.rows ≤ 1
  identifiers-are-different i = sound.identifiers-apart i

  -- .. and the row with an identifier has the owner, the text, the help mark and the enabled mark that the history names.
  pub row-is-the-one-named : (i : ℕ) (none : Row)
      → first (has_identifier i) none m.tables.rows ≡ first (has_identifier i) none (rows_named h)
  row-is-the-one-named i none =
      first_alike same_row? row-self same_row (has_identifier i) none _ _ agree.tables.rows (identifiers-are-different i)

  -- The menu command always fits in 250 bytes.
  pub menu-command-fits : length (menu_bytes (menu_of m.desk.title (shown_menu m.tables))) ≤ 250
  menu-command-fits = menu-fits m bounds (ground title calls).sound

  -- EACH TIMER has at most one owner, the one that the history of accepted calls names ..
  pub timer-owner-is-the-one-named : (k : ℕ) → owner_of m.tables.timers k ≡ timer_owner k h
  unfolding timer_owner
  timer-owner-is-the-one-named k = the-one-is _ (λ n. owns_timer k n h) (timer-within m.tables bounds sound k) (agree.tables.timers k)

  pub timer-has-one-owner : (k n o : ℕ) → 1 ≤ n → 1 ≤ o → owns_timer k n h ≡ true → owns_timer k o h ≡ true → n ≡ o
  timer-has-one-owner k n o i j p q =
      sym (eqb-true _ n (agree.tables.timers k n i ∙ p))
      ∙ eqb-true _ o (agree.tables.timers k o j ∙ q)

  -- .. and so has call control.
  pub control-owner-is-the-one-named : m.tables.control ≡ control_owner h
  unfolding control_owner owns_control
  control-owner-is-the-one-named =
      the-one-is _ (λ n. is_registered n call_control h) (within m.tables bounds sound _ sound.control) agree.tables.control

  pub control-has-one-owner : (n o : ℕ) → 1 ≤ n → 1 ≤ o → owns_control n h ≡ true → owns_control o h ≡ true → n ≡ o
  unfolding owns_control
  control-has-one-owner n o i j p q =
      sym (eqb-true _ n (agree.tables.control n i ∙ p))
      ∙ eqb-true _ o (agree.tables.control o j ∙ q)

  -- The owned count is that of the timers that the history names.
  pub owned-count-is-named : (n : ℕ) → 1 ≤ n → count (λ o. o == n) m.tables.timers ≡ count (λ k. owns_timer k n h) one_to_eight
  owned-count-is-named n i =
      counted-by-place (λ o. o == n) m.tables.timers (sound.all-timers ∙ ap (λ (b : Bounds). b.timers) bounds)
      ∙ count-alike _ (λ k. owns_timer k n h) (λ k. agree.tables.timers k n i) one_to_eight

  -- THE POLL INTERVAL that an applet requests is the one that it last requested since it was installed.
  pub request-is-the-one-named : (n : ℕ) → (applet m.tables n).poll ≡ poll_of n h
  request-is-the-one-named n = agree.tables.poll n

  -- What is asked of a registration is told as the history names it.
  pub asking-tells-what-is-named : (n e : ℕ) (v : ℤ) → kind_of v ≡ Event e → (step m (event (ask_event n v))).answer.refusal ≡ 0
      → (step m (event (ask_event n v))).answer.says ≡ is_registered n e h
  unfolding answer event_answer rules.is_registered event_lines lines Every
  asking-tells-what-is-named n e v k ok =
      let q : refusal m (event (ask_event n v)) ≡ 0 = passes m (event (ask_event n v)) ok in
      ap (λ a. a.says) (answers m (event (ask_event n v)) q)
      ∙ ap (rules.is_registered m.tables n) k
      ∙ told m.tables h sound agree.tables n e (is-here m.tables n (none-holds m (event (ask_event n v)) q).0)

  -- The session, and what is outstanding, are those that the history names.
  pub session-is-named : m.desk.session ≡ in_session h
  session-is-named = agree.desk.session

  pub outstanding-is-named : m.desk.outstanding ≡ is_outstanding h
  outstanding-is-named = agree.desk.outstanding
