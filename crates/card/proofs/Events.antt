-- What set and clear event leave of the card, in the three cases: refused, call control, any other event.
-- Assumes nothing.
use Prim.Native.Nat.{ℕ, ◌≤◌, ◌<◌}
use native.Mathlib.Omega.{arith}
use mathlib.Core.Path.{◌≡◌, refl, sym, ap, subst, ◌∙◌}
use mathlib.Core.Bool.{Bool, true, false, not, ◌&&◌}
use mathlib.Core.List.{List}
use lib.IntN.{ℤ}
use lib.ListN.{length, get_or, set, length-set}
use lib.Seq.{get_or-set_same, get_or-set_other}
use borrow.Author.Tests.{eqb-true, eqb-false}
use Rattle.std.specs.Prelude.{if◌then◌else◌, ◌==◌}
use Rattle.lists.specs.Lists.{some?, change}
use Rattle.lists.specs.Tables.{table}
use Rattle.lists.proofs.Decided.{turned}
use Rattle.lists.proofs.Truth.{and-false, beq-self, not-not}
use Rattle.lists.proofs.Places.{set-held}
use Rattle.lists.proofs.Tables.{table-alike, table-set}
use Rattle.sets.specs.Sets.{has?, meets, switched_set}
use Rattle.sets.proofs.Bits.{has-set, set-alike}
use Rattle.rules.specs.declared.Kind.{Kind}
use Rattle.rules.specs.declared.Kind.TheVariants.{Event}
use Rattle.rules.specs.declared.Answer.{Answer}
use Rattle.rules.specs.Holds.{Applet, Tables, Model, with_applets, with_control, with_event}
use Rattle.rules.specs.Events.{kind_of, call_control}
use Rattle.rules.specs.Applets.{has_number, present, applet, forget, register, with_registration, owned_by_another}
use Rattle.rules.specs.Calls.{EventCall, event, accepted, refused_with}
use Rattle.rules.specs.Desk.{events_change, marked}
use Rattle.rules.specs.Refusals.{lines, absent, event_lines, refusal}
use Rattle.rules.specs.Step.{step, tables_after, event_tables, desk_after, answer, event_answer, round_after}
use Rattle.events.specs.Place.{place_of}
use Rattle.events.proofs.Places.{place-within}
use Rattle.runs.specs.Sound.{SoundTables}
use Rattle.runs.proofs.Looked.{sound-applet}
use Rattle.runs.proofs.Registered.{changed-sound}
use Rattle.applets.specs.ByNumber.{at, roll_of, selectable_set, registered_set, made_table, poll_table}
use Rattle.applets.proofs.Numbers.{at-change, roll-kept, selectable-kept, registered-kept, made_kept, poll-kept}
use Rattle.events_shown.specs.Turns.{is_download, events_turn}
use Rattle.events_shown.proofs.Quiet.{control-events}
use Rattle.refusals.proofs.Calls.{event-known}
use Rattle.card.specs.declared.Card.{Card}
use Rattle.card.specs.declared.Reply.{Reply}
use Rattle.card.specs.View.{view, stored, Left}
use Rattle.card.specs.Replies.{replied}
use Rattle.rules.specs.Held.{stored_answer}
use Rattle.card.specs.Switches.{registering}
use Rattle.card.specs.Turns.{turn_refusal, set_after, owner_after}
use Rattle.card.proofs.Left.{left-sound, left-bounds}
use Rattle.card.proofs.Marks.{Turns, with_events_due, EventsMark, events-desk}
use Rattle.card.proofs.Turned.{nothing-turns, registration-turns-events}
use Rattle.card.proofs.Present.{present-by, found-by}
use Rattle.card.proofs.Listeners.{set_is, event-by}
use Rattle.card.proofs.Replied.{tables_by, after-by, plain-reply, next-card, selectable-form, registered-form, control-form, Still}

-- their refusal
turn-refusal-is : (m : Model) (n : ℕ) (v : ℤ) (on : Bool) {there : Bool} {k : Kind} → there ≡ not (absent m.tables n) → k ≡ kind_of v
    → turn_refusal there k m.tables.control n on ≡ refusal m (event (registering on n v))
unfolding refusal lines event_lines owned_by_another
turn-refusal-is m n v true e f = rw (e, ← not-not (absent m.tables n), f) refl
turn-refusal-is m n v false e f = rw (e, ← not-not (absent m.tables n), f) refl

-- THE CARD AFTER A CALL ABOUT EVENTS: who is registered, the owner of call control, and whether the event list is due
abbrev with_events : Card → (registered : List ℕ) → (control : ℕ) → (due : Bool) → Card
with_events c registered control due =
    record { roll = c.roll; selectable = c.selectable; registered = registered; made = c.made; polls = c.polls; control = control; rows = c.rows; bank = c.bank; desk = with_events_due c.desk due; round = c.round }

module _ (c : Card) (left : Left c) (u : Tables) where
  abbrev t : Tables
  t = (view c).tables

  events-card
      : roll_of u.applets ≡ roll_of t.applets
      → selectable_set u.applets ≡ selectable_set t.applets
      → made_table u.applets ≡ made_table t.applets
      → poll_table u.applets ≡ poll_table t.applets
      → u.rows ≡ t.rows
      → u.timers ≡ t.timers
      → {g : List ℕ} {o : ℕ} {due turns : Bool}
      → g ≡ table 20 (registered_set u.applets)
      → o ≡ u.control
      → Turns t u false turns
      → EventsMark c.desk turns due
      → with_events c g o due ≡ stored (record { tables = u; desk = marked t u (view c).desk; round = (view c).round })
  events-card roll sel made polls rows timers reg own turns due =
      next-card c left u roll made polls rows timers (selectable-form c left ∙ sym sel) reg own (events-desk c left u turns due)

-- a set that stays turns nothing
unturned : (p was s : ℕ) → false ≡ events_turn p was was s
unturned p was s = sym (ap (λ (b : Bool). is_download p && not b) (beq-self (meets was s)) ∙ and-false (is_download p))

-- an applet's registration for an event other than call control
module _ (c : Card) (left : Left c) (n p : ℕ) (on : Bool) (within : p < 20) (there : present (view c).tables n ≡ true) where
  abbrev l : List Applet
  l = (view c).tables.applets

  abbrev next : List Applet
  next = change (has_number n) (with_event p on) l

  abbrev was : ℕ
  was = get_or c.registered p 0

  here : some? (has_number n) l ≡ true
  unfolding present
  here = there

  long : p < length (at l n).events
  unfolding applet
  long = let e : length (at l n).events ≡ 20 = (sound-applet (view c).tables (left-sound c left).tables n there).events in omega arith

  own_is : registered_set next p ≡ switched_set was n on
  unfolding registered_set
  own_is = set-alike _ _ each
    where
      each : (k : ℕ) → 1 ≤ k → k ≤ 8 → get_or (at next k).events p false ≡ (if k == n then on else has? was k)
      each k a b =
          ap (λ (x : Applet). get_or x.events p false) (at-change l n (with_event p on) here (λ x. refl) k)
          ∙ go (n == k) refl
          ∙ ap (λ (b : Bool). if b then on else has? was k) (turned n k)
        where
          go : (b : Bool) → (n == k) ≡ b → get_or (if b then with_event p on (at l k) else at l k).events p false ≡ (if b then on else has? was k)
          go true e = get_or-set_same (at l k).events p on false (rw (eqb-true n k e) at long)
          go false e = sym (ap (λ (s : ℕ). has? s k) (set_is c left p within) ∙ has-set (λ k. get_or (at l k).events p false) k a b)

  others-are : (j : ℕ) → (j ≡ p → ⊥) → registered_set next j ≡ registered_set l j
  others-are j h = registered-kept l n (with_event p on) here (λ x. refl) j (λ x. get_or-set_other x.events p j on false h)

  pub sets-are : set c.registered p (switched_set was n on) ≡ table 20 (registered_set next)
  sets-are =
      ap (λ (k : List ℕ). set k p (switched_set was n on)) (registered-form c left)
      ∙ table-set 20 (registered_set l) p (switched_set was n on)
      ∙ table-alike 20 _ _ (λ j h. go j (j == p) refl)
    where
      go : (j : ℕ) (b : Bool) → (j == p) ≡ b → (if b then switched_set was n on else registered_set l j) ≡ registered_set next j
      go j true e = sym own_is ∙ ap (registered_set next) (sym (eqb-true j p e))
      go j false e = sym (others-are j (eqb-false j p e))

  pub roll-same : roll_of next ≡ roll_of l
  roll-same = roll-kept l n (with_event p on) here (λ x. refl)

  pub made-same : made_table next ≡ made_table l
  made-same = made_kept l n (with_event p on) here (λ x. refl) (λ x. refl)

  pub polls-same : poll_table next ≡ poll_table l
  polls-same = poll-kept l n (with_event p on) here (λ x. refl) (λ x. refl)

  pub selectable-same : selectable_set next ≡ selectable_set l
  selectable-same = selectable-kept l n (with_event p on) here (λ x. refl) (λ x. refl)

  sound-next : SoundTables (with_applets (view c).tables next)
  sound-next =
      changed-sound (view c).tables n (with_event p on)
      (λ x. record { number = refl; priority = refl; limits = refl; made = refl; events = length-set x.events p on; poll = λ h. h }) (left-sound c left).tables

  events-differ : events_turn p was (switched_set was n on) c.selectable ≡ events_change (view c).tables (with_applets (view c).tables next)
  events-differ =
      event-by c left (with_applets (view c).tables next) sound-next (left-bounds c left) p (switched_set was n on) within
      (selectable-same ∙ sym (selectable-form c left)) own_is others-are

-- a registration in its two cases
by-owner : (t : Tables) (n p : ℕ) (on : Bool) → (p == call_control) ≡ true → with_registration t n p on ≡ with_control t (if on then n else forget n t.control)
unfolding with_registration
by-owner t n p on q = rw q refl

by-applet : (t : Tables) (n p : ℕ) (on : Bool) → (p == call_control) ≡ false → with_registration t n p on ≡ with_applets t (change (has_number n) (with_event p on) t.applets)
unfolding with_registration
by-applet t n p on q = rw q refl

-- SET AND CLEAR EVENT, by what the parts of the code say
module _
    (c : Card) (left : Left c) (n : ℕ) (v : ℤ) (on : Bool) {k : Kind} (kind : k ≡ kind_of v)
    {there : Bool} (found : there ≡ has? c.roll.present n)
    {r : ℕ} (refused : r ≡ turn_refusal there k c.control n on)
    {p : ℕ} (at_place : p ≡ place_of k)
  where
    abbrev call : EventCall
    call = registering on n v

    abbrev m : Model
    m = view c

    in_table : p < 20
    in_table = place-within v kind at_place

    refusal_is : r ≡ refusal m (event call)
    refusal_is = refused ∙ ap (λ (o : ℕ). turn_refusal there k o n on) (control-form c left) ∙ turn-refusal-is m n v on (found-by c left n found) kind

    plain : (b : Bool) → answer m (event (registering b n v)) ≡ accepted
    unfolding answer event_answer
    plain true = refl
    plain false = refl

    still : Still m (event call)
    unfolding desk_after round_after
    still = (refl, refl)

    -- the tables that an accepted call leaves
    registers : (b : Bool) → event_tables m.tables (registering b n v) ≡ register m.tables n (kind_of v) b
    unfolding event_tables
    registers true = refl
    registers false = refl

    accepted-tables : r ≡ 0 → tables_by m (event call) r ≡ with_registration m.tables n p on
    unfolding tables_after register
    accepted-tables z =
        let is : kind_of v ≡ Event p = sym kind ∙ (event-known there k _ (sym refused ∙ z)).1 ∙ ap Event (sym at_place) in
        ap (λ (j : ℕ). tables_by m (event call) j) z ∙ registers on ∙ ap (λ (j : Kind). register m.tables n j on) is

    is-here : r ≡ 0 → present m.tables n ≡ true
    is-here z = sym (found ∙ present-by c left n) ∙ (event-known there k _ (sym refused ∙ z)).0

    -- what the struct holds after the call, where the tables are u
    abbrev After : (set owner : ℕ) (due : Bool) → Tables → Type 0
    After g o due u = with_events c (set c.registered p g) o due ≡ stored (record { tables = u; desk = marked m.tables u m.desk; round = m.round })

    module _
        {g o : ℕ} {turns due : Bool}
        (sets : g ≡ set_after r p (get_or c.registered p 0) n on)
        (ev : turns ≡ events_turn p (get_or c.registered p 0) g c.selectable)
        (owns : o ≡ owner_after r p c.control n on)
        (marks : EventsMark c.desk turns due)
      where
        abbrev was' : ℕ
        was' = get_or c.registered p 0

        -- a set that stays
        sets-stay : g ≡ was' → set c.registered p g ≡ table 20 (registered_set m.tables.applets)
        sets-stay same = ap (set c.registered p) same ∙ set-held 0 c.registered p ∙ registered-form c left

        turns-none : g ≡ was' → turns ≡ false
        turns-none same = ev ∙ ap (λ (s : ℕ). events_turn p was' s c.selectable) same ∙ sym (unturned p was' c.selectable)

        when-refused : (r == 0) ≡ false → After g o due (tables_by m (event call) r)
        when-refused z =
            let same : g ≡ was' = sets ∙ rw z refl in
            let own : o ≡ c.control = owns ∙ rw z refl in
            let tables : tables_by m (event call) r ≡ m.tables = rw z refl in
            rw tables
            (events-card c left m.tables refl refl refl refl refl refl
            (sets-stay same) (own ∙ control-form c left) (subst (Turns m.tables m.tables false) (sym (turns-none same)) (nothing-turns m.tables)) marks)

        when-control : (r == 0) ≡ true → (p == call_control) ≡ true → After g o due (tables_by m (event call) r)
        when-control z q =
            let same : g ≡ was' = sets ∙ rw (z, q) refl in
            let own : o ≡ (if on then n else forget n c.control) = owns ∙ rw (z, q) refl in
            let u = with_control m.tables (if on then n else forget n m.tables.control) in
            let is : with_registration m.tables n p on ≡ u = by-owner m.tables n p on q in
            rw (accepted-tables (eqb-true r 0 z), is)
            (events-card c left u refl refl refl refl refl refl
            (sets-stay same) (own ∙ ap (λ (j : ℕ). if on then n else forget n j) (control-form c left))
            (subst (Turns m.tables u false) (control-events m.tables (if on then n else forget n m.tables.control) ∙ sym (turns-none same)) (rw is at (registration-turns-events m.tables n p on))) marks)

        when-event : (r == 0) ≡ true → (p == call_control) ≡ false → After g o due (tables_by m (event call) r)
        when-event z q =
            let turns-to : g ≡ switched_set was' n on = sets ∙ rw (z, q) refl in
            let own : o ≡ c.control = owns ∙ rw (z, q) refl in
            let u = with_applets m.tables (change (has_number n) (with_event p on) m.tables.applets) in
            let is : with_registration m.tables n p on ≡ u = by-applet m.tables n p on q in
            let here' : present m.tables n ≡ true = is-here (eqb-true r 0 z) in
            rw (accepted-tables (eqb-true r 0 z), is)
            (events-card c left u (roll-same c left n p on in_table here') (selectable-same c left n p on in_table here') (made-same c left n p on in_table here')
            (polls-same c left n p on in_table here') refl refl
            (ap (set c.registered p) turns-to ∙ sets-are c left n p on in_table here') (own ∙ control-form c left)
            (subst (Turns m.tables u false) (sym (ev ∙ ap (λ (s : ℕ). events_turn p was' s c.selectable) turns-to ∙ events-differ c left n p on in_table here')) (rw is at (registration-turns-events m.tables n p on))) marks)

        card-after : After g o due (tables_by m (event call) r)
        card-after = go (r == 0) (p == call_control) refl refl
          where
            go : (a b : Bool) → (r == 0) ≡ a → (p == call_control) ≡ b → After g o due (tables_by m (event call) r)
            go true true e f = when-control e f
            go true false e f = when-event e f
            go false b e f = when-refused e

        pub turns-event : {a : Answer} → a ≡ stored_answer (refused_with r)
            → ◌≡◌ {A = Reply} (record { card = with_events c (set c.registered p g) o due; answer = a }) (replied (step m (event call)))
        turns-event e =
            plain-reply m (event call) refusal_is (plain on) (card-after ∙ ap stored (sym (after-by m (event call) refusal_is still refl))) e
