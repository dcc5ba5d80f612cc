-- NO REGISTRATION CALL LOOKS AT THE LOCK (000, 6.3): with an applet locked or unlocked, a call about events, polling, menu entries or
-- timers answers the same, and does the same to the tables. Of every card. Assumes nothing.
use Prim.Native.Nat.{ℕ, zero, suc}
use mathlib.Core.Path.{◌≡◌, refl, ap, ap₂, ◌∙◌}
use mathlib.Core.Bool.{Bool, true, false, not, ◌||◌}
use mathlib.Core.List.{List, [], ◌∷◌}
use lib.ListN.{get_or}
use Rattle.std.specs.Prelude.{if◌then◌else◌, ◌==◌}
use Rattle.lists.specs.Lists.{change}
use Rattle.lists.proofs.Decided.{clashing}
use Rattle.lists.proofs.Matched.{Matched, matched-change, matched-some, matched-first}
use Rattle.rules.specs.declared.Kind.{Kind}
use Rattle.rules.specs.declared.Kind.TheVariants.{Event, Issuer, Reserved, Unsupported}
use Rattle.rules.specs.Holds.{Applet, Tables, Model, with_applets, with_rows, with_control, with_selectable, with_event, with_one_more, with_poll}
use Rattle.rules.specs.Events.{call_control, kind_of}
use Rattle.rules.specs.Applets.{is_number, has_number, present, nobody, applet, registered, is_registered, owned_by_another, forget, with_registration, register, seconds_of}
use Rattle.rules.specs.Rows.{next_pair, next_identifier, all_made, not_its_row, bad_text, with_entry}
use Rattle.rules.specs.Timers.{at_limit, none_free}
use Rattle.rules.specs.Calls.{saying, numbered, Call, admin, event, entry, timer, arrival, next, proactive, system_command, EventCall, set_event, clear_event, ask_event, request_poll, EntryCall, new_entry, change_entry, enable_entry, disable_entry, TimerCall, allocate, release}
use Rattle.rules.specs.Refusals.{line, first_holding, absent, event_lines, entry_lines, timer_lines, lines, refusal}
use Rattle.rules.specs.Step.{event_tables, entry_tables, timer_tables, tables_after, changed, event_answer, entry_answer, timer_answer, answer, outcome, step}

-- the registration calls: those about events and polling, menu entries and timers
unfoldable pub registers? : Call → Bool
registers? (admin c) = false
registers? (event c) = true
registers? (entry c) = true
registers? (timer c) = true
registers? (arrival c) = false
registers? next = false
registers? (proactive c) = false
registers? (system_command buffer) = false

-- two changes that do not see each other, in either order
change-swap : {A : Type 0} (p q : A → Bool) (f g : A → A) → ((x : A) → p (g x) ≡ p x) → ((x : A) → q (f x) ≡ q x) → ((x : A) → f (g x) ≡ g (f x))
    → (l : List A) → change p f (change q g l) ≡ change q g (change p f l)
unfolding change
change-swap p q f g pg qf fg [] = refl
change-swap {A} p q f g pg qf fg (x ∷ l) = go (p x) refl (q x) refl (change-swap p q f g pg qf fg l)
  where
    go : (a : Bool) → p x ≡ a → (b : Bool) → q x ≡ b → change p f (change q g l) ≡ change q g (change p f l)
        → change p f (if b then g x ∷ l else x ∷ change q g l) ≡ change q g (if a then f x ∷ l else x ∷ change p f l)
    go true d true e r = rw (pg x, qf x, d, e) (ap (λ (y : A). y ∷ l) (fg x))
    go true d false e r = rw (qf x, d, e) refl
    go false d true e r = rw (pg x, d, e) refl
    go false d false e r = rw (d, e) (ap (λ (k : List A). x ∷ k) r)

module _ (k : ℕ) (b : Bool) where
  -- the tables, and the card, with applet k locked (b is false) or unlocked
  abbrev pub with_lock : Tables → Tables
  with_lock t = with_applets t (change (has_number k) (with_selectable b) t.applets)

  abbrev pub relocked : Model → Model
  relocked m = record { tables = with_lock m.tables; desk = m.desk; round = m.round }

  -- y is x but for the lock
  abbrev But : Applet → Applet → Type 0
  But x y = y ≡ with_selectable y.selectable x

  module _ (t : Tables) where
    matched : Matched But t.applets (with_lock t).applets
    matched = matched-change But (has_number k) (with_selectable b) nobody (λ x. refl) t.applets refl

    there : (n : ℕ) → present (with_lock t) n ≡ present t n
    unfolding present
    there n = matched-some But (has_number n) (λ x y q. ap (has_number n) q) t.applets (with_lock t).applets matched

    same-but : (n : ℕ) → But (applet t n) (applet (with_lock t) n)
    unfolding applet
    same-but n = matched-first But (has_number n) (λ x y q. ap (has_number n) q) nobody refl t.applets (with_lock t).applets matched

    -- the lines of the refusal table
    event-lines : (c : EventCall) → event_lines (with_lock t) c ≡ event_lines t c
    unfolding event_lines absent owned_by_another
    event-lines (set_event n v) = rw (there n) refl
    event-lines (clear_event n v) = rw (there n) refl
    event-lines (ask_event n v) = rw (there n) refl
    event-lines (request_poll n d) = rw (there n) refl

    entry-lines : (c : EntryCall) → entry_lines (with_lock t) c ≡ entry_lines t c
    unfolding entry_lines absent all_made bad_text
    entry-lines (new_entry n help text) = ap₂ (λ (h : Bool) (x : Applet). line 2 (not (is_number t.bounds n) || not h) ∷ line 10 (all_made x) ∷ line 12 (bad_text x text) ∷ []) (there n) (same-but n)
    entry-lines (change_entry n i help text) = ap₂ (λ (h : Bool) (x : Applet). line 2 (not (is_number t.bounds n) || not h) ∷ line 11 (not_its_row n i t.rows) ∷ line 12 (bad_text x text) ∷ []) (there n) (same-but n)
    entry-lines (enable_entry n i) = rw (there n) refl
    entry-lines (disable_entry n i) = rw (there n) refl

    timer-lines : (c : TimerCall) → timer_lines (with_lock t) c ≡ timer_lines t c
    unfolding timer_lines absent
    timer-lines (allocate n) = ap₂ (λ (h : Bool) (x : Applet). line 2 (not (is_number t.bounds n) || not h) ∷ line 13 (at_limit t.timers n x.limits.timers) ∷ line 14 (none_free t.timers) ∷ []) (there n) (same-but n)
    timer-lines (release n i) = rw (there n) refl

    -- the tables afterwards
    register-tables : (n : ℕ) (x : Kind) (v : Bool) → register (with_lock t) n x v ≡ with_lock (register t n x v)
    unfolding register with_registration
    register-tables n (Event e) v = go (e == call_control)
      where
        go : (c : Bool)
            → (if c then with_control (with_lock t) (if v then n else forget n t.control) else with_applets (with_lock t) (change (has_number n) (with_event e v) (with_lock t).applets))
            ≡ with_lock (if c then with_control t (if v then n else forget n t.control) else with_applets t (change (has_number n) (with_event e v) t.applets))
        go true = refl
        go false = ap (with_applets t) (change-swap (has_number n) (has_number k) (with_event e v) (with_selectable b) (λ x. refl) (λ x. refl) (λ x. refl) t.applets)
    register-tables n Issuer v = refl
    register-tables n Reserved v = refl
    register-tables n Unsupported v = refl

    event-tables : (c : EventCall) → event_tables (with_lock t) c ≡ with_lock (event_tables t c)
    unfolding event_tables
    event-tables (set_event n v) = register-tables n (kind_of v) true
    event-tables (clear_event n v) = register-tables n (kind_of v) false
    event-tables (ask_event n v) = refl
    event-tables (request_poll n d) = ap (with_applets t) (change-swap (has_number n) (has_number k) (with_poll (seconds_of d)) (with_selectable b) (λ x. refl) (λ x. refl) (λ x. refl) t.applets)

    entry-tables : (c : EntryCall) → entry_tables (with_lock t) c ≡ with_lock (entry_tables t c)
    unfolding entry_tables with_entry next_pair next_identifier
    entry-tables (new_entry n help text) =
        ap₂ (λ (x : Applet) (l : List Applet). with_applets (with_rows t (with_entry x help text t.rows)) l) (same-but n)
        (change-swap (has_number n) (has_number k) with_one_more (with_selectable b) (λ x. refl) (λ x. refl) (λ x. refl) t.applets)
    entry-tables (change_entry n i help text) = refl
    entry-tables (enable_entry n i) = refl
    entry-tables (disable_entry n i) = refl

    timer-tables : (c : TimerCall) → timer_tables (with_lock t) c ≡ with_lock (timer_tables t c)
    unfolding timer_tables
    timer-tables (allocate n) = refl
    timer-tables (release n i) = refl

    -- the answers
    event-answer : (c : EventCall) → event_answer (with_lock t) c ≡ event_answer t c
    unfolding event_answer is_registered registered
    event-answer (set_event n v) = refl
    event-answer (clear_event n v) = refl
    event-answer (ask_event n v) = ap saying (told (kind_of v))
      where
        told : (x : Kind) → is_registered (with_lock t) n x ≡ is_registered t n x
        told (Event e) = ap (λ (y : Applet). if e == call_control then t.control == y.number else get_or y.events e false) (same-but n)
        told Issuer = refl
        told Reserved = refl
        told Unsupported = refl
    event-answer (request_poll n d) = refl

    entry-answer : (c : EntryCall) → entry_answer (with_lock t) c ≡ entry_answer t c
    unfolding entry_answer next_identifier next_pair
    entry-answer (new_entry n help text) = ap (λ (x : Applet). numbered (next_identifier x t.rows)) (same-but n)
    entry-answer (change_entry n i help text) = refl
    entry-answer (enable_entry n i) = refl
    entry-answer (disable_entry n i) = refl

    timer-answer : (c : TimerCall) → timer_answer (with_lock t) c ≡ timer_answer t c
    unfolding timer_answer
    timer-answer (allocate n) = refl
    timer-answer (release n i) = refl

  -- a call sees no lock: in its lines of the refusal table, its answer, and what it does to the tables
  record Unseen (m : Model) (c : Call) : Type 0 where
    lined : lines (relocked m) c ≡ lines m c
    answered : answer (relocked m) c ≡ answer m c
    tabled : tables_after (relocked m) c ≡ with_lock (tables_after m c)

  unseen : (m : Model) (c : Call) → registers? c ≡ true → Unseen m c
  unfolding registers? lines answer tables_after
  unseen m (admin c) e = clashing e refl
  unseen m (event c) e = record { lined = event-lines m.tables c; answered = event-answer m.tables c; tabled = event-tables m.tables c }
  unseen m (entry c) e = record { lined = entry-lines m.tables c; answered = entry-answer m.tables c; tabled = entry-tables m.tables c }
  unseen m (timer c) e = record { lined = timer-lines m.tables c; answered = timer-answer m.tables c; tabled = timer-tables m.tables c }
  unseen m (arrival c) e = clashing e refl
  unseen m next e = clashing e refl
  unseen m (proactive c) e = clashing e refl
  unseen m (system_command buffer) e = clashing e refl

  module _ (m : Model) (c : Call) (e : registers? c ≡ true) where
    -- THE ANSWER, its refusal included, is the same with applet k locked or unlocked ..
    pub lock-unseen-in-the-answer : (step (relocked m) c).answer ≡ (step m c).answer
    unfolding step outcome refusal
    lock-unseen-in-the-answer = ap (λ l. (outcome (first_holding l) (relocked m) c).answer) (unseen m c e).lined ∙ go (first_holding (lines m c))
      where
        go : (i : ℕ) → (outcome i (relocked m) c).answer ≡ (outcome i m c).answer
        go zero = (unseen m c e).answered
        go (suc i) = refl

    -- .. and so is what the call does to the tables.
    pub lock-unseen-in-the-tables : (step (relocked m) c).after.tables ≡ with_lock (step m c).after.tables
    unfolding step outcome refusal changed
    lock-unseen-in-the-tables = ap (λ l. (outcome (first_holding l) (relocked m) c).after.tables) (unseen m c e).lined ∙ go (first_holding (lines m c))
      where
        go : (i : ℕ) → (outcome i (relocked m) c).after.tables ≡ with_lock (outcome i m c).after.tables
        go zero = (unseen m c e).tabled
        go (suc i) = refl
