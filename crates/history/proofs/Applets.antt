-- What an accepted call leaves of an applet that is looked up by its number.
-- Assumes nothing.
use Prim.Native.Nat.{ℕ}
use mathlib.Core.Path.{◌≡◌, refl, ap, ◌∙◌}
use mathlib.Core.Bool.{Bool, true, false}
use mathlib.Core.List.{List, [], ◌∷◌, ◌++◌, map}
use lib.ListN.{take}
use Rattle.std.specs.Prelude.{if◌then◌else◌, ◌==◌}
use Rattle.lists.specs.Lists.{Every, some?, first, change}
use Rattle.lists.proofs.Every.{every-so, every-keep, every_map}
use Rattle.lists.proofs.Order.{every-changes}
use Rattle.lists.proofs.Ifs.{if-holds}
use Rattle.lists.proofs.Owned.{every-there}
use Rattle.lists.proofs.Times.{if-same, if-map}
use Rattle.lists.proofs.Keyed.{first_more, first-change, keys-change}
use Rattle.rules.specs.declared.Kind.{Kind}
use Rattle.rules.specs.declared.Kind.TheVariants.{Event, Issuer, Reserved, Unsupported}
use Rattle.rules.specs.declared.Request.{Request}
use Rattle.rules.specs.Holds.{Applet, Tables, Round, Model, with_applets, with_control, with_event, with_one_more, with_poll}
use Rattle.rules.specs.Events.{call_control, handler_available, kind_of}
use Rattle.rules.specs.Applets.{has_number, nobody, present, applet, newcomer, forget, register, with_registration, seconds_of}
use Rattle.rules.specs.Calls.{event, entry, EventCall, set_event, clear_event, ask_event, request_poll, EntryCall, new_entry, change_entry, enable_entry, disable_entry}
use Rattle.rules.specs.Rounds.{turns, named, by_settled, used_up}
use Rattle.rules.specs.Step.{event_tables, entry_tables}
use Rattle.rules.specs.Refusals.{event_lines, lines, refusal}
use Rattle.rules.proofs.Listed.{every-in_order}
use Rattle.runs.proofs.Accepted.{accepted as none-holds}
use Rattle.runs.proofs.Filled.{is-here, new-entry}
use Rattle.history.proofs.Agree.{number_of}

-- the applets with one more, with one gone, with one changed, with each changed
pub with-more : (t : Tables) (m : ℕ) (r : Request) (n : ℕ) → present t m ≡ false
    → applet (with_applets t (t.applets ++ newcomer m r ∷ [])) n ≡ (if m == n then newcomer m r else applet t n)
unfolding applet present newcomer
with-more t m r n h = first_more number_of nobody n t.applets (newcomer m r) h

module _ (l : List Applet) (f : Applet → Applet) (same : (x : Applet) → (f x).number ≡ x.number) where
  pub with-changed : (m n : ℕ) → some? (has_number m) l ≡ true
      → first (has_number n) nobody (change (has_number m) f l) ≡ (if m == n then f (first (has_number n) nobody l) else first (has_number n) nobody l)
  with-changed m n h = first-change number_of nobody f same n m l h

  -- what f leaves, the change leaves
  pub with-kept : {B : Type 0} (g : Applet → B) → ((x : Applet) → g (f x) ≡ g x) → (m n : ℕ) → some? (has_number m) l ≡ true
      → g (first (has_number n) nobody (change (has_number m) f l)) ≡ g (first (has_number n) nobody l)
  with-kept g k m n h =
      ap g (with-changed m n h)
      ∙ if-map g (m == n) (f (first (has_number n) nobody l)) (first (has_number n) nobody l)
      ∙ ap (λ x. if m == n then x else g (first (has_number n) nobody l)) (k (first (has_number n) nobody l))
      ∙ if-same (m == n) (g (first (has_number n) nobody l))

-- The calls on registrations, and on requests for polling.
pub registered-kept : {B : Type 0} (g : Applet → B) → ((e : ℕ) (b : Bool) (x : Applet) → g (with_event e b x) ≡ g x)
    → (t : Tables) (m n : ℕ) (k : Kind) (b : Bool) → present t m ≡ true → g (applet (register t m k b) n) ≡ g (applet t n)
unfolding register with_registration applet present
registered-kept g w t m n (Event e) b h = go (e == call_control)
  where
    go : (c : Bool)
        → g (first (has_number n) nobody (if c then with_control t (if b then m else forget m t.control) else with_applets t (change (has_number m) (with_event e b) t.applets)).applets) ≡ g (first (has_number n) nobody t.applets)
    go true = refl
    go false = with-kept t.applets (with_event e b) (λ x. refl) g (w e b) m n h
registered-kept g w t m n Issuer b h = refl
registered-kept g w t m n Reserved b h = refl
registered-kept g w t m n Unsupported b h = refl

pub event-kept : {B : Type 0} (g : Applet → B) → ((e : ℕ) (b : Bool) (x : Applet) → g (with_event e b x) ≡ g x)
    → ((s : ℕ) (x : Applet) → g (with_poll s x) ≡ g x) → (m : Model) (n : ℕ) (c : EventCall) → refusal m (event c) ≡ 0
    → g (applet (event_tables m.tables c) n) ≡ g (applet m.tables n)
unfolding event_tables event_lines lines Every applet present
event-kept g w p m n (set_event b v) ok = registered-kept g w m.tables b n (kind_of v) true (is-here m.tables b (none-holds m (event (set_event b v)) ok).0)
event-kept g w p m n (clear_event b v) ok = registered-kept g w m.tables b n (kind_of v) false (is-here m.tables b (none-holds m (event (clear_event b v)) ok).0)
event-kept g w p m n (ask_event b v) ok = refl
event-kept g w p m n (request_poll b d) ok = with-kept m.tables.applets (with_poll (seconds_of d)) (λ x. refl) g (p (seconds_of d)) b n (is-here m.tables b (none-holds m (event (request_poll b d)) ok).0)

-- The calls on menu entries.
pub entry_kept : {B : Type 0} (g : Applet → B) → ((x : Applet) → g (with_one_more x) ≡ g x) → (m : Model) (n : ℕ) (c : EntryCall)
    → refusal m (entry c) ≡ 0 → g (applet (entry_tables m.tables c) n) ≡ g (applet m.tables n)
unfolding entry_tables applet present
entry_kept g w m n (new_entry b help text) ok = with-kept m.tables.applets with_one_more (λ x. refl) g w b n (new-entry m b help text ok).here
entry_kept g w m n (change_entry b i help text) ok = refl
entry_kept g w m n (enable_entry b i) ok = refl
entry_kept g w m n (disable_entry b i) ok = refl

-- What holds of each applet, and that a registration, a request or an entry leaves, still does.
module _ (P : Applet → Type 0) where
  pub registered-each : ((e : ℕ) (b : Bool) (x : Applet) → P x → P (with_event e b x)) → (t : Tables) (m : ℕ) (k : Kind) (b : Bool)
      → Every P t.applets → Every P (register t m k b).applets
  unfolding register with_registration
  registered-each w t m (Event e) b i = go (e == call_control)
    where
      go : (c : Bool)
          → Every P (if c then with_control t (if b then m else forget m t.control) else with_applets t (change (has_number m) (with_event e b) t.applets)).applets
      go true = i
      go false = every-changes P (has_number m) (with_event e b) (w e b) t.applets i
  registered-each w t m Issuer b i = i
  registered-each w t m Reserved b i = i
  registered-each w t m Unsupported b i = i

  pub event-each : ((e : ℕ) (b : Bool) (x : Applet) → P x → P (with_event e b x)) → ((s : ℕ) (x : Applet) → P x → P (with_poll s x))
      → (t : Tables) (c : EventCall) → Every P t.applets → Every P (event_tables t c).applets
  unfolding event_tables
  event-each w p t (set_event m v) i = registered-each w t m (kind_of v) true i
  event-each w p t (clear_event m v) i = registered-each w t m (kind_of v) false i
  event-each w p t (ask_event m v) i = i
  event-each w p t (request_poll m d) i = every-changes P (has_number m) (with_poll (seconds_of d)) (p (seconds_of d)) t.applets i

  pub entry-each : ((x : Applet) → P x → P (with_one_more x)) → (t : Tables) (c : EntryCall) → Every P t.applets
      → Every P (entry_tables t c).applets
  unfolding entry_tables
  entry-each w t (new_entry m help text) i = every-changes P (has_number m) with_one_more w t.applets i
  entry-each w t (change_entry m j help text) i = i
  entry-each w t (enable_entry m j) i = i
  entry-each w t (disable_entry m j) i = i

-- The numbers, where none is installed or deleted.
pub registered-numbers : (t : Tables) (m : ℕ) (k : Kind) (b : Bool)
    → map number_of (register t m k b).applets ≡ map number_of t.applets
unfolding register with_registration
registered-numbers t m (Event e) b = go (e == call_control)
  where
    go : (c : Bool)
        → map number_of (if c then with_control t (if b then m else forget m t.control) else with_applets t (change (has_number m) (with_event e b) t.applets)).applets ≡ map number_of t.applets
    go true = refl
    go false = keys-change number_of nobody (with_event e b) (λ x. refl) (has_number m) t.applets
registered-numbers t m Issuer b = refl
registered-numbers t m Reserved b = refl
registered-numbers t m Unsupported b = refl

pub event-numbers : (t : Tables) (c : EventCall) → map number_of (event_tables t c).applets ≡ map number_of t.applets
unfolding event_tables
event-numbers t (set_event m v) = registered-numbers t m (kind_of v) true
event-numbers t (clear_event m v) = registered-numbers t m (kind_of v) false
event-numbers t (ask_event m v) = refl
event-numbers t (request_poll m d) = keys-change number_of nobody (with_poll (seconds_of d)) (λ x. refl) (has_number m) t.applets

pub entry-numbers : (t : Tables) (c : EntryCall) → map number_of (entry_tables t c).applets ≡ map number_of t.applets
unfolding entry_tables
entry-numbers t (new_entry m help text) = keys-change number_of nobody with_one_more (λ x. refl) (has_number m) t.applets
entry-numbers t (change_entry m i help text) = refl
entry-numbers t (enable_entry m i) = refl
entry-numbers t (disable_entry m i) = refl

-- Those whose turn is to come are there.
pub turns-there : (t : Tables) (r : Round) → Every (λ n. present t n ≡ true) (turns t r)
unfolding turns present
turns-there t r =
    every_map (λ n. some? (has_number n) t.applets ≡ true) number_of _
    (every-in_order _ _ (every-so _ _ (λ x q. q.0) _ (every-keep _ _ t.applets (every-there number_of t.applets))))

-- A turn leaves the tables as they are, or clears the one-shot of one that is there.
pub at_turn : (P : Tables → Type 0) (t : Tables) (r : Round) → P t → ((n : ℕ) → present t n ≡ true → P (register t n (Event handler_available) false))
    → P (used_up r.arrived (named t r) t)
unfolding named used_up register
at_turn P t r stays cleared = go (turns t r) (turns-there t r)
  where
    go : (l : List ℕ) → Every (λ n. present t n ≡ true) l → P (used_up r.arrived (take 1 l) t)
    go [] e = stays
    go (n ∷ l) e = unfold Every in if-holds P (by_settled r.arrived) (λ h. cleared n e.0) (λ h. stays)

-- The rows and the timers, where applets only register and request, or get a turn.
module _ {B : Type 0} (g : Tables → B) (a : (t : Tables) (l : List Applet) → g (with_applets t l) ≡ g t) (c : (t : Tables) (o : ℕ) → g (with_control t o) ≡ g t) where
  registered-same : (t : Tables) (m : ℕ) (k : Kind) (b : Bool) → g (register t m k b) ≡ g t
  unfolding register with_registration
  registered-same t m (Event e) b = go (e == call_control)
    where
      go : (x : Bool)
          → g (if x then with_control t (if b then m else forget m t.control) else with_applets t (change (has_number m) (with_event e b) t.applets)) ≡ g t
      go true = c t _
      go false = a t _
  registered-same t m Issuer b = refl
  registered-same t m Reserved b = refl
  registered-same t m Unsupported b = refl

  pub event-same : (t : Tables) (c : EventCall) → g (event_tables t c) ≡ g t
  unfolding event_tables
  event-same t (set_event m v) = registered-same t m (kind_of v) true
  event-same t (clear_event m v) = registered-same t m (kind_of v) false
  event-same t (ask_event m v) = refl
  event-same t (request_poll m d) = a t _

  turn-same : (t : Tables) (r : Round) → g (used_up r.arrived (named t r) t) ≡ g t
  turn-same t r = at_turn (λ u. g u ≡ g t) t r refl (λ n there. registered-same t n (Event handler_available) false)

pub event-timers : (t : Tables) (c : EventCall) → (event_tables t c).timers ≡ t.timers
event-timers t c = event-same (λ t. t.timers) (λ t l. refl) (λ t o. refl) t c

pub event-rows : (t : Tables) (c : EventCall) → (event_tables t c).rows ≡ t.rows
event-rows t c = event-same (λ t. t.rows) (λ t l. refl) (λ t o. refl) t c

pub turn-timers : (t : Tables) (r : Round) → (used_up r.arrived (named t r) t).timers ≡ t.timers
turn-timers t r = turn-same (λ t. t.timers) (λ t l. refl) (λ t o. refl) t r

pub turn-rows : (t : Tables) (r : Round) → (used_up r.arrived (named t r) t).rows ≡ t.rows
turn-rows t r = turn-same (λ t. t.rows) (λ t l. refl) (λ t o. refl) t r
