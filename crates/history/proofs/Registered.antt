-- Registrations: each event that is kept applet by applet, the one-shot among them, and call control; and requests for polling.
-- Assumes nothing.
use Prim.Native.Nat.{ℕ, ◌≤◌, ◌<◌}
use native.Mathlib.Omega.{arith}
use mathlib.Core.Path.{◌≡◌, refl, sym, ap, ◌∙◌}
use mathlib.Core.Bool.{Bool, true, false, not, ◌&&◌}
use mathlib.Core.List.{List, [], ◌∷◌}
use lib.IntN.{ℤ}
use lib.Signed.{lt_z}
use lib.ListN.{length, get_or, take}
use borrow.Author.Tests.{eqb-true, eqb-false, ne_eqb}
use Rattle.std.specs.Prelude.{if◌then◌else◌, ◌==◌}
use Rattle.lists.specs.Lists.{Every, some?, first, change, in?}
use Rattle.lists.proofs.Decided.{clashing, turned}
use Rattle.lists.proofs.Truth.{and-false, and-true, or-false}
use Rattle.lists.proofs.Times.{if-map}
use Rattle.lists.proofs.Places.{get_d_set, get_or-blank}
use Rattle.lists.proofs.Keyed.{first-less}
use Rattle.rules.specs.declared.Kind.{Kind}
use Rattle.rules.specs.declared.Kind.TheVariants.{Event, Issuer, Reserved, Unsupported}
use Rattle.rules.specs.Holds.{Applet, Tables, Round, Model, with_applets, with_control, with_event, with_selectable, with_poll}
use Rattle.rules.specs.Events.{call_control, handler_available, minus, supported, has_value, kind_of, is_control}
use Rattle.rules.specs.Events as events
use Rattle.rules.specs.Applets.{has_number, nobody, present, applet, newcomer, forget, owned_by_another, register, with_registration, seconds_of}
use Rattle.rules.specs.Calls.{Call, admin, event, entry, timer, arrival, next, proactive, system_command, install, delete, lock, unlock, set_event, clear_event, ask_event, request_poll, new_entry, change_entry, enable_entry, disable_entry, allocate, release}
use Rattle.rules.specs.Refusals.{admin_lines, event_lines, lines, refusal}
use Rattle.rules.specs.Rounds.{turns, named, by_settled, used_up}
use Rattle.rules.specs.Step.{admin_tables, event_tables, entry_tables, timer_tables, tables_after, answer}
use Rattle.runs.specs.Sound.{SoundTables}
use Rattle.runs.proofs.Accepted.{accepted as none-holds}
use Rattle.runs.proofs.Filled.{is-here}
use Rattle.runs.proofs.Filled as filled
use Rattle.runs.proofs.Looked.{sound-applet, absent-nobody}
use Rattle.history.specs.Histories.{did, History}
use Rattle.history.specs.Deeds.{is_event}
use Rattle.history.specs.Named.{settled_opened, uses_up, is_registered, poll_of}
use Rattle.history.proofs.Open.{reading}
use Rattle.history.proofs.Agree.{number_of, AgreeTables, AgreeRound, Ground, Kept}
use Rattle.history.proofs.Applets.{with-more, with-changed, with-kept, registered-kept, entry_kept, turns-there, at_turn}
use Rattle.history.proofs.Present.{or-none}
use Rattle.history.proofs.Settled.{named-below, by-settled}
use Rattle.history.proofs.RoundNamed.{is_open_lem}

-- a mark that the entry does not set stays
nothing-marked : (b v y : Bool) → y ≡ (if b && false then v else y)
nothing-marked true v y = refl
nothing-marked false v y = refl

-- The events of document 01 have places below 20, and so has what an applet keeps.
below : (v : ℤ) (f : ℕ) → kind_of v ≡ Event f → f < 20
unfolding kind_of
below v f q = go (lt_z v (minus 128)) (lt_z v (minus 64)) q
  where
    go : (a b : Bool) → (if a then Reserved else if b then Issuer else events.named (has_value v) 0 supported) ≡ Event f → f < 20
    go true b r = let z : ◌≡◌ {A = ℕ} 0 1 = cc in absurd (omega arith)
    go false true r = let z : ◌≡◌ {A = ℕ} 0 1 = cc in absurd (omega arith)
    go false false r = omega (arith, named-below (has_value v) 0 supported f r)

twenty : (t : Tables) → SoundTables t → (n : ℕ) → length (applet t n).events ≡ 20
twenty t s n = go (present t n) refl
  where
    go : (b : Bool) → present t n ≡ b → length (applet t n).events ≡ 20
    go true q = (sound-applet t s n q).events
    go false q = ap (λ (x : Applet). length x.events) (absent-nobody t n q)

-- a registration that is set, or cleared, for what a value names
marked : (b c v y : Bool) → (if b then (if c then v else y) else y) ≡ (if b && c then v else y)
marked true c v y = refl
marked false c v y = refl

register-seen : (t : Tables) → ((n : ℕ) → length (applet t n).events ≡ 20) → (m n e : ℕ) (k : Kind) (v : Bool) → present t m ≡ true
    → ((f : ℕ) → k ≡ Event f → f < 20) → (e == call_control) ≡ false
    → get_or (applet (register t m k v) n).events e false ≡ (if m == n && is_event e k then v else get_or (applet t n).events e false)
unfolding register with_registration applet present is_event
register-seen t l m n e (Event f) v h b q = go (f == call_control) refl
  where
    events : List Bool
    events = (first (has_number n) nobody t.applets).events

    control : (f == call_control) ≡ true → (f == e) ≡ false
    control r = ne_eqb f e (λ z. eqb-false e call_control q (sym z ∙ eqb-true f call_control r))

    go : (c : Bool) → (f == call_control) ≡ c
        → get_or (first (has_number n) nobody (if c then with_control t (if v then m else forget m t.control) else with_applets t (change (has_number m) (with_event f v) t.applets)).applets).events e false ≡ (if m == n && f == e then v else get_or events e false)
    go true r = rw (control r) (nothing-marked (m == n) v (get_or events e false))
    go false r =
        ap (λ (x : Applet). get_or x.events e false) (with-changed t.applets (with_event f v) (λ x. refl) m n h)
        ∙ if-map (λ (x : Applet). get_or x.events e false) (m == n) _ (first (has_number n) nobody t.applets)
        ∙ ap (λ (x : Bool). if m == n then x else get_or events e false) (get_d_set false events f e v (omega (arith, l n, b f refl)))
        ∙ marked (m == n) (f == e) v (get_or events e false)
register-seen t l m n e Issuer v h b q = nothing-marked (m == n) v (get_or (first (has_number n) nobody t.applets).events e false)
register-seen t l m n e Reserved v h b q = nothing-marked (m == n) v (get_or (first (has_number n) nobody t.applets).events e false)
register-seen t l m n e Unsupported v h b q = nothing-marked (m == n) v (get_or (first (has_number n) nobody t.applets).events e false)

-- the one-shot of the one named is used up in a round that settled opened
turn-seen : (t : Tables) → SoundTables t → (r : Round) (h : History) → by_settled r.arrived ≡ settled_opened h → (n e : ℕ) → (e == call_control) ≡ false
    → get_or (applet (used_up r.arrived (named t r) t) n).events e false
    ≡ (if in? n (named t r) && (e == handler_available && settled_opened h) then false else get_or (applet t n).events e false)
unfolding named
turn-seen t s r h k n e q = go (turns t r) (turns-there t r)
  where
    go : (l : List ℕ) → Every (λ n. present t n ≡ true) l
        → get_or (applet (used_up r.arrived (take 1 l) t) n).events e false
        ≡ (if in? n (take 1 l) && (e == handler_available && settled_opened h) then false else get_or (applet t n).events e false)
    go [] there = unfold used_up in? some? in refl
    go (m ∷ l) there = unfold used_up in? some? in rw (k, or-false (m == n)) (at (settled_opened h))
      where
        at : (b : Bool)
            → get_or (applet (if b then with_registration t m handler_available false else t) n).events e false
            ≡ (if m == n && (e == handler_available && b) then false else get_or (applet t n).events e false)
        at true =
            unfold register is_event Every in
            register-seen t (twenty t s) m n e (Event handler_available) false there.0 (λ f z. let w : handler_available ≡ f = cc in omega arith) q
            ∙ rw (turned handler_available e, and-true (e == handler_available)) refl
        at false = rw (and-false (e == handler_available), and-false (m == n)) refl

pub events-kept : (m : Model) (h : History) → AgreeRound m.round h → (c : Call) → refusal m c ≡ 0 → Ground m → AgreeTables m.tables h
    → (n e : ℕ) → (e == call_control) ≡ false → get_or (applet (tables_after m c) n).events e false ≡ is_registered n e (did c (answer m c) ∷ h)
unfolding tables_after admin_tables event_tables timer_tables applet present newcomer admin_lines event_lines lines answer Every is_registered uses_up reading
events-kept m h o (admin (install b r)) ok s g n e q =
    ap (λ (x : Applet). get_or x.events e false) (with-more m.tables b r n (filled.installs m b r ok).new)
    ∙ if-map (λ (x : Applet). get_or x.events e false) (b == n) (newcomer b r) (applet m.tables n)
    ∙ go (b == n) refl
    ∙ g.events n e q
  where
    go : (c : Bool) → (b == n) ≡ c
        → (if c then get_or nobody.events e false else get_or (applet m.tables n).events e false) ≡ get_or (applet m.tables n).events e false
    go true z = ap (λ (x : Applet). get_or x.events e false) (sym (absent-nobody m.tables n (rw (eqb-true b n z) at (filled.installs m b r ok).new)))
    go false z = refl
events-kept m h o (admin (delete b)) ok s g n e q =
    ap (λ (x : Applet). get_or x.events e false) (first-less number_of nobody n b m.tables.applets)
    ∙ if-map (λ (x : Applet). get_or x.events e false) (b == n) nobody (applet m.tables n)
    ∙ ap (λ (x : Bool). if b == n then x else get_or (applet m.tables n).events e false) (get_or-blank false 20 e)
    ∙ ap (λ (x : Bool). if b == n then false else x) (g.events n e q)
events-kept m h o (admin (lock b)) ok s g n e q =
    with-kept m.tables.applets (with_selectable false) (λ x. refl) (λ (x : Applet). get_or x.events e false) (λ x. refl) b n (is-here m.tables b (none-holds m (admin (lock b)) ok).0)
    ∙ g.events n e q
events-kept m h o (admin (unlock b)) ok s g n e q =
    with-kept m.tables.applets (with_selectable true) (λ x. refl) (λ (x : Applet). get_or x.events e false) (λ x. refl) b n (is-here m.tables b (none-holds m (admin (unlock b)) ok).0)
    ∙ g.events n e q
events-kept m h o (event (set_event b v)) ok s g n e q =
    register-seen m.tables (twenty m.tables s.sound.tables) b n e (kind_of v) true (is-here m.tables b (none-holds m (event (set_event b v)) ok).0) (below v) q
    ∙ ap (λ (x : Bool). if b == n && is_event e (kind_of v) then true else x) (g.events n e q)
events-kept m h o (event (clear_event b v)) ok s g n e q =
    register-seen m.tables (twenty m.tables s.sound.tables) b n e (kind_of v) false (is-here m.tables b (none-holds m (event (clear_event b v)) ok).0) (below v) q
    ∙ ap (λ (x : Bool). if b == n && is_event e (kind_of v) then false else x) (g.events n e q)
    ∙ sym (or-none (b == n && is_event e (kind_of v)) false (is_registered n e h))
events-kept m h o (event (ask_event b v)) ok s g n e q = g.events n e q
events-kept m h o (event (request_poll b d)) ok s g n e q =
    with-kept m.tables.applets (with_poll (seconds_of d)) (λ x. refl) (λ (x : Applet). get_or x.events e false) (λ x. refl) b n (is-here m.tables b (none-holds m (event (request_poll b d)) ok).0)
    ∙ g.events n e q
events-kept m h o (entry c) ok s g n e q =
    entry_kept (λ (x : Applet). get_or x.events e false) (λ x. refl) m n c ok
    ∙ g.events n e q
events-kept m h o (timer (allocate b)) ok s g n e q = g.events n e q
events-kept m h o (timer (release b k)) ok s g n e q = g.events n e q
events-kept m h o (arrival c) ok s g n e q = g.events n e q
events-kept m h o next ok s g n e q =
    let k : by_settled m.round.arrived ≡ settled_opened h = ap by_settled (o.arrival (is_open_lem m ok)) ∙ by-settled h in
    turn-seen m.tables s.sound.tables m.round h k n e q
    ∙ rw (g.events n e q) refl
events-kept m h o (proactive c) ok s g n e q = g.events n e q
events-kept m h o (system_command buffer) ok s g n e q = g.events n e q

-- Call control. What was b's is nobody's.
pub forgotten : (o b n : ℕ) → 1 ≤ n → (forget b o == n) ≡ (if b == n then false else o == n)
forgotten o b n k = go (o == b) (b == n) refl refl
  where
    nobody-not : (0 == n) ≡ false
    nobody-not = ne_eqb 0 n (λ z. absurd (omega arith))

    go : (x y : Bool) → (o == b) ≡ x → (b == n) ≡ y → ((if x then 0 else o) == n) ≡ (if y then false else o == n)
    go true true p q = nobody-not
    go true false p q = nobody-not ∙ sym q ∙ ap (λ (z : ℕ). z == n) (sym (eqb-true o b p))
    go false true p q = ap (λ (z : ℕ). o == z) (sym (eqb-true b n q)) ∙ p
    go false false p q = refl

-- one who may set it finds it nobody's or its own
taken : (t : Tables) (b n : ℕ) → 1 ≤ n → owned_by_another t b ≡ false → (b == n) ≡ false → (t.control == n) ≡ false
unfolding owned_by_another
taken t b n k = go (t.control == 0) (t.control == b) refl refl
  where
    go : (x y : Bool) → (t.control == 0) ≡ x → (t.control == b) ≡ y → (not x && not y) ≡ false → (b == n) ≡ false
        → (t.control == n) ≡ false
    go true y p q r z = ap (λ (o : ℕ). o == n) (eqb-true t.control 0 p) ∙ ne_eqb 0 n (λ w. absurd (omega arith))
    go false true p q r z = ap (λ (o : ℕ). o == n) (eqb-true t.control b q) ∙ z
    go false false p q r z = clashing refl r

set-control : (t : Tables) (b n : ℕ) (k : Kind) → 1 ≤ n → (is_control k && owned_by_another t b) ≡ false
    → ((register t b k true).control == n) ≡ (if b == n && is_event call_control k then true else t.control == n)
unfolding register with_registration is_event is_control
set-control t b n (Event f) k r = go (f == call_control) (b == n) refl r
  where
    go : (x y : Bool) → (b == n) ≡ y → (x && owned_by_another t b) ≡ false
        → ((if x then with_control t b else with_applets t (change (has_number b) (with_event f true) t.applets)).control == n) ≡ (if y && x then true else t.control == n)
    go true true p q = p
    go true false p q = p ∙ sym (taken t b n k q p)
    go false true p q = refl
    go false false p q = refl
set-control t b n Issuer k r = nothing-marked (b == n) true (t.control == n)
set-control t b n Reserved k r = nothing-marked (b == n) true (t.control == n)
set-control t b n Unsupported k r = nothing-marked (b == n) true (t.control == n)

clear-control : (t : Tables) (b n : ℕ) (k : Kind) → 1 ≤ n
    → ((register t b k false).control == n) ≡ (if b == n && is_event call_control k then false else t.control == n)
unfolding register with_registration is_event
clear-control t b n (Event f) k = go (f == call_control)
  where
    go : (x : Bool)
        → ((if x then with_control t (forget b t.control) else with_applets t (change (has_number b) (with_event f false) t.applets)).control == n) ≡ (if b == n && x then false else t.control == n)
    go true = forgotten t.control b n k ∙ marked (b == n) true false (t.control == n)
    go false = nothing-marked (b == n) false (t.control == n)
clear-control t b n Issuer k = nothing-marked (b == n) false (t.control == n)
clear-control t b n Reserved k = nothing-marked (b == n) false (t.control == n)
clear-control t b n Unsupported k = nothing-marked (b == n) false (t.control == n)

pub control-kept : Kept (λ t h. (n : ℕ) → 1 ≤ n → (t.control == n) ≡ is_registered n call_control h)
unfolding tables_after admin_tables event_tables entry_tables timer_tables register with_registration event_lines lines answer Every is_registered uses_up reading
control-kept m h (admin (install b r)) ok s g n k = g.control n k
control-kept m h (admin (delete b)) ok s g n k =
    forgotten m.tables.control b n k
    ∙ ap (λ (x : Bool). if b == n then false else x) (g.control n k)
control-kept m h (admin (lock b)) ok s g n k = g.control n k
control-kept m h (admin (unlock b)) ok s g n k = g.control n k
control-kept m h (event (set_event b v)) ok s g n k =
    set-control m.tables b n (kind_of v) k (none-holds m (event (set_event b v)) ok).1.1.1.0
    ∙ ap (λ (x : Bool). if b == n && is_event call_control (kind_of v) then true else x) (g.control n k)
control-kept m h (event (clear_event b v)) ok s g n k =
    clear-control m.tables b n (kind_of v) k
    ∙ ap (λ (x : Bool). if b == n && is_event call_control (kind_of v) then false else x) (g.control n k)
    ∙ sym (or-none (b == n && is_event call_control (kind_of v)) false (is_registered n call_control h))
control-kept m h (event (ask_event b v)) ok s g n k = g.control n k
control-kept m h (event (request_poll b d)) ok s g n k = g.control n k
control-kept m h (entry (new_entry b help text)) ok s g n k = g.control n k
control-kept m h (entry (change_entry b i help text)) ok s g n k = g.control n k
control-kept m h (entry (enable_entry b i)) ok s g n k = g.control n k
control-kept m h (entry (disable_entry b i)) ok s g n k = g.control n k
control-kept m h (timer (allocate b)) ok s g n k = g.control n k
control-kept m h (timer (release b j)) ok s g n k = g.control n k
control-kept m h (arrival c) ok s g n k = g.control n k
control-kept m h next ok s g n k =
    at_turn (λ t. (t.control == n) ≡ (m.tables.control == n)) m.tables m.round refl (λ b there. refl)
    ∙ g.control n k
    ∙ rw (and-false (in? n (named m.tables m.round))) refl
control-kept m h (proactive c) ok s g n k = g.control n k
control-kept m h (system_command buffer) ok s g n k = g.control n k

-- Requests: an install and a delete leave none, and a request of an applet is its own.
pub poll-kept : Kept (λ t h. (n : ℕ) → (applet t n).poll ≡ poll_of n h)
unfolding tables_after admin_tables event_tables timer_tables applet present newcomer admin_lines event_lines lines Every poll_of reading
poll-kept m h (admin (install b r)) ok s g n =
    ap (λ (x : Applet). x.poll) (with-more m.tables b r n (filled.installs m b r ok).new)
    ∙ if-map (λ (x : Applet). x.poll) (b == n) (newcomer b r) (applet m.tables n)
    ∙ ap (λ (x : ℕ). if b == n then 0 else x) (g.poll n)
    ∙ sym (or-none (b == n) 0 (poll_of n h))
poll-kept m h (admin (delete b)) ok s g n =
    ap (λ (x : Applet). x.poll) (first-less number_of nobody n b m.tables.applets)
    ∙ if-map (λ (x : Applet). x.poll) (b == n) nobody (applet m.tables n)
    ∙ ap (λ (x : ℕ). if b == n then 0 else x) (g.poll n)
poll-kept m h (admin (lock b)) ok s g n =
    with-kept m.tables.applets (with_selectable false) (λ x. refl) (λ x. x.poll) (λ x. refl) b n (is-here m.tables b (none-holds m (admin (lock b)) ok).0)
    ∙ g.poll n
poll-kept m h (admin (unlock b)) ok s g n =
    with-kept m.tables.applets (with_selectable true) (λ x. refl) (λ x. x.poll) (λ x. refl) b n (is-here m.tables b (none-holds m (admin (unlock b)) ok).0)
    ∙ g.poll n
poll-kept m h (event (set_event b v)) ok s g n =
    registered-kept (λ x. x.poll) (λ e w x. refl) m.tables b n (kind_of v) true (is-here m.tables b (none-holds m (event (set_event b v)) ok).0)
    ∙ g.poll n
poll-kept m h (event (clear_event b v)) ok s g n =
    registered-kept (λ x. x.poll) (λ e w x. refl) m.tables b n (kind_of v) false (is-here m.tables b (none-holds m (event (clear_event b v)) ok).0)
    ∙ g.poll n
poll-kept m h (event (ask_event b v)) ok s g n = g.poll n
poll-kept m h (event (request_poll b d)) ok s g n =
    ap (λ (x : Applet). x.poll) (with-changed m.tables.applets (with_poll (seconds_of d)) (λ x. refl) b n (is-here m.tables b (none-holds m (event (request_poll b d)) ok).0))
    ∙ if-map (λ (x : Applet). x.poll) (b == n) _ (applet m.tables n)
    ∙ ap (λ (x : ℕ). if b == n then seconds_of d else x) (g.poll n)
poll-kept m h (entry c) ok s g n = entry_kept (λ x. x.poll) (λ x. refl) m n c ok ∙ g.poll n
poll-kept m h (timer (allocate b)) ok s g n = g.poll n
poll-kept m h (timer (release b k)) ok s g n = g.poll n
poll-kept m h (arrival c) ok s g n = g.poll n
poll-kept m h next ok s g n =
    at_turn (λ t. (applet t n).poll ≡ poll_of n h) m.tables m.round (g.poll n) (λ b there. registered-kept (λ x. x.poll) (λ e w x. refl) m.tables b n _ false there ∙ g.poll n)
poll-kept m h (proactive c) ok s g n = g.poll n
poll-kept m h (system_command buffer) ok s g n = g.poll n
