-- The event calls, a request for polling, lock, unlock and a turn in a round keep the tables sound.
-- Assumes nothing.
use Prim.Native.Nat.{ℕ, ◌≤◌}
use native.Mathlib.Omega.{arith}
use mathlib.Core.Path.{◌≡◌, refl}
use mathlib.Core.Bool.{Bool, true, false}
use mathlib.Core.Logic.{inr}
use mathlib.Core.List.{List, [], ◌∷◌}
use lib.ListN.{length-set}
use lib.IntN.{ℤ, pos, negsuc}
use borrow.Author.Tests.{ltb-false}
use Rattle.std.specs.Prelude.{if◌then◌else◌, ◌==◌}
use Rattle.lists.specs.Lists.{Every, change}
use Rattle.lists.proofs.Matched.{matched-change}
use Rattle.lists.proofs.Ifs.{if-holds}
use Rattle.rules.specs.declared.Kind.{Kind}
use Rattle.rules.specs.declared.Kind.TheVariants.{Event, Issuer, Reserved, Unsupported}
use Rattle.rules.specs.Holds.{Applet, Tables, Arrival, Model, with_applets, with_control, with_selectable, with_event, with_poll}
use Rattle.rules.specs.Events.{kind_of, call_control, handler_available}
use Rattle.rules.specs.Applets.{has_number, present, nobody, forget, with_registration, register, longest_poll, bad_duration, seconds_of}
use Rattle.rules.specs.Calls.{EventCall, event, set_event, clear_event, ask_event, request_poll}
use Rattle.rules.specs.Refusals.{lines, event_lines, refusal}
use Rattle.rules.specs.Rounds.{by_settled, used_up}
use Rattle.rules.specs.Step.{event_tables}
use Rattle.runs.specs.Sound.{SoundTables}
use Rattle.runs.proofs.Accepted.{accepted}
use Rattle.runs.proofs.Filled.{is-here}
use Rattle.runs.proofs.Frames.{SameApplet, same_self, forgotten, applets-frame, control-frame}

-- an applet changed in what its soundness does not look at
pub changed-sound : (t : Tables) (n : ℕ) (f : Applet → Applet) → ((x : Applet) → SameApplet x (f x)) → SoundTables t → SoundTables (with_applets t (change (has_number n) f t.applets))
changed-sound t n f h g = applets-frame t _ (matched-change SameApplet (has_number n) f nobody same_self t.applets (h _)) g

pub selectable-same : (b : Bool) (x : Applet) → SameApplet x (with_selectable b x)
selectable-same b x = record { number = refl; priority = refl; limits = refl; made = refl; events = refl; poll = λ h. h }

event-same : (e : ℕ) (b : Bool) (x : Applet) → SameApplet x (with_event e b x)
event-same e b x = record { number = refl; priority = refl; limits = refl; made = refl; events = length-set x.events e b; poll = λ h. h }

pub poll-same : (s : ℕ) → s ≤ longest_poll → (x : Applet) → SameApplet x (with_poll s x)
poll-same s few x = record { number = refl; priority = refl; limits = refl; made = refl; events = refl; poll = λ h. few }

register-sound : (t : Tables) (n : ℕ) (k : Kind) (b : Bool) → present t n ≡ true → SoundTables t → SoundTables (register t n k b)
unfolding register with_registration
register-sound t n (Event e) b here g = go (e == call_control) b
  where
    go : (c b : Bool) → SoundTables (if c then with_control t (if b then n else forget n t.control) else with_applets t (change (has_number n) (with_event e b) t.applets))
    go true true = control-frame t n (inr here) g
    go true false = control-frame t (forget n t.control) (forgotten t t n t.control (λ e h. h) g.control) g
    go false b = changed-sound t n (with_event e b) (event-same e b) g
register-sound t n Issuer b here g = g
register-sound t n Reserved b here g = g
register-sound t n Unsupported b here g = g

-- a duration that is taken is no more than the longest
pub seconds-few : (d : ℤ) → bad_duration d ≡ false → seconds_of d ≤ longest_poll
unfolding bad_duration seconds_of
seconds-few (pos n) e = ltb-false longest_poll n e
seconds-few (negsuc n) e = omega arith

pub event-sound : (m : Model) (c : EventCall) → refusal m (event c) ≡ 0 → SoundTables m.tables → SoundTables (event_tables m.tables c)
unfolding event_tables lines event_lines Every
event-sound m (set_event n v) e g = register-sound m.tables n (kind_of v) true (is-here m.tables n (accepted m (event (set_event n v)) e).0) g
event-sound m (clear_event n v) e g = register-sound m.tables n (kind_of v) false (is-here m.tables n (accepted m (event (clear_event n v)) e).0) g
event-sound m (ask_event n v) e g = g
event-sound m (request_poll n d) e g = changed-sound m.tables n (with_poll (seconds_of d)) (poll-same (seconds_of d) (seconds-few d (accepted m (event (request_poll n d)) e).1.0)) g

pub turn-sound : (a : Arrival) (l : List ℕ) (t : Tables) → SoundTables t → SoundTables (used_up a l t)
unfolding used_up with_registration
turn-sound a [] t g = g
turn-sound a (n ∷ l) t g = if-holds SoundTables (by_settled a) (λ h. changed-sound t n (with_event handler_available false) (event-same handler_available false) g) (λ h. g)
