-- Whom an arrival is for, as a set of applets: of every number that is there the set says what the rules say.
use Rattle.std.specs.Prelude.{ℕ, ◌≤◌, ◌≡◌, List, Result}
use Rattle.lists.specs.Tables.{table}
use Rattle.sets.specs.Sets.{has?}
use Rattle.rules.specs.declared.Arrived.{Arrived}
use Rattle.rules.specs.declared.Envelope.{Envelope}
use Rattle.rules.specs.declared.Malformed.{Malformed}
use Rattle.rules.specs.Holds.{Row, Tables, Arrival, event}
use Rattle.rules.specs.Arrivals.{arrival_of, wants}
use Rattle.rules.specs.Held.{stored_arrival}
use Rattle.runs.specs.Sound.{SoundTables}
use Rattle.applets.specs.ByNumber.{at, registered_set, poll_table}

-- s is the set of those whom the arrival is for
pub record IsFor (t : Tables) (a : Arrival) (s : ℕ) : Type 0 where
  pub each : (k : ℕ) → 1 ≤ k → k ≤ 8 → (at t.applets k).number ≡ k → has? s k ≡ wants t a (at t.applets k)

-- on every card that calls have left with these registrations and this owner of call control, s is the set of those registered for the event
abbrev pub Registered : (registered : List ℕ) (control event : ℕ) → (s : ℕ) → Type 0
Registered g control e s = (t : Tables) → SoundTables t → g ≡ table 20 (registered_set t.applets) → t.control ≡ control → IsFor t (event e) s

-- the same of any arrival, on every card that calls have left with these rows, registrations, timers, owner of call control and requests
abbrev pub IsForOn : List Row → (registered owners : List ℕ) (control : ℕ) (polls : List ℕ) → Arrival → (s : ℕ) → Type 0
IsForOn rows g owners control polls a s =
    (t : Tables)
    → SoundTables t
    → t.rows ≡ rows
    → g ≡ table 20 (registered_set t.applets)
    → t.timers ≡ owners
    → t.control ≡ control
    → polls ≡ poll_table t.applets
    → IsFor t a s

-- the same of every envelope with which this arrives, whatever the requests: none arrives as STATUS
abbrev pub IsForEnvelope : List Row → (registered owners : List ℕ) (control : ℕ) → Arrived → (s : ℕ) → Type 0
IsForEnvelope rows g owners control a s = (e : Result Envelope Malformed) → a ≡ stored_arrival (arrival_of e) → (polls : List ℕ) → IsForOn rows g owners control polls (arrival_of e) s
