-- The calls that turn something on or off, each pair as one call by whether it turns it on.
use Rattle.std.specs.Prelude.{ℕ, ℤ, Bool, if◌then◌else◌}
use Rattle.rules.specs.Calls.{AdminCall, EventCall, EntryCall, lock, unlock, set_event, clear_event, enable_entry, disable_entry}

-- an applet becomes selectable, or locked
abbrev pub locking : (on : Bool) (applet : ℕ) → AdminCall
locking on n = if on then unlock n else lock n

-- it is registered for an event, or no longer
abbrev pub registering : (on : Bool) (applet : ℕ) (value : ℤ) → EventCall
registering on n v = if on then set_event n v else clear_event n v

-- a row of it is enabled, or disabled
abbrev pub enabling : (on : Bool) (applet identifier : ℕ) → EntryCall
enabling on n i = if on then enable_entry n i else disable_entry n i
