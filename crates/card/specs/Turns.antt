-- What the calls about registrations are refused for and make of the set of an event's place and of the owner of call control, and a hand-out of what is due.
use Rattle.std.specs.Prelude.{ℕ, Bool, not, ◌&&◌, [], ◌∷◌}
use Rattle.std.specs.Prelude.{if◌then◌else◌, ◌==◌}
use Rattle.sets.specs.Sets.{has?, switched_set}
use Rattle.rules.specs.declared.Due.{Due}
use Rattle.rules.specs.declared.Kind.{Kind}
use Rattle.polling.specs.declared.Polling.{Polling}
use Rattle.rules.specs.Events.{call_control, is_control, not_supported, not_to_set}
use Rattle.rules.specs.Applets.{forget}
use Rattle.rules.specs.Refusals.{line, first_holding}

-- the lines of the table that both may be refused for, and those of set event alone
abbrev pub turn_refusal : (there : Bool) → Kind → (control applet : ℕ) → (on : Bool) → ℕ
turn_refusal there k control n on =
    first_holding (
    line 2 (not there)
    ∷ line 7 (not_supported k)
    ∷ line 8 (not_to_set k)
    ∷ (if on then line 9 (is_control k && (not (control == 0) && not (control == n))) ∷ [] else [])
    )

-- the set after set event, which turns the registration on, or clear event; call control has its owner instead
abbrev pub set_after : (refusal place set number : ℕ) → Bool → ℕ
set_after r p s n on = if r == 0 then (if p == call_control then s else switched_set s n on) else s

abbrev pub owner_after : (refusal place owner number : ℕ) → Bool → ℕ
owner_after r p o n on = if r == 0 then (if p == call_control then (if on then n else forget n o) else o) else o

-- an applet is registered
abbrev pub is_listed : (place set control applet : ℕ) → Bool
is_listed p s o n = if p == call_control then o == n else has? s n

-- what of polling is due
abbrev pub polling_of : Due → Polling
polling_of d = record { interval = d.interval; off = d.off }

-- what is handed out: of an accepted call the first that is due; and what it leaves due
abbrev pub first_due : (accepted : Bool) → Due → Due
first_due ok d =
    record {
      menu = ok && d.menu;
      events = (ok && not d.menu) && d.events;
      interval = ((ok && not d.menu) && not d.events) && d.interval;
      off = (((ok && not d.menu) && not d.events) && not d.interval) && d.off;
    }

abbrev pub rest_due : (due handed : Due) → Due
rest_due d f =
    record {
      menu = d.menu && not f.menu;
      events = d.events && not f.events;
      interval = d.interval && not f.interval;
      off = d.off && not f.off;
    }
