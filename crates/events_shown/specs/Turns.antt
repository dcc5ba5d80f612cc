-- The event list by the sets of those registered: when an event is listened for, and when a call changes that.
use Rattle.std.specs.Prelude.{ℕ, zero, suc, Bool, false, not, ◌&&◌, ◌||◌, List, get_or}
use Rattle.std.specs.Bool.{beq}
use Rattle.lists.specs.Tests.{◌<?◌, ◌≤?◌}
use Rattle.sets.specs.Sets.{meets}
use Rattle.rules.specs.Holds.{Applet}
use Rattle.rules.specs.Events.{first_download}

-- an applet is selectable and registered for an event other than call control
abbrev pub listens : (event : ℕ) → Applet → Bool
listens e x = x.selectable && get_or x.events e false

-- one of n places from e on passes
unfoldable pub some_from : (ℕ → Bool) → (n e : ℕ) → Bool
some_from p zero e = false
some_from p (suc n) e = p e || some_from p n (suc e)

-- the place of some download code passes
abbrev pub any_code : (ℕ → Bool) → Bool
any_code p = some_from p 13 first_download

-- the event is a download
unfoldable pub is_download : (event : ℕ) → Bool
is_download e = 5 ≤? e && e <? 18

-- the shown events change where one set of an event becomes another
abbrev pub events_turn : (place was is selectable : ℕ) → Bool
events_turn p was is s = is_download p && not (beq (meets was s) (meets is s))

-- an event is listened for by one set of selectable applets and not by another
abbrev pub code_turns : (registered : List ℕ) (was is event : ℕ) → Bool
code_turns g was is e = not (beq (meets (get_or g e 0) was) (meets (get_or g e 0) is))

-- an event is listened for: the set of those registered for it meets that of the selectable applets
abbrev pub is_listened : (registered : List ℕ) (selectable event : ℕ) → Bool
is_listened g s e = meets (get_or g e 0) s
