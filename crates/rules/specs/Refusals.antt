-- The refusal numbers (document 01, "Refusal numbers"; from 20 on document 02). Of the lines that hold and list the call, the lowest number is given.
--
--    1  bad_envelope, bad_command, empty? (profile), not is_menu    11  not_its_row
--    2  absent (install: not is_number)                           12  bad_text; the title is too long
--    3  present                                                  13  at_limit
--    4  out_of_range                                               14  none_free
--    5  too_many                                                  15  not_its_timer (send: foreign_timer)
--    6  clash                                                    16  outstanding
--    7  not_supported                                             17  system_type
--    8  not_to_set                                                 18  the buffer has fewer than 256 bytes
--    9  owned_by_another, for call control                         19  not outstanding
--   10  all_made                                                 20  bad_duration
--                                                               21  no round is open
--                                                               22  a round is open
--
-- The calls that need no card (a fresh card, the menu reader, the bank alone) stand in Beside.
use Rattle.std.specs.Prelude.{ℕ, Bool, false, not, ◌&&◌, ◌||◌, List, [], ◌∷◌, length}
use Rattle.lists.specs.Tests.{◌<?◌}
use Rattle.std.specs.Prelude.{if◌then◌else◌, Result, Ok, Err}
use Rattle.lists.specs.Lists.{empty?}
use Rattle.rules.specs.declared.Command.{Command}
use Rattle.rules.specs.declared.Command.TheVariants.{Plain, Timer}
use Rattle.rules.specs.declared.Malformed.{Malformed}
use Rattle.rules.specs.Holds.{Tables, Desk, Model}
use Rattle.rules.specs.Events.{kind_of, not_supported, not_to_set, is_control}
use Rattle.rules.specs.Envelopes.{envelope_of, bad_envelope, command_of, bad_command, system_type}
use Rattle.rules.specs.Applets.{is_number, present, applet, out_of_range, too_many, clash, owned_by_another, bad_duration}
use Rattle.rules.specs.Rows.{all_made, not_its_row, bad_text}
use Rattle.rules.specs.Timers.{at_limit, none_free, not_its_timer}
use Rattle.rules.specs.Calls.{Call, admin, event, entry, timer, arrival, next, proactive, system_command}
use Rattle.rules.specs.Calls.{AdminCall, install, delete, lock, unlock, EventCall, set_event, clear_event, ask_event, request_poll}
use Rattle.rules.specs.Calls.{EntryCall, new_entry, change_entry, enable_entry, disable_entry, TimerCall, allocate, release}
use Rattle.rules.specs.Calls.{ArrivalCall, envelope, profile, status, settled, ProactiveCall, send, response}

-- a line of the table: its number, and whether it holds
pub record Line : Type 0 where
  pub number : ℕ
  pub holds : Bool

abbrev pub line : ℕ → Bool → Line
line n b = record { number = n; holds = b }

-- the number of the first line that holds, 0 where none does; it is the lowest, since the lines of every call rise (`lines-rise`, crates/runs)
unfoldable pub first_holding : List Line → ℕ
first_holding [] = 0
first_holding (x ∷ l) = if x.holds then x.number else first_holding l

-- a number outside 1..8, or no such applet
unfoldable pub absent : Tables → (applet : ℕ) → Bool
absent t n = not (is_number t.bounds n) || not (present t n)

-- refusal 15 is for timer management only
unfoldable pub foreign_timer : Tables → (applet : ℕ) → Result Command Malformed → Bool
foreign_timer t n (Ok (Timer k)) = not_its_timer t.timers n k
foreign_timer t n (Ok (Plain type)) = false
foreign_timer t n (Err e) = false

-- install, delete, lock, unlock
unfoldable pub admin_lines : Tables → AdminCall → List Line
admin_lines t (install n r) =
    line 2 (not (is_number t.bounds n))
    ∷ line 3 (present t n)
    ∷ line 4 (out_of_range t.bounds r)
    ∷ line 5 (too_many t r)
    ∷ line 6 (clash t r)
    ∷ []
admin_lines t (delete n) = line 2 (absent t n) ∷ []
admin_lines t (lock n) = line 2 (absent t n) ∷ []
admin_lines t (unlock n) = line 2 (absent t n) ∷ []

-- set, clear, ask event; request poll interval
unfoldable pub event_lines : Tables → EventCall → List Line
event_lines t (set_event n v) =
    line 2 (absent t n)
    ∷ line 7 (not_supported (kind_of v))
    ∷ line 8 (not_to_set (kind_of v))
    ∷ line 9 (is_control (kind_of v) && owned_by_another t n)
    ∷ []
event_lines t (clear_event n v) = line 2 (absent t n) ∷ line 7 (not_supported (kind_of v)) ∷ line 8 (not_to_set (kind_of v)) ∷ []
event_lines t (ask_event n v) = line 2 (absent t n) ∷ line 7 (not_supported (kind_of v)) ∷ line 8 (not_to_set (kind_of v)) ∷ []
event_lines t (request_poll n d) = line 2 (absent t n) ∷ line 20 (bad_duration d) ∷ []

-- new, change, enable, disable entry
unfoldable pub entry_lines : Tables → EntryCall → List Line
entry_lines t (new_entry n help text) = line 2 (absent t n) ∷ line 10 (all_made (applet t n)) ∷ line 12 (bad_text (applet t n) text) ∷ []
entry_lines t (change_entry n i help text) =
    line 2 (absent t n) ∷ line 11 (not_its_row n i t.rows) ∷ line 12 (bad_text (applet t n) text) ∷ []
entry_lines t (enable_entry n i) = line 2 (absent t n) ∷ line 11 (not_its_row n i t.rows) ∷ []
entry_lines t (disable_entry n i) = line 2 (absent t n) ∷ line 11 (not_its_row n i t.rows) ∷ []

-- allocate, release timer
unfoldable pub timer_lines : Tables → TimerCall → List Line
timer_lines t (allocate n) =
    line 2 (absent t n) ∷ line 13 (at_limit t.timers n (applet t n).limits.timers) ∷ line 14 (none_free t.timers) ∷ []
timer_lines t (release n k) = line 2 (absent t n) ∷ line 15 (not_its_timer t.timers n k) ∷ []

-- envelope, profile, STATUS, settled
unfoldable pub arrival_lines : (outstanding is_open : Bool) → ArrivalCall → List Line
arrival_lines outstanding is_open (envelope bytes) = line 1 (bad_envelope (envelope_of bytes)) ∷ []
arrival_lines outstanding is_open (profile bytes) = line 1 (empty? bytes) ∷ []
arrival_lines outstanding is_open status = []
arrival_lines outstanding is_open settled = line 16 outstanding ∷ line 22 is_open ∷ []

-- send, response
unfoldable pub proactive_lines : Tables → Desk → ProactiveCall → List Line
proactive_lines t d (send n bytes) =
    line 1 (bad_command (command_of bytes))
    ∷ line 2 (absent t n)
    ∷ line 15 (foreign_timer t n (command_of bytes))
    ∷ line 16 d.outstanding
    ∷ line 17 (system_type (command_of bytes))
    ∷ []
proactive_lines t d response = line 19 (not d.outstanding) ∷ []

-- the lines of the table that list a call
unfoldable pub lines : Model → Call → List Line
lines m (admin c) = admin_lines m.tables c
lines m (event c) = event_lines m.tables c
lines m (entry c) = entry_lines m.tables c
lines m (timer c) = timer_lines m.tables c
lines m (arrival c) = arrival_lines m.desk.outstanding m.round.is_open c
lines m next = line 21 (not m.round.is_open) ∷ []
lines m (proactive c) = proactive_lines m.tables m.desk c
lines m (system_command buffer) = line 16 m.desk.outstanding ∷ line 18 (length buffer <? 256) ∷ []

-- The refusal of a call on a card; 0 where it is accepted.
unfoldable pub refusal : Model → Call → ℕ
refusal m c = first_holding (lines m c)
