-- One call on the card: what it changes, what it answers, and that a refusal changes nothing.
use Rattle.std.specs.Prelude.{ℕ, zero, suc, Bool, true, false, not, List, [], ◌∷◌, ◌++◌, length, drop}
use Rattle.lists.specs.Lists.{keep, change}
use Rattle.rules.specs.Holds.{Applet, Tables, Desk, Round, Model, with_applets, with_rows, with_timers, with_selectable, with_one_more, with_poll}
use Rattle.rules.specs.Events.{kind_of}
use Rattle.rules.specs.Envelopes.{envelope_of}
use Rattle.rules.specs.Applets.{has_number, applet, newcomer, forget, register, is_registered, seconds_of}
use Rattle.rules.specs.Rows.{with_entry, next_identifier, with_text, with_enabled, without_rows}
use Rattle.rules.specs.Timers.{lowest_free, with_allocated, with_released, without_timers}
use Rattle.rules.specs.Arrivals.{envelope_marks, other_marks}
use Rattle.rules.specs.Rounds.{arrived_with, opened, without, named, round_with, used_up}
use Rattle.rules.specs.Desk.{marked, with_profile, with_outstanding, with_handed_out, due_command}
use Rattle.rules.specs.Calls.{Answer, Outcome, accepted, refused_with, numbered, saying, marking, calling}
use Rattle.rules.specs.Calls.{Call, admin, event, entry, timer, arrival, next, proactive, system_command}
use Rattle.rules.specs.Calls.{AdminCall, install, delete, lock, unlock, EventCall, set_event, clear_event, ask_event, request_poll}
use Rattle.rules.specs.Calls.{EntryCall, new_entry, change_entry, enable_entry, disable_entry, TimerCall, allocate, release}
use Rattle.rules.specs.Calls.{ArrivalCall, envelope, profile, status, settled, ProactiveCall, send, response}
use Rattle.rules.specs.Refusals.{refusal}

-- What an accepted call leaves of the tables.
unfoldable pub admin_tables : Tables → AdminCall → Tables
admin_tables t (install n r) = with_applets t (t.applets ++ newcomer n r ∷ [])
admin_tables t (delete n) =
    record {
      bounds = t.bounds;
      applets = keep (λ (x : Applet). not (has_number n x)) t.applets;
      rows = without_rows n t.rows;
      timers = without_timers n t.timers;
      control = forget n t.control;
    }
admin_tables t (lock n) = with_applets t (change (has_number n) (with_selectable false) t.applets)
admin_tables t (unlock n) = with_applets t (change (has_number n) (with_selectable true) t.applets)

unfoldable pub event_tables : Tables → EventCall → Tables
event_tables t (set_event n v) = register t n (kind_of v) true
event_tables t (clear_event n v) = register t n (kind_of v) false
event_tables t (ask_event n v) = t
event_tables t (request_poll n d) = with_applets t (change (has_number n) (with_poll (seconds_of d)) t.applets)

unfoldable pub entry_tables : Tables → EntryCall → Tables
entry_tables t (new_entry n help text) =
    with_applets (with_rows t (with_entry (applet t n) help text t.rows)) (change (has_number n) with_one_more t.applets)
entry_tables t (change_entry n i help text) = with_rows t (with_text n i help text t.rows)
entry_tables t (enable_entry n i) = with_rows t (with_enabled n i true t.rows)
entry_tables t (disable_entry n i) = with_rows t (with_enabled n i false t.rows)

unfoldable pub timer_tables : Tables → TimerCall → Tables
timer_tables t (allocate n) = with_timers t (with_allocated t.timers n)
timer_tables t (release n k) = with_timers t (with_released t.timers k)

unfoldable pub tables_after : Model → Call → Tables
tables_after m (admin c) = admin_tables m.tables c
tables_after m (event c) = event_tables m.tables c
tables_after m (entry c) = entry_tables m.tables c
tables_after m (timer c) = timer_tables m.tables c
tables_after m (arrival c) = m.tables
tables_after m next = used_up m.round.arrived (named m.tables m.round) m.tables
tables_after m (proactive c) = m.tables
tables_after m (system_command buffer) = m.tables

-- What an accepted call leaves of the round: any arrival replaces it, and a deleted applet's number leaves it for good.
unfoldable pub admin_round : Round → AdminCall → Round
admin_round r (install n q) = r
admin_round r (delete n) = without n r
admin_round r (lock n) = r
admin_round r (unlock n) = r

unfoldable pub round_after : Model → Call → Round
round_after m (admin c) = admin_round m.round c
round_after m (event c) = m.round
round_after m (entry c) = m.round
round_after m (timer c) = m.round
round_after m (arrival c) = opened m.tables (arrived_with c)
round_after m next = round_with (named m.tables m.round) m.round
round_after m (proactive c) = m.round
round_after m (system_command buffer) = m.round

-- What an accepted call leaves of the desk, but for the marks of what it changes.
unfoldable pub arrival_desk : Model → ArrivalCall → Desk
arrival_desk m (envelope bytes) = m.desk
arrival_desk m (profile bytes) = with_profile m.tables bytes m.desk
arrival_desk m status = m.desk
arrival_desk m settled = m.desk

unfoldable pub proactive_desk : Desk → ProactiveCall → Desk
proactive_desk d (send n bytes) = with_outstanding true d
proactive_desk d response = with_outstanding false d

unfoldable pub desk_after : Model → Call → Desk
desk_after m (admin c) = m.desk
desk_after m (event c) = m.desk
desk_after m (entry c) = m.desk
desk_after m (timer c) = m.desk
desk_after m (arrival c) = arrival_desk m c
desk_after m next = m.desk
desk_after m (proactive c) = proactive_desk m.desk c
desk_after m (system_command buffer) = with_handed_out m.desk

-- The card after an accepted call.
unfoldable pub changed : Model → Call → Model
changed m c =
    record {
      tables = tables_after m c;
      desk = marked m.tables (tables_after m c) (desk_after m c);
      round = round_after m c;
    }

-- What an accepted call answers.
unfoldable pub event_answer : Tables → EventCall → Answer
event_answer t (set_event n v) = accepted
event_answer t (clear_event n v) = accepted
event_answer t (ask_event n v) = saying (is_registered t n (kind_of v))
event_answer t (request_poll n d) = accepted

unfoldable pub entry_answer : Tables → EntryCall → Answer
entry_answer t (new_entry n help text) = numbered (next_identifier (applet t n) t.rows)
entry_answer t (change_entry n i help text) = accepted
entry_answer t (enable_entry n i) = accepted
entry_answer t (disable_entry n i) = accepted

unfoldable pub timer_answer : Tables → TimerCall → Answer
timer_answer t (allocate n) = numbered (lowest_free t.timers)
timer_answer t (release n k) = accepted

unfoldable pub arrival_answer : (outstanding : Bool) → ArrivalCall → Answer
arrival_answer outstanding (envelope bytes) = marking (envelope_marks outstanding (envelope_of bytes))
arrival_answer outstanding (profile bytes) = marking (other_marks outstanding)
arrival_answer outstanding status = marking (other_marks outstanding)
arrival_answer outstanding settled = marking (other_marks outstanding)

-- the marks tell whether a command is left outstanding
unfoldable pub answer : Model → Call → Answer
answer m (admin c) = accepted
answer m (event c) = event_answer m.tables c
answer m (entry c) = entry_answer m.tables c
answer m (timer c) = timer_answer m.tables c
answer m (arrival c) = arrival_answer (arrival_desk m c).outstanding c
answer m next = calling (named m.tables m.round)
answer m (proactive c) = accepted
answer m (system_command buffer) = numbered (length (due_command m.tables m.desk))

-- what is made of the buffer that a call is lent: only the system command is lent one
abbrev pub in_buffer : (List ℕ → List ℕ) → Call → List ℕ
in_buffer f (admin c) = []
in_buffer f (event c) = []
in_buffer f (entry c) = []
in_buffer f (timer c) = []
in_buffer f (arrival c) = []
in_buffer f next = []
in_buffer f (proactive c) = []
in_buffer f (system_command buffer) = f buffer

-- the buffer as it was lent; empty where there is none
unfoldable pub lent : Call → List ℕ
lent c = in_buffer (λ buffer. buffer) c

-- the bytes stand at the front of the buffer, and the rest of it is left
unfoldable pub front : (bytes buffer : List ℕ) → List ℕ
front bytes buffer = bytes ++ drop (length bytes) buffer

-- what stands in the lent buffer after an accepted call
unfoldable pub written : Model → Call → List ℕ
written m c = in_buffer (front (due_command m.tables m.desk)) c

-- Every refusal returns its number and no other answer and changes nothing, neither the card nor one byte of a lent buffer.
unfoldable pub outcome : (refusal : ℕ) → Model → Call → Outcome
outcome zero m c = record { after = changed m c; answer = answer m c; buffer = written m c }
outcome (suc n) m c = record { after = m; answer = refused_with (suc n); buffer = lent c }

-- ONE CALL ON THE CARD.
unfoldable pub step : Model → Call → Outcome
step m c = outcome (refusal m c) m c
