-- What a history of accepted calls names, by looking back over the calls and their answers.
use Rattle.std.specs.Prelude.{ℕ, Bool, true, false, not, ◌&&◌, ◌||◌, List, [], ◌∷◌, ◌++◌, take, replicate}
use Rattle.std.specs.Prelude.{if◌then◌else◌, ◌==◌}
use Rattle.lists.specs.Lists.{some?, first, padded}
use Rattle.rules.specs.Holds.{Row}
use Rattle.rules.specs.Events.{call_control, handler_available}
use Rattle.rules.specs.Calls.{ArrivalCall, envelope, profile, status, settled}
use Rattle.history.specs.Histories.{Entry, History, stands}
use Rattle.history.specs.Deeds.{of_arrival, installs, deletes, locks, unlocks, priority_in, sets, clears, requests, seconds_in, gives, releases, makes, changes, enables, disables, applet_in, text_in, help_in, profiles, commands, responds}
use Rattle.history.specs.Rounds.{opens, settles, names}

-- Applet n was installed, and not deleted since.
unfoldable pub is_present : (applet : ℕ) → History → Bool
is_present n h = stands (installs n) (deletes n) h

-- It was installed or unlocked, and neither locked nor deleted since.
unfoldable pub is_selectable : (applet : ℕ) → History → Bool
is_selectable n h = stands (λ e. installs n e || unlocks n e) (λ e. locks n e || deletes n e) h

-- The priority that it was last installed with.
unfoldable pub priority_of : (applet : ℕ) → History → ℕ
priority_of n [] = 0
priority_of n (e ∷ h) = if installs n e then priority_in e else priority_of n h

-- Of two applets the first is the later installed: it was installed, and the other not since.
unfoldable pub is_later : (applet other : ℕ) → History → Bool
is_later n m h = stands (installs n) (installs m) h

-- Timer k is owned by applet n: an allocation gave it, with no release or delete since.
unfoldable pub owns_timer : (timer applet : ℕ) → History → Bool
owns_timer k n h = stands (gives k n) (λ e. releases k e || deletes n e) h

-- Settled opened the round: the last arrival was a settled moment.
unfoldable pub settled_opened : History → Bool
settled_opened h = stands settles (λ e. opens e && not (settles e)) h

-- A registration of applet n is used up if it is the one-shot, proactive handler available, and the applet is named in a round that
-- settled opened.
unfoldable pub uses_up : (applet event : ℕ) → Entry → (before : History) → Bool
uses_up n e x before = names n x && (e == handler_available && settled_opened before)

-- Applet n is registered for the event: it set the event, and that was neither cleared, deleted nor used up since.
unfoldable pub is_registered : (applet event : ℕ) → History → Bool
is_registered n e [] = false
is_registered n e (x ∷ h) =
    if clears n e x || deletes n x then false else
    if uses_up n e x h then false else
    if sets n e x then true else is_registered n e h

-- It has a one-shot.
unfoldable pub has_one_shot : (applet : ℕ) → History → Bool
has_one_shot n h = is_registered n handler_available h

-- Call control is owned by the applet that is registered for it.
unfoldable pub owns_control : (applet : ℕ) → History → Bool
owns_control n h = is_registered n call_control h

-- The poll interval that applet n last requested since it was installed, in seconds; 0 is none.
unfoldable pub poll_of : (applet : ℕ) → History → ℕ
poll_of n [] = 0
poll_of n (e ∷ h) = if installs n e || deletes n e then 0 else if requests n e then seconds_in e else poll_of n h

-- the numbers of applets, and of timers
unfoldable pub one_to_eight : List ℕ
one_to_eight = 1 ∷ 2 ∷ 3 ∷ 4 ∷ 5 ∷ 6 ∷ 7 ∷ 8 ∷ []

-- the one that passes; 0 where none does
unfoldable pub the_one : (ℕ → Bool) → ℕ
the_one p = first p 0 one_to_eight

-- The owner of timer k, and of call control; 0 is nobody.
unfoldable pub timer_owner : (timer : ℕ) → History → ℕ
timer_owner k h = the_one (λ n. owns_timer k n h)

unfoldable pub control_owner : History → ℕ
control_owner h = the_one (λ n. owns_control n h)

-- The row that an accepted new entry made, as what was done since has left it: the identifier as answered, the text and the
-- help mark last given, and disabled if it was disabled and not enabled since.
unfoldable pub row_made : (since : History) → Entry → Row
row_made since e =
    record {
      identifier = e.answer.number;
      owner = applet_in e;
      text = text_in (first (changes e.answer.number) e since);
      help = help_in (first (changes e.answer.number) e since);
      enabled = not (stands (disables e.answer.number) (enables e.answer.number) since);
    }

-- One row for each accepted new entry whose applet has not been deleted since; the newest entry's row stands first.
unfoldable pub rows_since : (since history : History) → List Row
rows_since since [] = []
rows_since since (e ∷ h) =
    if makes e && not (some? (deletes (applet_in e)) since)
    then row_made since e ∷ rows_since (since ++ e ∷ []) h
    else rows_since (since ++ e ∷ []) h

unfoldable pub rows_named : History → List Row
rows_named h = rows_since [] h

-- A session has begun.
unfoldable pub in_session : History → Bool
in_session h = some? profiles h

-- A command is outstanding: one was sent or handed out, with no response or profile since.
unfoldable pub is_outstanding : History → Bool
is_outstanding h = stands commands (λ e. responds e || profiles e) h

-- The terminal profile: the first 32 bytes of the last accepted one, with zeros behind; zeros before any.
unfoldable pub profile_bytes : ArrivalCall → List ℕ
profile_bytes (envelope bytes) = []
profile_bytes (profile bytes) = bytes
profile_bytes status = []
profile_bytes settled = []

unfoldable pub profile_named : History → List ℕ
profile_named [] = replicate 32 0
profile_named (e ∷ h) = if profiles e then padded 32 0 (take 32 (of_arrival [] profile_bytes e.call)) else profile_named h
