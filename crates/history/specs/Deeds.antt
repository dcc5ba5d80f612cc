-- What an entry of a history says was done.
use Rattle.std.specs.Prelude.{ℕ, Bool, true, false, not, ◌&&◌, List, []}
use Rattle.std.specs.Prelude.{◌==◌}
use Rattle.rules.specs.declared.Kind.{Kind}
use Rattle.rules.specs.declared.Kind.TheVariants.{Event, Issuer, Reserved, Unsupported}
use Rattle.rules.specs.Events.{kind_of}
use Rattle.rules.specs.Applets.{seconds_of}
use Rattle.rules.specs.Calls.{Call, admin, event, entry, timer, arrival, next, proactive, system_command}
use Rattle.rules.specs.Calls.{AdminCall, install, delete, lock, unlock, EventCall, set_event, clear_event, ask_event, request_poll}
use Rattle.rules.specs.Calls.{EntryCall, new_entry, change_entry, enable_entry, disable_entry, TimerCall, allocate, release}
use Rattle.rules.specs.Calls.{ArrivalCall, envelope, profile, status, settled, send, response}
use Rattle.history.specs.Histories.{Entry}

-- What is read of a call of one group; the same for every call of another.
module _ {A : Type 0} (other : A) where
  unfoldable pub of_admin : (AdminCall → A) → Call → A
  of_admin f (admin c) = f c
  of_admin f (event c) = other
  of_admin f (entry c) = other
  of_admin f (timer c) = other
  of_admin f (arrival c) = other
  of_admin f next = other
  of_admin f (proactive c) = other
  of_admin f (system_command buffer) = other

  unfoldable pub of_event : (EventCall → A) → Call → A
  of_event f (admin c) = other
  of_event f (event c) = f c
  of_event f (entry c) = other
  of_event f (timer c) = other
  of_event f (arrival c) = other
  of_event f next = other
  of_event f (proactive c) = other
  of_event f (system_command buffer) = other

  unfoldable pub of_entry : (EntryCall → A) → Call → A
  of_entry f (admin c) = other
  of_entry f (event c) = other
  of_entry f (entry c) = f c
  of_entry f (timer c) = other
  of_entry f (arrival c) = other
  of_entry f next = other
  of_entry f (proactive c) = other
  of_entry f (system_command buffer) = other

  unfoldable pub of_timer : (TimerCall → A) → Call → A
  of_timer f (admin c) = other
  of_timer f (event c) = other
  of_timer f (entry c) = other
  of_timer f (timer c) = f c
  of_timer f (arrival c) = other
  of_timer f next = other
  of_timer f (proactive c) = other
  of_timer f (system_command buffer) = other

  unfoldable pub of_arrival : (ArrivalCall → A) → Call → A
  of_arrival f (admin c) = other
  of_arrival f (event c) = other
  of_arrival f (entry c) = other
  of_arrival f (timer c) = other
  of_arrival f (arrival c) = f c
  of_arrival f next = other
  of_arrival f (proactive c) = other
  of_arrival f (system_command buffer) = other

-- Applets: applet n is installed, deleted, locked, unlocked.
unfoldable pub is_install : (applet : ℕ) → AdminCall → Bool
is_install n (install m r) = m == n
is_install n (delete m) = false
is_install n (lock m) = false
is_install n (unlock m) = false

unfoldable pub is_delete : (applet : ℕ) → AdminCall → Bool
is_delete n (install m r) = false
is_delete n (delete m) = m == n
is_delete n (lock m) = false
is_delete n (unlock m) = false

unfoldable pub is_lock : (applet : ℕ) → AdminCall → Bool
is_lock n (install m r) = false
is_lock n (delete m) = false
is_lock n (lock m) = m == n
is_lock n (unlock m) = false

unfoldable pub is_unlock : (applet : ℕ) → AdminCall → Bool
is_unlock n (install m r) = false
is_unlock n (delete m) = false
is_unlock n (lock m) = false
is_unlock n (unlock m) = m == n

unfoldable pub installs : (applet : ℕ) → Entry → Bool
installs n e = of_admin false (is_install n) e.call

unfoldable pub deletes : (applet : ℕ) → Entry → Bool
deletes n e = of_admin false (is_delete n) e.call

unfoldable pub locks : (applet : ℕ) → Entry → Bool
locks n e = of_admin false (is_lock n) e.call

unfoldable pub unlocks : (applet : ℕ) → Entry → Bool
unlocks n e = of_admin false (is_unlock n) e.call

-- the priority that an install asks for
unfoldable pub priority_requested : AdminCall → ℕ
priority_requested (install m r) = r.priority
priority_requested (delete m) = 0
priority_requested (lock m) = 0
priority_requested (unlock m) = 0

unfoldable pub priority_in : Entry → ℕ
priority_in e = of_admin 0 priority_requested e.call

-- Registrations: applet n sets, or clears, the event with this place.
unfoldable pub is_event : (event : ℕ) → Kind → Bool
is_event e (Event f) = f == e
is_event e Issuer = false
is_event e Reserved = false
is_event e Unsupported = false

unfoldable pub is_set : (applet event : ℕ) → EventCall → Bool
is_set n e (set_event m v) = m == n && is_event e (kind_of v)
is_set n e (clear_event m v) = false
is_set n e (ask_event m v) = false
is_set n e (request_poll m d) = false

unfoldable pub is_clear : (applet event : ℕ) → EventCall → Bool
is_clear n e (set_event m v) = false
is_clear n e (clear_event m v) = m == n && is_event e (kind_of v)
is_clear n e (ask_event m v) = false
is_clear n e (request_poll m d) = false

unfoldable pub sets : (applet event : ℕ) → Entry → Bool
sets n e x = of_event false (is_set n e) x.call

unfoldable pub clears : (applet event : ℕ) → Entry → Bool
clears n e x = of_event false (is_clear n e) x.call

-- Poll intervals: applet n requests one, and the seconds that it requests.
unfoldable pub is_request : (applet : ℕ) → EventCall → Bool
is_request n (set_event m v) = false
is_request n (clear_event m v) = false
is_request n (ask_event m v) = false
is_request n (request_poll m d) = m == n

unfoldable pub seconds_requested : EventCall → ℕ
seconds_requested (set_event m v) = 0
seconds_requested (clear_event m v) = 0
seconds_requested (ask_event m v) = 0
seconds_requested (request_poll m d) = seconds_of d

unfoldable pub requests : (applet : ℕ) → Entry → Bool
requests n e = of_event false (is_request n) e.call

unfoldable pub seconds_in : Entry → ℕ
seconds_in e = of_event 0 seconds_requested e.call

-- Timers: an allocation gave timer k to applet n; timer k is released.
unfoldable pub is_given : (timer applet given : ℕ) → TimerCall → Bool
is_given k n given (allocate m) = m == n && given == k
is_given k n given (release m j) = false

unfoldable pub is_release : (timer : ℕ) → TimerCall → Bool
is_release k (allocate m) = false
is_release k (release m j) = j == k

unfoldable pub gives : (timer applet : ℕ) → Entry → Bool
gives k n e = of_timer false (is_given k n e.answer.number) e.call

unfoldable pub releases : (timer : ℕ) → Entry → Bool
releases k e = of_timer false (is_release k) e.call

-- Menu entries: a new one is made; row i gets a new text and help mark, is enabled, is disabled.
unfoldable pub is_new : EntryCall → Bool
is_new (new_entry m help text) = true
is_new (change_entry m j help text) = false
is_new (enable_entry m j) = false
is_new (disable_entry m j) = false

unfoldable pub is_change : (identifier : ℕ) → EntryCall → Bool
is_change i (new_entry m help text) = false
is_change i (change_entry m j help text) = j == i
is_change i (enable_entry m j) = false
is_change i (disable_entry m j) = false

unfoldable pub is_enable : (identifier : ℕ) → EntryCall → Bool
is_enable i (new_entry m help text) = false
is_enable i (change_entry m j help text) = false
is_enable i (enable_entry m j) = j == i
is_enable i (disable_entry m j) = false

unfoldable pub is_disable : (identifier : ℕ) → EntryCall → Bool
is_disable i (new_entry m help text) = false
is_disable i (change_entry m j help text) = false
is_disable i (enable_entry m j) = false
is_disable i (disable_entry m j) = j == i

unfoldable pub makes : Entry → Bool
makes e = of_entry false is_new e.call

unfoldable pub changes : (identifier : ℕ) → Entry → Bool
changes i e = of_entry false (is_change i) e.call

unfoldable pub enables : (identifier : ℕ) → Entry → Bool
enables i e = of_entry false (is_enable i) e.call

unfoldable pub disables : (identifier : ℕ) → Entry → Bool
disables i e = of_entry false (is_disable i) e.call

-- the applet that the call names, and the text and help mark that it gives
unfoldable pub entry_applet : EntryCall → ℕ
entry_applet (new_entry m help text) = m
entry_applet (change_entry m j help text) = m
entry_applet (enable_entry m j) = m
entry_applet (disable_entry m j) = m

unfoldable pub entry_text : EntryCall → List ℕ
entry_text (new_entry m help text) = text
entry_text (change_entry m j help text) = text
entry_text (enable_entry m j) = []
entry_text (disable_entry m j) = []

unfoldable pub entry_help : EntryCall → Bool
entry_help (new_entry m help text) = help
entry_help (change_entry m j help text) = help
entry_help (enable_entry m j) = false
entry_help (disable_entry m j) = false

unfoldable pub applet_in : Entry → ℕ
applet_in e = of_entry 0 entry_applet e.call

unfoldable pub text_in : Entry → List ℕ
text_in e = of_entry [] entry_text e.call

unfoldable pub help_in : Entry → Bool
help_in e = of_entry false entry_help e.call

-- The terminal's side: a profile; a command is given to the terminal (by send, or handed out); its response.
unfoldable pub is_profile : ArrivalCall → Bool
is_profile (envelope bytes) = false
is_profile (profile bytes) = true
is_profile status = false
is_profile settled = false

-- a system command of length 0 hands out nothing
unfoldable pub is_command : (number : ℕ) → Call → Bool
is_command number (admin c) = false
is_command number (event c) = false
is_command number (entry c) = false
is_command number (timer c) = false
is_command number (arrival c) = false
is_command number next = false
is_command number (proactive (send n bytes)) = true
is_command number (proactive response) = false
is_command number (system_command buffer) = not (number == 0)

unfoldable pub is_response : Call → Bool
is_response (admin c) = false
is_response (event c) = false
is_response (entry c) = false
is_response (timer c) = false
is_response (arrival c) = false
is_response next = false
is_response (proactive (send n bytes)) = false
is_response (proactive response) = true
is_response (system_command buffer) = false

unfoldable pub profiles : Entry → Bool
profiles e = of_arrival false is_profile e.call

unfoldable pub commands : Entry → Bool
commands e = is_command e.answer.number e.call

unfoldable pub responds : Entry → Bool
responds e = is_response e.call
