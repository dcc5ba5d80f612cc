-- WHAT IS PROMISED of every card that the public functions have left, in the order of the demands (document 00): of the card's struct c,
-- of the calls that were seen on it, the newest first, and of any call more. What "the history" names is said in crates/history/specs, by
-- looking back over the accepted calls and their answers alone.
use Rattle.std.specs.Prelude.{ℕ, suc, ◌-◌, ◌≤◌, ◌<◌, ◌≡◌, ◌⊎◌, Bool, true, false, not, ◌&&◌, List, [], ◌∷◌, ◌++◌, map, length, take, drop, get_or}
use Rattle.std.specs.Prelude.{◌==◌}
use Rattle.lists.specs.Lists.{Every, some?, keep, count, first}
use Rattle.sets.specs.Sets.{has?}
use Rattle.rules.specs.Holds.{Row, document, nothing_due}
use Rattle.rules.specs.Held.{view_rows, view_arrival}
use Rattle.rules.specs.Events.{call_control}
use Rattle.rules.specs.Applets.{applet}
use Rattle.rules.specs.Rows.{has_identifier, in_use, next_pair}
use Rattle.rules.specs.Timers.{owner_of}
use Rattle.rules.specs.Envelopes.{envelope_of}
use Rattle.rules.specs.Arrivals.{no_marks, envelope_marks, other_marks}
use Rattle.rules.specs.Commands.{menu_of, is_menu}
use Rattle.rules.specs.Desk as desk
use Rattle.rules.specs.Desk.{due_matters}
use Rattle.rules.specs.Calls.{Call, ArrivalCall, refused_with, entry, arrival, next, proactive, system_command, new_entry, envelope, profile, status, settled, send, response}
use Rattle.rules.specs.Refusals.{Line, lines}
use Rattle.rules.specs.Step.{lent, front}
use Rattle.rules.specs.Beside.{menu_reader}
use Rattle.card.specs.declared.Card.{Card}
use Rattle.card.specs.View.{view, Left}
use Rattle.history.specs.Histories.{History, accepted}
use Rattle.history.specs.Named.{is_present, is_selectable, is_registered, owns_timer, poll_of, owns_control, one_to_eight, timer_owner, control_owner, rows_named, in_session, is_outstanding, profile_named}
use Rattle.history.specs.Called.{arrived, is_open, waits}
use Rattle.history.specs.Handed.{Seen, title_of, handed, handed_since, is_event_list, codes_handed, is_polling, last_polling, is_shown, codes_named, interval_named, polling_named}
use Rattle.history.specs.OnScreen.{wanted, OfPolling, left_due, MenuRight}
use Rattle.promises.specs.Watched.{entries_of, call_of, refusal_of, Next}
use Rattle.promises.specs.Turns.{Answers, NamesTheOldList}
use Rattle.promises.specs.OneShots.{SetAndTurned, FiresOnce}
use Rattle.promises.specs.DocumentOne.{Room, Already}

-- DEMAND 1. Every public call takes every input ..
pub record Taken (c : Card) (x : Call) : Type 0 where
  pub seen : Seen
  pub card : Card
  pub next : Next c seen card
  pub call : call_of seen ≡ x

-- .. a call on card c, seen as s, that hands back card k ..
pub record Judged (c : Card) (s : Seen) (k : Card) : Type 0 where
  -- .. gets a number only from a line of the refusals that lists the call and holds ..
  pub holds : 1 ≤ refusal_of s → some? (λ (x : Line). x.number == refusal_of s && x.holds) (lines (view c) (call_of s)) ≡ true
  -- .. and where a line holds it gets one, none higher than that line's: of several the lowest, and 0 just where none holds.
  pub lowest : Every (λ (x : Line). x.holds ≡ true → (1 ≤ refusal_of s) × (refusal_of s ≤ x.number)) (lines (view c) (call_of s))
  -- Refused, it hands the card back as it was, byte for byte, leaves every byte of a buffer lent to it, and gives its number only.
  pub refused : (n : ℕ) → refusal_of s ≡ suc n → (k ≡ c) × (s.buffer ≡ lent (call_of s)) × (s.entry.answer ≡ refused_with (suc n))
  -- No second answer, buffer or card meets the contract of the same call.
  pub no_second : (t : Seen) (j : Card) → Next c t j → call_of t ≡ call_of s → (t ≡ s) × (j ≡ k)

-- DEMAND 2. Registration and triggering order stand with demand 3 (registered, names-it). HANDLER AVAILABILITY: the proactive handler while
-- no command is outstanding (a profile ends it), the envelope handler with envelopes only, the response handler with call control and
-- unrecognized ones. A STATUS is never refused.
pub record Handlers (h : History) (s : Seen) : Type 0 where
  pub envelope-marks : (bytes : List ℕ) → refusal_of s ≡ 0 → call_of s ≡ arrival (envelope bytes) → s.entry.answer.marks ≡ envelope_marks (is_outstanding h) (envelope_of bytes)
  pub profile-marks : (bytes : List ℕ) → refusal_of s ≡ 0 → call_of s ≡ arrival (profile bytes) → s.entry.answer.marks ≡ other_marks false
  pub settled-marks : refusal_of s ≡ 0 → call_of s ≡ arrival settled → s.entry.answer.marks ≡ other_marks (is_outstanding h)
  pub status-marks : call_of s ≡ arrival status → (refusal_of s ≡ 0) × (s.entry.answer.marks ≡ other_marks (is_outstanding h))
  -- The marks stay those of the arrival: next answers none.
  pub next_marks : call_of s ≡ next → s.entry.answer.marks ≡ no_marks

-- MENU ORDER: the position that applet n requested for its next entry, and the row that this entry makes.
abbrev pub position_of : Card → (applet : ℕ) → ℕ
position_of c n = (next_pair (applet (view c).tables n)).position

abbrev pub new_row : Seen → (applet : ℕ) (help : Bool) (text : List ℕ) → Row
new_row s n help text = record { identifier = s.entry.answer.number; owner = n; text = text; help = help; enabled = true }

-- The rows before and after a call, with the positions that were requested.
pub record Orders (position : ℕ → ℕ) (before : List Row) (s : Seen) (after : List Row) : Type 0 where
  -- A new row stands at its place: position p from 1 to the row count shifts rows p and after down by one ..
  pub at_its_place : (n : ℕ) (help : Bool) (text : List ℕ) → call_of s ≡ entry (new_entry n help text) → refusal_of s ≡ 0
      → 1 ≤ position n → position n ≤ length before → after ≡ take (position n - 1) before ++ new_row s n help text ∷ drop (position n - 1) before
  -- .. 0, or more than the row count, means last.
  pub last : (n : ℕ) (help : Bool) (text : List ℕ) → call_of s ≡ entry (new_entry n help text) → refusal_of s ≡ 0
      → (position n ≡ 0) ⊎ (length before < position n) → after ≡ before ++ new_row s n help text ∷ []
  -- Whatever the call, the rows that stay keep their order among each other.
  pub kept : (p : ℕ → Bool) → ((i : ℕ) → p i ≡ true → in_use i after ≡ true) → ((i : ℕ) → p i ≡ true → in_use i before ≡ true)
      → keep p (map (λ (r : Row). r.identifier) after) ≡ keep p (map (λ (r : Row). r.identifier) before)

-- SYSTEM COMMANDS. An accepted system command ..
pub record HandsOut (asked : List ℕ) (h : History) (c : Card) (s : Seen) (k : Card) (buffer : List ℕ) : Type 0 where
  -- .. hands out the menu first, if it is due: the one that the history wants, and read back it is the title and the enabled rows of
  -- selectable applets in the menu list's order ..
  pub menu-first : c.desk.due.menu ≡ true → handed s ≡ wanted asked (view_rows c.rows) h desk.menu
  pub read_back : c.desk.due.menu ≡ true
      → menu_reader document (handed s) ≡ record { refusal = 0; menu = menu_of (title_of asked) (keep (is_shown h) (view_rows c.rows)) }
  -- .. then the event list, if that is due, with the codes that the history wants ..
  pub then-events : c.desk.due.menu ≡ false → c.desk.due.events ≡ true → handed s ≡ wanted asked (view_rows c.rows) h desk.event_list
  -- .. then POLL INTERVAL with the system interval that the history names, or POLLING OFF, whichever of them is due ..
  pub then-interval : c.desk.due.menu ≡ false → c.desk.due.events ≡ false → c.desk.due.interval ≡ true
      → handed s ≡ wanted asked (view_rows c.rows) h desk.poll_interval
  pub then-off : c.desk.due.menu ≡ false → c.desk.due.events ≡ false → c.desk.due.off ≡ true
      → handed s ≡ wanted asked (view_rows c.rows) h desk.polling_off
  -- .. else nothing, and the card is as it was ..
  pub else-nothing : c.desk.due ≡ nothing_due → (handed s ≡ []) × (k ≡ c)
  -- .. writes it at the front of the buffer, leaves the rest, and clears its mark.
  pub at-the-front : s.buffer ≡ front (handed s) buffer
  pub clears : k.desk.due ≡ left_due c.desk.due

-- Hand-outs into these buffers, each followed by its response.
pub data HandedOut : (c : Card) (buffers : List (List ℕ)) (k : Card) → Type 0 where
  none : {c : Card} → HandedOut c [] c
  then : {c d e k : Card} {s t : Seen} {b : List ℕ} {l : List (List ℕ)}
      → Next c s d → call_of s ≡ system_command b → Next d t e → call_of t ≡ proactive response → HandedOut e l k → HandedOut c (b ∷ l) k

-- What the calls do to the screen.
pub record Shows (asked : List ℕ) (h : History) (c : Card) (s : Seen) (k : Card) : Type 0 where
  pub hands_out : (buffer : List ℕ) → refusal_of s ≡ 0 → call_of s ≡ system_command buffer → HandsOut asked h c s k buffer
  -- It is accepted if nothing is outstanding and the buffer has 256 bytes.
  pub accepts : (buffer : List ℕ) → call_of s ≡ system_command buffer → c.desk.outstanding ≡ false → 256 ≤ length buffer → refusal_of s ≡ 0
  -- A SESSION BEGINS with POLL INTERVAL due exactly if the history names an interval, and POLLING OFF not ..
  pub begins : (bytes : List ℕ) → refusal_of s ≡ 0 → call_of s ≡ arrival (profile bytes) → OfPolling k.desk.due (not (interval_named h == 0)) false
  -- .. and in it a call that changes the interval marks POLL INTERVAL due if there is one now, else POLLING OFF, and the other not.
  pub turns : c.desk.session ≡ true → refusal_of s ≡ 0 → (interval_named h ≡ interval_named (s.entry ∷ h) → ⊥)
      → OfPolling k.desk.due (not (interval_named (s.entry ∷ h) == 0)) (interval_named (s.entry ∷ h) == 0)
  -- No applet changes the screen: what an accepted send gives the terminal is neither a menu nor an event list nor a command for polling.
  pub sent : (n : ℕ) (bytes : List ℕ) → refusal_of s ≡ 0 → call_of s ≡ proactive (send n bytes) → (is_menu document bytes ≡ false) × (is_event_list bytes ≡ false) × (is_polling bytes ≡ false)

-- DEMAND 3. The card's tables, after any calls, refused ones included, with this history of the accepted ones.
pub record Holds (asked : List ℕ) (h : History) (c : Card) : Type 0 where
  -- The menu list holds one row for each accepted menu entry whose applet has not been deleted since, and no other ..
  pub rows : (p : Row → Bool) → count p (view_rows c.rows) ≡ count p (rows_named h)
  -- .. (whatever is asked of a row, as many of both lists meet it), the count of rows is theirs ..
  pub row_count : c.rows.count ≡ length (rows_named h)
  -- .. all identifiers are different, whatever the titles ..
  pub apart : (i : ℕ) → count (has_identifier i) (view_rows c.rows) ≤ 1
  -- .. and the row with an identifier has the owner, text, help mark and enabled mark that the history names.
  pub row : (i : ℕ) (none : Row) → first (has_identifier i) none (view_rows c.rows) ≡ first (has_identifier i) none (rows_named h)
  -- The menu command always fits in 250 bytes.
  pub fits : length (wanted asked (view_rows c.rows) h desk.menu) ≤ 250
  -- Each timer has at most one owner, the one that the history names (0: nobody) ..
  pub timer : (k : ℕ) → owner_of c.bank.owner k ≡ timer_owner k h
  pub one-owner : (k n o : ℕ) → 1 ≤ n → 1 ≤ o → owns_timer k n h ≡ true → owns_timer k o h ≡ true → n ≡ o
  pub owned-count : (n : ℕ) → 1 ≤ n → count (λ o. o == n) c.bank.owner ≡ count (λ k. owns_timer k n h) one_to_eight
  -- .. and so has call control.
  pub control : c.control ≡ control_owner h
  pub one-control : (n o : ℕ) → 1 ≤ n → 1 ≤ o → owns_control n h ≡ true → owns_control o h ≡ true → n ≡ o
  -- The sets say who is registered for an event by its place (call control: its owner, above), who is there, and who is selectable.
  pub registered : (n e : ℕ) → e < 20 → (e == call_control) ≡ false → has? (get_or c.registered e 0) n ≡ is_registered n e h
  pub present : (n : ℕ) → has? c.roll.present n ≡ is_present n h
  pub selectable : (n : ℕ) → has? c.selectable n ≡ is_selectable n h
  -- The table of requests holds, by number, the poll interval that each last requested since it was installed.
  pub poll : (n : ℕ) → get_or (0 ∷ c.polls) n 0 ≡ poll_of n h
  pub applet-count : c.roll.count ≡ count (λ n. is_present n h) one_to_eight
  -- The title is the one that the card was made with (DocumentOne.antt); the profile, whether a session has begun and whether a command
  -- is outstanding are what the history names.
  pub title : take c.desk.title_len c.desk.title ≡ title_of asked
  pub profile : c.desk.profile ≡ profile_named h
  pub session : c.desk.session ≡ in_session h
  pub outstanding : c.desk.outstanding ≡ is_outstanding h
  -- Whether a round is open is what the history names; and while one is, so are what arrived and who waits for a turn in it.
  pub round-open : c.round.«open» ≡ is_open h
  pub arrived-so : is_open h ≡ true → view_arrival c.round.arrived ≡ arrived h
  pub waiting : is_open h ≡ true → (n : ℕ) → 1 ≤ n → has? c.round.waiting n ≡ waits n h

-- THE SCREEN.
pub record OnScreen (asked : List ℕ) (l : List Seen) (c : Card) : Type 0 where
  -- IN A SESSION, UNLESS THE MENU IS DUE, the menu that the terminal was last handed since the profile, read back, is exactly what the
  -- history wants (MenuRight, crates/history/specs/OnScreen.antt); unless the event list is due, so are the codes last handed.
  pub menu : c.desk.session ≡ true → c.desk.due.menu ≡ false → MenuRight asked l (view c) (accepted (entries_of l))
  pub codes : c.desk.session ≡ true → c.desk.due.events ≡ false → codes_handed l ≡ codes_named (accepted (entries_of l))
  -- Unless one of the two commands for polling is due, the last of them handed says the system interval that the history names, or that
  -- there is none. NEVER ARE BOTH DUE: POLL INTERVAL only while the history names an interval, POLLING OFF only while it names none.
  pub polling : c.desk.session ≡ true → c.desk.due.interval ≡ false → c.desk.due.off ≡ false
      → last_polling (handed_since l) ≡ polling_named (accepted (entries_of l))
  pub never_both : (c.desk.due.interval && c.desk.due.off) ≡ false
  pub interval-due : c.desk.due.interval ≡ true → 1 ≤ interval_named (accepted (entries_of l))
  pub off-due : c.desk.due.off ≡ true → interval_named (accepted (entries_of l)) ≡ 0
  -- AS MANY HAND-OUTS AS MATTERS ARE DUE, each followed by its response, leave nothing due.
  pub mends : (buffers : List (List ℕ)) (k : Card) → HandedOut c buffers k → c.desk.outstanding ≡ false → Every (λ (b : List ℕ). 256 ≤ length b) buffers
      → length (due_matters c.desk.due) ≤ length buffers → k.desk.due ≡ nothing_due

-- ALL OF IT, of a card c that was made with the title asked for, and the calls l that were seen on it.
pub record Promised (asked : List ℕ) (l : List Seen) (c : Card) : Type 0 where
  -- demand 1; and what the contract of every call takes for granted of a card holds of it
  pub left : Left c
  pub taken : (x : Call) → Taken c x
  pub judged : (s : Seen) (k : Card) → Next c s k → Judged c s k
  -- demand 2
  pub handlers : (s : Seen) (k : Card) → Next c s k → Handlers (accepted (entries_of l)) s
  pub orders : (s : Seen) (k : Card) → Next c s k → Orders (position_of c) (view_rows c.rows) s (view_rows k.rows)
  pub shows : (s : Seen) (k : Card) → Next c s k → Shows asked (accepted (entries_of l)) c s k
  -- demand 3
  pub holds : Holds asked (accepted (entries_of l)) c
  pub answers : (s : Seen) (k : Card) → Next c s k → Answers (accepted (entries_of l)) c s k
  -- .. an arrival followed at once by nexts names the list of document 01 (Turns.antt)
  pub old-list : (s : Seen) (d : Card) → Next c s d → (x : ArrivalCall) → refusal_of s ≡ 0 → call_of s ≡ arrival x → NamesTheOldList c x d
  -- .. a one-shot that is set, and then gets a turn in a round that settled opened, fires exactly once, wherever that stands in the calls (OneShots.antt)
  pub one-shots : (n : ℕ) (later : List Seen) (turn : Seen) (stretch : List Seen) (setting : Seen) (before : List Seen)
      → l ≡ later ++ (turn ∷ stretch ++ setting ∷ before) → SetAndTurned n later turn stretch setting before → FiresOnce n later turn stretch setting before
  -- the screen; and the card's room and what is so already (DocumentOne.antt)
  pub screen : OnScreen asked l c
  pub room : Room c
  pub already : (s : Seen) (k : Card) → Next c s k → Already (accepted (entries_of l)) c s k
