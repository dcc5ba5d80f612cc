-- Document 01's table of proved cases and its easy slips, and those of polling and of rounds (document 02, Asks 1 and 2), each about `step` on
-- a card that calls have left; proved in proofs/Cases.antt.
use Rattle.std.specs.Prelude.{ℕ, ◌≡◌, true, false, List, [], ◌∷◌, ◌++◌, map, reverse, replicate, ℤ, pos, Ok, Err}
use Rattle.lists.specs.Text.{bytes}
use Rattle.rules.specs.declared.Pair.{Pair}
use Rattle.rules.specs.declared.Due.{Due}
use Rattle.rules.specs.Holds.{Row, Model, document, nothing_due}
use Rattle.rules.specs.Bytes.{malformed, length_at}
use Rattle.rules.specs.Events.{minus}
use Rattle.rules.specs.Commands.{interval, duration_bytes, interval_bytes, off_bytes}
use Rattle.rules.specs.Calls.{Call, admin, event, entry, timer, arrival, next, proactive, system_command}
use Rattle.rules.specs.Calls.{install, delete, lock, unlock, set_event, request_poll, new_entry, enable_entry, disable_entry, allocate, release, envelope, profile, status, settled, response}
use Rattle.rules.specs.Step.{step}
use Rattle.rules.specs.Beside.{bank_allocate}
use Rattle.rules.specs.Runs.{card_after}

-- the card that calls have left, made in this order
abbrev pub left_by : List Call → Model
left_by l = card_after document [] (reverse l)

-- the refusal, and the number, that a call answers after others
abbrev pub refusal_after : List Call → Call → ℕ
refusal_after l c = (step (left_by l) c).answer.refusal

abbrev pub number_after : List Call → Call → ℕ
number_after l c = (step (left_by l) c).answer.number

abbrev pub pair : ℕ → ℕ → Pair
pair p i = record { position = p; identifier = i }

-- an install of applet n with timer limit t, entry limit e, text limit x and these pairs; one that asks for no identifier
abbrev pub installing : (n t e x : ℕ) → List Pair → Call
installing n t e x pairs = admin (install n (record { priority = 5; timers = t; entries = e; text = x; pairs = pairs }))

abbrev pub plain : (n t e : ℕ) → Call
plain n t e = installing n t e 15 (replicate 4 (pair 0 0))

-- a new entry of applet 1, with a text of n bytes
abbrev pub entry_of : ℕ → Call
entry_of n = entry (new_entry 1 false (replicate n 65))

-- rows 1, 2, 3, and then 9 at position p: the identifiers in menu order
abbrev pub rows_with9_at : ℕ → List ℕ
rows_with9_at p =
    map (λ (r : Row). r.identifier)
    (left_by (installing 1 0 4 15 (pair 0 1 ∷ pair 0 2 ∷ pair 0 3 ∷ pair p 9 ∷ []) ∷ replicate 4 (entry_of 6))).tables.rows

-- applets 1 and 2; call control set by 1, which is locked
abbrev pub control_set : List Call
control_set = plain 1 0 0 ∷ plain 2 0 0 ∷ event (set_event 1 (pos 9)) ∷ admin (lock 1) ∷ []

-- three applets with entry limits 4, 4, 4
abbrev pub four_each : List Call
four_each = plain 1 0 4 ∷ plain 2 0 4 ∷ plain 3 0 4 ∷ []

-- an applet with text limit 15
abbrev pub text_to15 : List Call
text_to15 = plain 1 0 4 ∷ []

pub record Cases : Type 0 where
  -- Rows 1,2,3: new 9 at 2 gives 1,9,2,3; at 3 gives 1,2,9,3; at 4, 20 or 0 gives 1,2,3,9.
  pub row-at-2 : rows_with9_at 2 ≡ 1 ∷ 9 ∷ 2 ∷ 3 ∷ []
  pub row-at-3 : rows_with9_at 3 ≡ 1 ∷ 2 ∷ 9 ∷ 3 ∷ []
  pub row-at-4 : rows_with9_at 4 ≡ 1 ∷ 2 ∷ 3 ∷ 9 ∷ []
  pub row-at-20 : rows_with9_at 20 ≡ 1 ∷ 2 ∷ 3 ∷ 9 ∷ []
  pub row-at-0 : rows_with9_at 0 ≡ 1 ∷ 2 ∷ 3 ∷ 9 ∷ []
  -- Call control set by 1, locked: set by 2 gets 9; after delete of 1 it is accepted.
  pub control-owned : refusal_after control_set (event (set_event 2 (pos 9))) ≡ 9
  pub control-freed : refusal_after (control_set ++ admin (delete 1) ∷ []) (event (set_event 2 (pos 9))) ≡ 0
  -- Timers 1, 3 owned: next is 2. In the card, and in a bank standing alone.
  pub timer-between : number_after (plain 1 8 0 ∷ replicate 3 (timer (allocate 1)) ++ timer (release 1 2) ∷ []) (timer (allocate 1)) ≡ 2
  pub timer-in-bank : (bank_allocate (1 ∷ 0 ∷ 2 ∷ 0 ∷ 0 ∷ 0 ∷ 0 ∷ 0 ∷ []) 3 8).answer.number ≡ 2
  -- Eight owned by others, limit 1: 14.
  pub timers-taken : refusal_after (plain 1 8 0 ∷ plain 2 1 0 ∷ replicate 8 (timer (allocate 1))) (timer (allocate 2)) ≡ 14
  pub bank-taken : (bank_allocate (replicate 8 1) 2 1).answer.refusal ≡ 14
  -- Entry limits 4,4,4 install; one more applet with 1 gets 5, with 0 is accepted.
  pub third-of-four : refusal_after (plain 1 0 4 ∷ plain 2 0 4 ∷ []) (plain 3 0 4) ≡ 0
  pub one-more-with-1 : refusal_after four_each (plain 4 0 1) ≡ 5
  pub one-more-with-0 : refusal_after four_each (plain 4 0 0) ≡ 0
  -- Length 81 7F malformed, 81 80 read. As a length, and in envelopes with so many bytes.
  pub length-7F : length_at (bytes "81 7F") 0 ≡ Err malformed
  pub length-80 : length_at (bytes "81 80") 0 ≡ Ok (record { len = 0x80; next = 2 })
  pub envelope-7F : refusal_after [] (arrival (envelope (bytes "C1 81 7F 01 7D" ++ replicate 125 0))) ≡ 1
  pub envelope-80 : refusal_after [] (arrival (envelope (bytes "C1 81 80 01 7E" ++ replicate 126 0))) ≡ 0
  -- Text 15 taken, 16 refused with 12.
  pub text-15 : refusal_after text_to15 (entry_of 15) ≡ 0
  pub text-16 : refusal_after text_to15 (entry_of 16) ≡ 12

-- the rows' identifiers in menu order, and the applet that a next names
abbrev pub rows_after : List Call → List ℕ
rows_after l = map (λ (r : Row). r.identifier) (left_by l).tables.rows

abbrev pub next_after : List Call → List ℕ
next_after l = (step (left_by l) next).answer.called

-- an applet with rows 1 and 2, locked, and another whose entry asks for position 2
abbrev pub locked_rows : List Call
locked_rows =
    installing 1 0 2 15 (pair 0 1 ∷ pair 0 2 ∷ [])
    ∷ entry_of 6
    ∷ entry_of 6
    ∷ admin (lock 1)
    ∷ installing 2 0 1 15 (pair 2 9 ∷ [])
    ∷ entry (new_entry 2 false (bytes "41"))
    ∷ []

-- an applet registered for the proactive handler, and locked when the moment settles
abbrev pub locked_one_shot : List Call
locked_one_shot = plain 1 0 0 ∷ event (set_event 1 (pos 123)) ∷ admin (lock 1) ∷ arrival settled ∷ []

pub record Slips : Type 0 where
  -- Rows with equal text are two rows.
  pub equal-texts : rows_after (plain 1 0 4 ∷ replicate 3 (entry_of 6)) ≡ 128 ∷ 129 ∷ 130 ∷ []
  -- Locked rows count when positions are counted.
  pub locked-rows-count : rows_after locked_rows ≡ 1 ∷ 9 ∷ 2 ∷ []
  -- A locked applet's one-shot stays, fires once it is unlocked, and is used up then.
  pub locked-not-called : next_after locked_one_shot ≡ []
  pub one-shot-stays : next_after (locked_one_shot ++ next ∷ admin (unlock 1) ∷ arrival settled ∷ []) ≡ 1 ∷ []
  pub one-shot-used-up : next_after (locked_one_shot ++ next ∷ admin (unlock 1) ∷ arrival settled ∷ next ∷ next ∷ arrival settled ∷ []) ≡ []

-- a request of applet n
abbrev pub asking : (n : ℕ) (duration : ℤ) → Call
asking n d = event (request_poll n d)

-- applets 1, 2 and 3 with these requests; then a session, its POLL INTERVAL handed out and responded to
abbrev pub three : (one two three : ℕ) → List Call
three a b c = plain 1 0 0 ∷ plain 2 0 0 ∷ plain 3 0 0 ∷ asking 1 (pos a) ∷ asking 2 (pos b) ∷ asking 3 (pos c) ∷ []

abbrev pub polled : (one two three : ℕ) → List Call
polled a b c = three a b c ++ arrival (profile (bytes "FF")) ∷ system_command (replicate 256 0) ∷ proactive response ∷ []

-- whom three nexts name
abbrev pub named_after : List Call → List (List ℕ)
named_after l = next_after l ∷ next_after (l ++ next ∷ []) ∷ next_after (l ++ next ∷ next ∷ []) ∷ []

-- what is due after calls; and what of polling is due where nothing else is
abbrev pub due_by : List Call → Due
due_by l = (left_by l).desk.due

abbrev pub interval_due : Due
interval_due = record { menu = false; events = false; interval = true; off = false }

abbrev pub off_due : Due
off_due = record { menu = false; events = false; interval = false; off = true }

pub record Polled : Type 0 where
  -- 1 to 15300 seconds, 0 and -1 are taken; any other duration gets 20, and 2 comes first.
  pub taken-1 : refusal_after (plain 1 0 0 ∷ []) (asking 1 (pos 1)) ≡ 0
  pub taken-15300 : refusal_after (plain 1 0 0 ∷ []) (asking 1 (pos 15300)) ≡ 0
  pub taken-choice : refusal_after (plain 1 0 0 ∷ []) (asking 1 (minus 1)) ≡ 0
  pub refused-15301 : refusal_after (plain 1 0 0 ∷ []) (asking 1 (pos 15301)) ≡ 20
  pub refused-below : refusal_after (plain 1 0 0 ∷ []) (asking 1 (minus 2)) ≡ 20
  pub absent-first : refusal_after (plain 1 0 0 ∷ []) (asking 2 (minus 2)) ≡ 2
  -- Requests 20 and 0: the interval is 20; the card's choice is none.
  pub none-not-smallest : interval (left_by (three 20 0 300)).tables ≡ 20
  pub choice-is-none : interval (left_by (three 20 0 300 ++ asking 1 (minus 1) ∷ [])).tables ≡ 300
  -- A STATUS calls those whose request is not none, the later installed first, and no locked one.
  pub status-calls : named_after (three 20 0 300 ++ arrival status ∷ []) ≡ (3 ∷ []) ∷ (1 ∷ []) ∷ [] ∷ []
  pub status-locked : named_after (three 20 0 300 ++ admin (lock 3) ∷ arrival status ∷ []) ≡ (1 ∷ []) ∷ [] ∷ [] ∷ []
  -- Once handed out, nothing is due. Lock of the one with the smallest request marks POLL INTERVAL, of another or of one that shares it
  -- nothing, of the only one POLLING OFF; unlock and delete mark too.
  pub handed_out : due_by (polled 20 0 300) ≡ nothing_due
  pub smallest-locked : due_by (polled 20 0 300 ++ admin (lock 1) ∷ []) ≡ interval_due
  pub other-locked : due_by (polled 20 0 300 ++ admin (lock 3) ∷ []) ≡ nothing_due
  pub sharer-locked : due_by (polled 20 20 300 ++ admin (lock 1) ∷ []) ≡ nothing_due
  pub only-locked : due_by (polled 20 0 0 ++ admin (lock 1) ∷ []) ≡ off_due
  pub unlocked-again : due_by (polled 20 0 0 ++ admin (lock 1) ∷ admin (unlock 1) ∷ []) ≡ interval_due
  pub smallest-deleted : due_by (polled 20 0 300 ++ admin (delete 1) ∷ []) ≡ interval_due
  pub only-deleted : due_by (polled 20 0 0 ++ admin (delete 1) ∷ []) ≡ off_due
  -- A locked applet's request changes nothing; its unlock does.
  pub locked-request : due_by (three 0 0 0 ++ admin (lock 1) ∷ arrival (profile (bytes "FF")) ∷ asking 1 (pos 20) ∷ []) ≡ nothing_due
  pub request-unlocked : due_by (three 0 0 0 ++ admin (lock 1) ∷ arrival (profile (bytes "FF")) ∷ asking 1 (pos 20) ∷ admin (unlock 1) ∷ []) ≡ interval_due
  -- A further profile takes POLLING OFF away.
  pub off-gone : due_by (polled 20 0 0 ++ admin (lock 1) ∷ arrival (profile (bytes "FF")) ∷ []) ≡ nothing_due
  -- 300 to 310 seconds marks though the bytes are the same.
  pub seconds-count : due_by (polled 300 0 0 ++ asking 1 (pos 310) ∷ []) ≡ interval_due
  pub same_bytes : interval_bytes 310 ≡ interval_bytes 300
  -- Seconds up to 255, else minutes rounded down.
  pub in-seconds : duration_bytes 255 ≡ bytes "84 02 01 FF"
  pub in-minutes : duration_bytes 256 ≡ bytes "84 02 00 04"
  pub rounded-down : duration_bytes 359 ≡ bytes "84 02 00 05"
  pub the-longest : duration_bytes 15300 ≡ bytes "84 02 00 FF"
  -- The commands.
  pub interval-bytes : interval_bytes 20 ≡ bytes "D0 0D 81 03 01 03 00 82 02 81 82 84 02 01 14"
  pub off-bytes : off_bytes ≡ bytes "D0 09 81 03 01 04 00 82 02 81 82"

-- an unrecognized envelope, which nobody is registered for
abbrev pub for_nobody : Call
for_nobody = arrival (envelope (bytes "C1 00"))

-- a STATUS for applets 3 and 1
abbrev pub status_round : List Call
status_round = three 20 0 300 ++ arrival status ∷ []

-- applet 1 with row 128, and a choice of that row
abbrev pub one_row : List Call
one_row = plain 1 0 1 ∷ entry_of 6 ∷ []

abbrev pub choosing : Call
choosing = arrival (envelope (bytes "D3 07 82 02 01 81 90 01 80"))

-- applet 1 with a one-shot and a request for polling
abbrev pub one_shot : List Call
one_shot = plain 1 0 0 ∷ event (set_event 1 (pos 123)) ∷ asking 1 (pos 20) ∷ []

pub record Rounds : Type 0 where
  -- 21 with no round open. An arrival for which nobody is registered opens one; next finds nobody and ends it.
  pub none_open : refusal_after [] next ≡ 21
  pub empty-opens : refusal_after (for_nobody ∷ []) (arrival settled) ≡ 22
  pub empty-next : refusal_after (for_nobody ∷ []) next ≡ 0
  pub empty-ends : refusal_after (for_nobody ∷ next ∷ []) next ≡ 21
  pub settled-then : refusal_after (for_nobody ∷ next ∷ []) (arrival settled) ≡ 0
  -- The round goes on after its last name, and after the delete of the last one left; settled opens one itself.
  pub last-named : refusal_after (status_round ++ next ∷ next ∷ []) (arrival settled) ≡ 22
  pub last-deleted : refusal_after (one_shot ++ arrival status ∷ admin (delete 1) ∷ []) (arrival settled) ≡ 22
  pub settled-opens : refusal_after (arrival settled ∷ []) (arrival settled) ≡ 22
  -- 16 before 22; next with a command outstanding.
  pub outstanding-first : refusal_after (three 20 0 0 ++ arrival (profile (bytes "FF")) ∷ system_command (replicate 256 0) ∷ []) (arrival settled) ≡ 16
  pub next-outstanding : refusal_after (three 20 0 0 ++ arrival (profile (bytes "FF")) ∷ system_command (replicate 256 0) ∷ []) next ≡ 0
  -- Locked while it waits, an applet is not named; unlocked late, it may follow a later one.
  pub locked-waiting : next_after (status_round ++ next ∷ admin (lock 1) ∷ []) ≡ []
  pub unlocked-late : named_after (three 20 0 300 ++ admin (lock 3) ∷ arrival status ∷ next ∷ admin (unlock 3) ∷ []) ≡ (3 ∷ []) ∷ [] ∷ [] ∷ []
  -- A late request does not join; one that was lost and regained counts, one that is lost does not.
  pub late : named_after (status_round ++ asking 2 (pos 20) ∷ []) ≡ (3 ∷ []) ∷ (1 ∷ []) ∷ [] ∷ []
  pub regained : next_after (status_round ++ asking 3 (pos 0) ∷ asking 3 (pos 9) ∷ []) ≡ 3 ∷ []
  pub lost : next_after (status_round ++ asking 3 (pos 0) ∷ []) ≡ 1 ∷ []
  -- A deleted applet's number leaves the round for good.
  pub installed-again : named_after (status_round ++ admin (delete 3) ∷ plain 3 0 0 ∷ asking 3 (pos 20) ∷ []) ≡ (1 ∷ []) ∷ [] ∷ [] ∷ []
  -- A row counts if it is enabled at both moments.
  pub enabled-both : next_after (one_row ++ choosing ∷ entry (disable_entry 1 128) ∷ entry (enable_entry 1 128) ∷ []) ≡ 1 ∷ []
  pub disabled-then : next_after (one_row ++ choosing ∷ entry (disable_entry 1 128) ∷ []) ≡ []
  pub disabled-before : next_after (one_row ++ entry (disable_entry 1 128) ∷ choosing ∷ entry (enable_entry 1 128) ∷ []) ≡ []
  -- Any accepted arrival replaces the round; a refused one leaves it.
  pub replaced : next_after (status_round ++ for_nobody ∷ []) ≡ []
  pub refused-leaves : next_after (status_round ++ arrival (profile []) ∷ []) ≡ 3 ∷ []
  -- A one-shot is not used up as settled opens, nor at a turn of another round, but at its turn in settled's.
  pub not-as-it-opens : next_after (one_shot ++ arrival settled ∷ arrival status ∷ next ∷ next ∷ arrival settled ∷ []) ≡ 1 ∷ []
  pub used-at-its-turn : next_after (one_shot ++ arrival settled ∷ next ∷ next ∷ arrival settled ∷ []) ≡ []
