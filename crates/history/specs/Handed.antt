-- What the terminal was handed, by looking back over the calls, their answers and what they left in the lent buffers; and what the
-- history wants there.
use Rattle.std.specs.Prelude.{ℕ, Bool, ◌&&◌, ◌||◌, List, [], ◌∷◌, ◌++◌, map, take, drop}
use Rattle.std.specs.Prelude.{if◌then◌else◌, ◌==◌, Ok}
use Rattle.lists.specs.Lists.{some?, keep, first, same?, smallest}
use Rattle.rules.specs.declared.Envelope.TheVariants.{Download}
use Rattle.rules.specs.Holds.{Row, document, status}
use Rattle.rules.specs.Events.{codes}
use Rattle.rules.specs.Bytes.{byte}
use Rattle.rules.specs.Arrivals.{arrival_of}
use Rattle.rules.specs.Commands.{Menu, menu_of, menu_bytes, event_bytes, command_bytes, detail_bytes, interval_bytes, off_bytes, value_of, is_menu}
use Rattle.rules.specs.Calls.{Call, Outcome}
use Rattle.rules.specs.Step.{step}
use Rattle.rules.specs.Beside.{fresh_card, menu_reader}
use Rattle.rules.specs.Runs.{card_after}
use Rattle.history.specs.Histories.{Entry, did, History}
use Rattle.history.specs.Deeds.{profiles}
use Rattle.history.specs.Named.{is_selectable, poll_of, one_to_eight}
use Rattle.history.specs.Called.{is_callable}

-- The title that a fresh card takes: the one asked for, or the empty one where that is too long.
abbrev pub title_of : (title : List ℕ) → List ℕ
title_of title = (fresh_card document title).card.desk.title

-- One call as it is seen from outside: the call, its answer, and what stands in the lent buffer afterwards (empty where none is lent).
pub record Seen : Type 0 where
  pub entry : Entry
  pub buffer : List ℕ

abbrev pub seen : Call → Outcome → Seen
seen c o = record { entry = did c o.answer; buffer = o.buffer }

-- calls on a fresh card with this title, as they are seen; the newest call stands first
unfoldable pub seen_of : (title : List ℕ) → List Call → List Seen
seen_of title [] = []
seen_of title (c ∷ calls) = seen c (step (card_after document title calls) c) ∷ seen_of title calls

-- The command that a call handed out: as many bytes from the front of the buffer as its answer says. Often there are none.
unfoldable pub handed : Seen → List ℕ
handed s = take s.entry.answer.number s.buffer

-- an accepted profile begins a session
unfoldable pub begins : Seen → Bool
begins s = s.entry.answer.refusal == 0 && profiles s.entry

-- The commands handed out since the last accepted profile, the newest first.
unfoldable pub handed_since : List Seen → List (List ℕ)
handed_since [] = []
handed_since (s ∷ l) = if begins s then [] else handed s ∷ handed_since l

-- The last of them that is a menu, the empty menu's where there is none; and THE SCREEN: that menu as the menu reader reads it.
unfoldable pub last_menu : (title : List ℕ) (commands : List (List ℕ)) → List ℕ
last_menu title l = first (is_menu document) (menu_bytes (menu_of title [])) l

unfoldable pub screen : (title : List ℕ) → List Seen → Menu
screen title l = (menu_reader document (last_menu title (handed_since l))).menu

-- An event list: its codes stand behind the first 11 bytes of its value, and writing them gives the very same bytes.
unfoldable pub codes_in : List ℕ → List ℕ
codes_in s = drop 11 (value_of s)

unfoldable pub is_event_list : List ℕ → Bool
is_event_list s = same? (event_bytes (codes_in s)) s

-- The last of the commands that is an event list, one of no codes where there is none; and THE CODES that it says.
unfoldable pub last_list : (commands : List (List ℕ)) → List ℕ
last_list l = first is_event_list (event_bytes []) l

unfoldable pub codes_handed : List Seen → List ℕ
codes_handed l = codes_in (last_list (handed_since l))

-- POLLING OFF, or POLL INTERVAL with any unit and count.
unfoldable pub is_polling : List ℕ → Bool
is_polling s = same? off_bytes s || same? (command_bytes (detail_bytes 0x03 0x00 ++ 0x84 ∷ 0x02 ∷ byte s 13 ∷ byte s 14 ∷ [])) s

-- The last of the commands that is one of these; POLLING OFF where there is none.
unfoldable pub last_polling : (commands : List (List ℕ)) → List ℕ
last_polling l = first is_polling off_bytes l

-- What the history wants on the screen: an enabled row of a selectable applet.
unfoldable pub is_shown : History → Row → Bool
is_shown h r = r.enabled && is_selectable r.owner h

-- The codes that it wants: those for whose download some selectable applet is registered.
unfoldable pub codes_named : History → List ℕ
codes_named h = keep (λ code. some? (is_callable h (arrival_of (Ok (Download code)))) one_to_eight) codes

-- The system interval that it names, in seconds: the smallest request of a selectable applet; 0 where there is none.
unfoldable pub interval_named : History → ℕ
interval_named h = smallest (map (λ n. poll_of n h) (keep (is_callable h status) one_to_eight))

-- The command for polling that it wants: that interval, or POLLING OFF where there is none.
unfoldable pub polling_named : History → List ℕ
polling_named h = if interval_named h == 0 then off_bytes else interval_bytes (interval_named h)
