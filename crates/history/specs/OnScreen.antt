-- THE SCREEN IS RIGHT: what is promised of calls as they were seen, the card that they have left, and its history.
use Rattle.std.specs.Prelude.{ℕ, ◌≤◌, ◌≡◌, Bool, true, false, not, ◌&&◌, List, [], ◌∷◌, map, length}
use Rattle.std.specs.Prelude.{if◌then◌else◌, ◌==◌}
use Rattle.lists.specs.Lists.{Every, some?, keep, count}
use Rattle.rules.specs.declared.Due.{Due}
use Rattle.rules.specs.Holds.{Row, Model, document, nothing_due}
use Rattle.rules.specs.Commands.{Item, menu_of, menu_bytes, event_bytes, interval_bytes, off_bytes, is_menu}
use Rattle.rules.specs.Desk as desk
use Rattle.rules.specs.Desk.{Matter, due_matters}
use Rattle.rules.specs.Calls.{Call, arrival, proactive, system_command, profile, send, response}
use Rattle.rules.specs.Step.{step}
use Rattle.rules.specs.Beside.{menu_reader}
use Rattle.history.specs.Histories.{did, History}
use Rattle.history.specs.Named.{rows_named, in_session, is_outstanding}
use Rattle.history.specs.Handed.{Seen, seen, title_of, handed, handed_since, last_menu, screen, is_event_list, codes_handed, is_polling, last_polling, is_shown, codes_named, interval_named, polling_named}

-- the item of a menu for a row
abbrev pub item_of : Row → Item
item_of r = record { identifier = r.identifier; text = r.text }

-- The menu that the terminal was last handed since the profile (none: the empty menu) ..
pub record MenuRight (asked : List ℕ) (l : List Seen) (m : Model) (h : History) : Type 0 where
  -- .. can be read back ..
  pub reads : (menu_reader document (last_menu (title_of asked) (handed_since l))).refusal ≡ 0
  -- .. stands under the card's title ..
  pub title : (screen (title_of asked) l).title ≡ title_of asked
  -- .. its items are the enabled rows of selectable applets, each with its own identifier and text, in the menu list's order ..
  pub in_order : (screen (title_of asked) l).items ≡ map item_of (keep (is_shown h) m.tables.rows)
  -- .. those of the rows that the history names, and no other: whatever is asked of an item, as many meet it ..
  pub named : (p : Item → Bool) → count p (screen (title_of asked) l).items ≡ count p (map item_of (keep (is_shown h) (rows_named h)))
  -- .. with the help mark exactly if one of them offers help.
  pub help : (screen (title_of asked) l).help ≡ some? (λ (r : Row). r.help) (keep (is_shown h) (rows_named h))

-- the command that the history wants for a matter, with these rows of the menu list
unfoldable pub wanted : (asked : List ℕ) → List Row → History → Matter → List ℕ
wanted asked rows h desk.menu = menu_bytes (menu_of (title_of asked) (keep (is_shown h) rows))
wanted asked rows h desk.event_list = event_bytes (codes_named h)
wanted asked rows h desk.poll_interval = interval_bytes (interval_named h)
wanted asked rows h desk.polling_off = off_bytes

-- of polling: whether POLL INTERVAL is due, and whether POLLING OFF is
abbrev pub OfPolling : Due → (interval off : Bool) → Type 0
OfPolling d interval off = (d.interval ≡ interval) × (d.off ≡ off)

-- what a hand-out leaves due: the menu's mark is cleared, or else that of the event list, or else that of polling
abbrev pub left_due : Due → Due
left_due due =
    if due.menu then record { menu = false; events = due.events; interval = due.interval; off = due.off } else
    if due.events then record { menu = false; events = false; interval = due.interval; off = due.off } else nothing_due

-- what a hand-out on this card hands out
abbrev pub command : Model → (buffer : List ℕ) → List ℕ
command m buffer = handed (seen (system_command buffer) (step m (system_command buffer)))

-- A hand-out ..
pub record HandsOut (asked : List ℕ) (m : Model) (h : History) (buffer : List ℕ) : Type 0 where
  -- .. hands out the menu first, if it is due, as the history wants it ..
  pub menu-first : m.desk.due.menu ≡ true → command m buffer ≡ wanted asked m.tables.rows h desk.menu
  -- .. then the event list, if that is due ..
  pub then-events : m.desk.due.menu ≡ false → m.desk.due.events ≡ true → command m buffer ≡ wanted asked m.tables.rows h desk.event_list
  -- .. then POLL INTERVAL with the system interval, or POLLING OFF, whichever of them is due ..
  pub then-interval : m.desk.due.menu ≡ false → m.desk.due.events ≡ false → m.desk.due.interval ≡ true
      → command m buffer ≡ wanted asked m.tables.rows h desk.poll_interval
  pub then-off : m.desk.due.menu ≡ false → m.desk.due.events ≡ false → m.desk.due.off ≡ true
      → command m buffer ≡ wanted asked m.tables.rows h desk.polling_off
  -- .. else nothing, and the card is as it was ..
  pub else-nothing : m.desk.due ≡ nothing_due → (command m buffer ≡ []) × ((step m (system_command buffer)).after ≡ m)
  -- .. and clears its mark.
  pub clears : (step m (system_command buffer)).after.desk.due ≡ left_due m.desk.due

-- the card after hand-outs into these buffers, each followed by its response
unfoldable pub hand_outs : (buffers : List (List ℕ)) → Model → Model
hand_outs [] m = m
hand_outs (b ∷ l) m = hand_outs l (step (step m (system_command b)).after (proactive response)).after

pub record ScreenRight (asked : List ℕ) (l : List Seen) (m : Model) (h : History) : Type 0 where
  -- IN A SESSION, UNLESS THE MENU IS DUE, the menu on the screen is right.
  pub menu : in_session h ≡ true → m.desk.due.menu ≡ false → MenuRight asked l m h
  -- IN A SESSION, UNLESS THE EVENT LIST IS DUE, the codes last handed since the profile (none: no codes) are exactly those that the
  -- history registers for a selectable applet.
  pub codes : in_session h ≡ true → m.desk.due.events ≡ false → codes_handed l ≡ codes_named h
  -- IN A SESSION, UNLESS ONE OF THE TWO COMMANDS FOR POLLING IS DUE, the last of them handed since the profile (none: POLLING OFF) says the
  -- system interval that the history names, or that there is none.
  pub polling : in_session h ≡ true → m.desk.due.interval ≡ false → m.desk.due.off ≡ false → last_polling (handed_since l) ≡ polling_named h
  -- NEVER ARE BOTH DUE: POLL INTERVAL is due only while the history names an interval, POLLING OFF only while it names none.
  pub never_both : (m.desk.due.interval && m.desk.due.off) ≡ false
  pub interval-due : m.desk.due.interval ≡ true → 1 ≤ interval_named h
  pub off-due : m.desk.due.off ≡ true → interval_named h ≡ 0
  -- A SESSION BEGINS with POLL INTERVAL due exactly if the history names an interval, and POLLING OFF not ..
  pub begins : (bytes : List ℕ) → (step m (arrival (profile bytes))).answer.refusal ≡ 0
      → OfPolling (step m (arrival (profile bytes))).after.desk.due (not (interval_named h == 0)) false
  -- .. and in it a call that changes the interval marks POLL INTERVAL due if there is one now, else POLLING OFF, and the other not.
  pub turns : (x : Call) → in_session h ≡ true → (step m x).answer.refusal ≡ 0
      → (interval_named h ≡ interval_named (did x (step m x).answer ∷ h) → ⊥)
      → OfPolling (step m x).after.desk.due (not (interval_named (did x (step m x).answer ∷ h) == 0)) (interval_named (did x (step m x).answer ∷ h) == 0)
  -- NO APPLET CHANGES THEM: what an accepted send gives the terminal is neither a menu nor an event list nor a command for polling.
  pub sent : (n : ℕ) (bytes : List ℕ) → (step m (proactive (send n bytes))).answer.refusal ≡ 0
      → (is_menu document bytes ≡ false) × (is_event_list bytes ≡ false) × (is_polling bytes ≡ false)
  -- The menu that the history wants can be read back.
  pub read_back : menu_reader document (wanted asked m.tables.rows h desk.menu) ≡ record { refusal = 0; menu = menu_of (title_of asked) (keep (is_shown h) m.tables.rows) }
  -- AN ACCEPTED HAND-OUT mends what is due, the menu first.
  pub hand-out : (buffer : List ℕ) → (step m (system_command buffer)).answer.refusal ≡ 0 → HandsOut asked m h buffer
  -- It is accepted if nothing is outstanding and the buffer has 256 bytes.
  pub accepts : (buffer : List ℕ) → is_outstanding h ≡ false → 256 ≤ length buffer → (step m (system_command buffer)).answer.refusal ≡ 0
  -- AS MANY HAND-OUTS AS MATTERS ARE DUE, each followed by its response, leave nothing due: with nothing outstanding and buffers of 256 bytes.
  pub mends : (buffers : List (List ℕ)) → is_outstanding h ≡ false → Every (λ (b : List ℕ). 256 ≤ length b) buffers
      → length (due_matters m.desk.due) ≤ length buffers → (hand_outs buffers m).desk.due ≡ nothing_due
