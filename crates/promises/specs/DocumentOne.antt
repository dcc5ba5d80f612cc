-- SENTENCES OF DOCUMENT 01 beside the demands, over the card's struct and its calls as they were seen.
use Rattle.std.specs.Prelude.{ℕ, ◌≤◌, ◌<◌, ◌≡◌, true, false, ◌&&◌, List, [], length, ℤ}
use Rattle.std.specs.Prelude.{◌==◌}
use Rattle.lists.specs.Lists.{some?, first}
use Rattle.rules.specs.declared.Kind.TheVariants.{Event}
use Rattle.rules.specs.Holds.{Row}
use Rattle.rules.specs.Held.{no_row, stored_answer}
use Rattle.rules.specs.Events.{kind_of, not_to_set}
use Rattle.rules.specs.Rows.{has_identifier}
use Rattle.rules.specs.Calls.{accepted, refused_with, admin, event, entry, lock, unlock, set_event, clear_event, enable_entry, disable_entry}
use Rattle.card.specs.declared.Card.{Card}
use Rattle.card.specs.declared.Reply.{Reply}
use Rattle.history.specs.Histories.{History}
use Rattle.history.specs.Named.{is_present, is_selectable, is_registered, rows_named}
use Rattle.history.specs.Handed.{Seen, title_of}
use Rattle.promises.specs.Watched.{call_of, refusal_of}

-- A FRESH CARD takes a title of up to 20 bytes; a longer one is refused with 12, and the card has an empty title.
pub record Made (asked : List ℕ) (r : Reply) : Type 0 where
  pub with-title : length asked ≤ 20 → (r.answer ≡ stored_answer accepted) × (title_of asked ≡ asked)
  pub title-refused : 20 < length asked → (r.answer ≡ stored_answer (refused_with 12)) × (title_of asked ≡ [])

-- A card has at most 8 applets, at most 12 menu rows, and 8 timers.
pub record Room (c : Card) : Type 0 where
  pub applets : c.roll.count ≤ 8
  pub rows : c.rows.count ≤ 12
  pub timers : length c.bank.owner ≡ 8

-- the call is accepted, and the card is as it was
abbrev pub Unmoved : Card → Seen → Card → Type 0
Unmoved c s k = (refusal_of s ≡ 0) × (k ≡ c)

-- the history names a row of applet n with this identifier
abbrev pub ItsRow : (applet identifier : ℕ) → History → Type 0
ItsRow n i h = some? (λ (r : Row). r.identifier == i && r.owner == n) (rows_named h) ≡ true

-- TO LOCK, ENABLE OR SET WHAT IS SO ALREADY, or the reverse, is accepted and changes nothing: of an applet that is there ..
pub record Already (h : History) (c : Card) (s : Seen) (k : Card) : Type 0 where
  -- .. to lock one that is locked, and to unlock one that is selectable ..
  pub locked : (n : ℕ) → call_of s ≡ admin (lock n) → is_present n h ≡ true → is_selectable n h ≡ false → Unmoved c s k
  pub unlocked : (n : ℕ) → call_of s ≡ admin (unlock n) → is_present n h ≡ true → is_selectable n h ≡ true → Unmoved c s k
  -- .. to set an event, one that may be set, that is registered, and to clear one that is not ..
  pub set : (n e : ℕ) (v : ℤ) → call_of s ≡ event (set_event n v) → is_present n h ≡ true → kind_of v ≡ Event e → not_to_set (kind_of v) ≡ false
      → is_registered n e h ≡ true → Unmoved c s k
  pub cleared : (n e : ℕ) (v : ℤ) → call_of s ≡ event (clear_event n v) → is_present n h ≡ true → kind_of v ≡ Event e → not_to_set (kind_of v) ≡ false
      → is_registered n e h ≡ false → Unmoved c s k
  -- .. and to enable a row of its own that is enabled, and to disable one that is disabled.
  pub enabled : (n i : ℕ) → call_of s ≡ entry (enable_entry n i) → is_present n h ≡ true → ItsRow n i h → (first (has_identifier i) no_row (rows_named h)).enabled ≡ true → Unmoved c s k
  pub disabled : (n i : ℕ) → call_of s ≡ entry (disable_entry n i) → is_present n h ≡ true → ItsRow n i h → (first (has_identifier i) no_row (rows_named h)).enabled ≡ false → Unmoved c s k
