-- What the calls about entries leave of the menu list.
use Rattle.std.specs.Prelude.{ℕ, Bool, false, ◌&&◌, List, take}
use Rattle.std.specs.Prelude.{if◌then◌else◌}
use Rattle.lists.specs.Lists.{some?, first, change}
use Rattle.rules.specs.declared.Pair.{Pair}
use Rattle.rules.specs.Holds.{Row, document}
use Rattle.rules.specs.Rows.{identifier_for, its_row}
use Rattle.rules.specs.Held.{no_row, stored_rows}
use Rattle.menu.specs.Table.{new_row, with_row}
use Rattle.menu_shown.specs.Chosen.{turns_text, turns_enabled}
use Rattle.menu_entries.specs.declared.Added.{Added}
use Rattle.menu_entries.specs.declared.Touched.{Touched}

-- a new entry: the rows with its row at the requested position, unless they are full, and the row's identifier
unfoldable pub entered_by : Pair → (owner : ℕ) (help : Bool) (text : List ℕ) → List Row → Added
entered_by p owner help text rows =
    record {
      rows = stored_rows (with_row p.position (new_row (identifier_for p.identifier rows) owner help (take document.text text)) rows);
      identifier = identifier_for p.identifier rows;
    }

-- the row with another help mark and text, or another enabled mark
abbrev pub with_words : (help : Bool) (text : List ℕ) → Row → Row
with_words help text r = record { identifier = r.identifier; owner = r.owner; text = text; help = help; enabled = r.enabled }

abbrev pub with_mark : (enabled : Bool) → Row → Row
with_mark b r = record { identifier = r.identifier; owner = r.owner; text = r.text; help = r.help; enabled = b }

-- a call that changes the first row that passes: the rows afterwards, whether there is one, and whether it turns
unfoldable pub turned_by : (passes : Row → Bool) → (Row → Row) → (turns : Row → Bool) → List Row → Touched
turned_by p f t rows = record { rows = stored_rows (change p f rows); its = some? p rows; turns = some? p rows && t (first p no_row rows) }

-- a call that changes none
unfoldable pub kept_by : (passes : Row → Bool) → List Row → Touched
kept_by p rows = record { rows = stored_rows rows; its = some? p rows; turns = false }

-- the applet's row with a help mark and the first 15 bytes of a text; as it was where the text does not fit
unfoldable pub reworded_by : (applet identifier : ℕ) (fits help : Bool) (text : List ℕ) → List Row → Touched
reworded_by n i fits help text rows = if fits then turned_by (its_row n i) (with_words help (take document.text text)) (turns_text help text) rows else kept_by (its_row n i) rows

-- the applet's row enabled, or disabled
unfoldable pub marked_by : (applet identifier : ℕ) (enabled : Bool) → List Row → Touched
marked_by n i b rows = turned_by (its_row n i) (with_mark b) (turns_enabled b) rows
