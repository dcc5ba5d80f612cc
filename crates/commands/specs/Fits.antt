-- What a menu that is written is made of: the shown of rows in their one form, with texts of at most 15 bytes.
use Rattle.std.specs.Prelude.{ℕ, ◌≤◌, List, map, length}
use Rattle.lists.specs.Lists.{Every, gather, keep}
use Rattle.rules.specs.declared.Rows.{Rows}
use Rattle.rules.specs.Holds.{Row}
use Rattle.rules.specs.Held.{view_rows, TidyRows}
use Rattle.rules.specs.Commands.{Item, item_bytes}
use Rattle.menu_shown.specs.Chosen.{is_shown}

-- an item of the command for each row
abbrev pub item_of : Row → Item
item_of r = record { identifier = r.identifier; text = r.text }

abbrev pub items_of : List Row → List Item
items_of rows = map item_of rows

-- the bytes of rows, one item behind the other
unfoldable pub rows_bytes : List Row → List ℕ
rows_bytes rows = gather item_bytes (items_of rows)

-- a row's text fits in the place that a row has for it
abbrev pub Short : Row → Type 0
Short r = length r.text ≤ 15

pub record Fits (rows : Rows) : Type 0 where
  pub tidy : TidyRows rows
  pub short : Every Short (view_rows rows)

-- the rows that are written: those shown, by the set of the selectable applets
abbrev pub shown_of : (selectable : ℕ) → Rows → List Row
shown_of s rows = keep (is_shown s) (view_rows rows)
