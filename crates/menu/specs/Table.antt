-- The menu list: a new row, an insertion, the row with an identifier, the one form of a row, and what every accepted call keeps.
use Rattle.std.specs.Prelude.{ℕ, suc, ◌≤◌, ◌≡◌, Bool, true, List, ◌++◌, length, take, drop, get_or}
use Rattle.lists.specs.Tests.{◌<?◌}
use Rattle.std.specs.Prelude.{if◌then◌else◌}
use Rattle.lists.specs.Lists.{first, count, insert_at}
use Rattle.rules.specs.declared.Row as held
use Rattle.rules.specs.Holds.{Row, document}
use Rattle.rules.specs.Rows.{has_identifier, place}
use Rattle.rules.specs.Held.{view_row, stored_row, no_row}

-- the row of a new entry: enabled
abbrev pub new_row : (identifier owner : ℕ) (help : Bool) (text : List ℕ) → Row
new_row i owner help text = record { identifier = i; owner = owner; text = text; help = help; enabled = true }

-- the rows with a new one at a requested position; a full list stays as it is
unfoldable pub with_row : (position : ℕ) → Row → List Row → List Row
with_row p x rows = if length rows <? document.rows then insert_at (place p (length rows)) x rows else rows

-- the row with this identifier; the empty row where there is none
unfoldable pub row_with : (identifier : ℕ) → List Row → Row
row_with i rows = first (has_identifier i) no_row rows

-- the row stands in its one form
pub record TidyRow (r : held.Row) : Type 0 where
  pub form : r ≡ stored_row (view_row r)

-- The new row stands in the list, and without it the list is what it was: each row that was there is there, in order.
pub record Beside (new : Row) (before after : List Row) : Type 0 where
  pub at : ℕ
  pub there : get_or after at no_row ≡ new
  pub others : take at after ++ drop (suc at) after ≡ before
  pub longer : length after ≡ suc (length before)

-- no two rows have one identifier
abbrev pub IdentifiersApart : List Row → Type 0
IdentifiersApart rows = (i : ℕ) → count (has_identifier i) rows ≤ 1
