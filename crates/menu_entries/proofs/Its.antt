-- Where identifiers are apart, the row of an applet with an identifier is the row with that identifier: so the calls about it
-- leave what the rules say. Assumes nothing.
use Prim.Native.Nat.{ℕ}
use mathlib.Core.Path.{◌≡◌, refl, sym, ◌∙◌}
use mathlib.Core.Bool.{Bool, true, false, not}
use mathlib.Core.List.{List}
use lib.ListN.{length, take}
use borrow.Author.Tests.{ltb-false}
use Rattle.lists.specs.Lists.{some?, first, change}
use Rattle.lists.proofs.Truth.{not-not}
use Rattle.lists.proofs.Search.{some_is, change-none}
use Rattle.rules.specs.Holds.{Row}
use Rattle.rules.specs.Rows.{its_row, not_its_row, with_text, with_enabled}
use Rattle.rules.specs.Held.{no_row, stored_rows}
use Rattle.runs.proofs.Looked.{its-first}
use Rattle.menu.specs.Table.{row_with, IdentifiersApart}
use Rattle.menu_shown.specs.Chosen.{turns_text, turns_enabled}
use Rattle.menu_entries.specs.ItsRow.{with_words, with_mark, turned_by, kept_by, reworded_by, marked_by}

module _ (rows : List Row) (n i : ℕ) where
  pub its-known : some? (its_row n i) rows ≡ not (not_its_row n i rows)
  unfolding not_its_row
  its-known = not-not (some? (its_row n i) rows)

  -- there is such a row
  module _ (apart : IdentifiersApart rows) (its : some? (its_row n i) rows ≡ true) where
    same_first : first (its_row n i) no_row rows ≡ row_with i rows
    unfolding row_with
    same_first = its-first rows n i (apart i) its

    pub its-marked : (b : Bool) → marked_by n i b rows ≡ record { rows = stored_rows (with_enabled n i b rows); its = true; turns = turns_enabled b (row_with i rows) }
    unfolding marked_by turned_by with_enabled
    its-marked b = rw (its, same_first) refl

    pub its-reworded : (help : Bool) (text : List ℕ) → reworded_by n i true help text rows ≡ record { rows = stored_rows (with_text n i help (take 15 text) rows); its = true; turns = turns_text help text (row_with i rows) }
    unfolding reworded_by turned_by with_text
    its-reworded help text = rw (its, same_first) refl

  -- there is none, or the text does not fit
  module _ (none : some? (its_row n i) rows ≡ false) where
    no_change : (f : Row → Row) → change (its_row n i) f rows ≡ rows
    no_change f = change-none (its_row n i) f rows (ltb-false _ (length rows) (sym (some_is (its_row n i) rows) ∙ none))

    pub none-marked : (b : Bool) → marked_by n i b rows ≡ record { rows = stored_rows rows; its = false; turns = false }
    unfolding marked_by turned_by
    none-marked b = rw (no_change (with_mark b), none) refl

    pub none-reworded : (fits help : Bool) (text : List ℕ) → reworded_by n i fits help text rows ≡ record { rows = stored_rows rows; its = false; turns = false }
    unfolding reworded_by turned_by kept_by
    none-reworded true help text = rw (no_change (with_words help (take 15 text)), none) refl
    none-reworded false help text = rw none refl

  pub kept-reworded : (help : Bool) (text : List ℕ) → reworded_by n i false help text rows ≡ record { rows = stored_rows rows; its = some? (its_row n i) rows; turns = false }
  unfolding reworded_by kept_by
  kept-reworded help text = refl

  -- in each case it is said whether there is such a row
  pub marked-says : (b : Bool) → (marked_by n i b rows).its ≡ some? (its_row n i) rows
  unfolding marked_by turned_by
  marked-says b = refl

  pub reworded-says : (fits help : Bool) (text : List ℕ) → (reworded_by n i fits help text rows).its ≡ some? (its_row n i) rows
  unfolding reworded_by turned_by kept_by
  reworded-says true help text = refl
  reworded-says false help text = refl
