-- What change, enable and disable of an applet's row change of the shown menu.
-- Assumes nothing.
use Prim.Native.Nat.{ℕ}
use mathlib.Core.Path.{◌≡◌, refl, ap, ◌∙◌}
use mathlib.Core.Bool.{Bool, true, ◌&&◌}
use mathlib.Core.List.{List}
use Rattle.lists.specs.Lists.{some?, first}
use Rattle.rules.specs.Holds.{Tables, with_rows}
use Rattle.rules.specs.Applets.{applet}
use Rattle.rules.specs.Rows.{its_row, with_text, with_enabled}
use Rattle.rules.specs.Held.{no_row}
use Rattle.rules.specs.Commands.{selectable}
use Rattle.rules.specs.Desk.{menu_changes}
use Rattle.runs.specs.Sound.{SoundTables}
use Rattle.runs.proofs.Looked.{its-row, its-first}
use Rattle.menu.specs.Table.{row_with}
use Rattle.menu_shown.specs.Chosen.{turns_text, turns_enabled}
use Rattle.menu_shown.proofs.MenuByRows.{text-menu, enabled-menu}
use Rattle.menu_shown.proofs.MenuByApplets.{selectable-is}

-- The row of the applet is the row with the identifier, and its owner is the applet.
module _ (t : Tables) (s : SoundTables t) (n i : ℕ) (its : some? (its_row n i) t.rows ≡ true) where
  the_row : first (its_row n i) no_row t.rows ≡ row_with i t.rows
  unfolding row_with
  the_row = its-first t.rows n i (s.identifiers-apart i) its

  owner-selectable : selectable t (row_with i t.rows).owner ≡ (applet t n).selectable
  unfolding row_with
  owner-selectable = ap (selectable t) (its-row t s n i its) ∙ selectable-is t s.numbers_apart n

  pub enabled-shows : (on : Bool) → menu_changes t (with_rows t (with_enabled n i on t.rows)) ≡ ((applet t n).selectable && turns_enabled on (row_with i t.rows))
  enabled-shows on = enabled-menu t n i its on ∙ rw (the_row, owner-selectable) refl

  pub text-shows : (help : Bool) (text : List ℕ) → menu_changes t (with_rows t (with_text n i help text t.rows)) ≡ ((applet t n).selectable && turns_text help text (row_with i t.rows))
  text-shows help text = text-menu t n i its help text ∙ rw (the_row, owner-selectable) refl
