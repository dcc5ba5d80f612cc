-- What the calls ask of the menu list: whom a row calls, and whether a call would change the shown menu.
use Rattle.std.specs.Prelude.{ℕ, Bool, not, ◌&&◌, ◌||◌, List}
use Rattle.std.specs.Bool.{beq}
use Rattle.std.specs.Prelude.{◌==◌}
use Rattle.lists.specs.Lists.{some?, first, same?}
use Rattle.sets.specs.Sets.{has?}
use Rattle.rules.specs.Holds.{Row}
use Rattle.rules.specs.Held.{no_row}

-- A choice counts for a row: it has the identifier and is enabled; a request for help also needs its help mark.
abbrev pub is_chosen : (identifier : ℕ) (help : Bool) → Row → Bool
is_chosen i help r = r.identifier == i && r.enabled && (r.help || not help)

-- Whom a menu choice or a request for help is for: the owner of the row for which it counts; else nobody.
unfoldable pub chosen_owner : (identifier : ℕ) (help : Bool) → List Row → ℕ
chosen_owner i help rows = (first (is_chosen i help) no_row rows).owner

-- the row is the applet's, and enabled
abbrev pub is_enabled_of : (applet : ℕ) → Row → Bool
is_enabled_of n r = r.owner == n && r.enabled

-- the applet has an enabled row: to lock, unlock or delete it may change the shown menu
unfoldable pub has_enabled_row : (applet : ℕ) → List Row → Bool
has_enabled_row n rows = some? (is_enabled_of n) rows

-- the row is shown where these applets are selectable: it is enabled, and its owner is one of them
abbrev pub is_shown : (selectable : ℕ) → Row → Bool
is_shown s r = r.enabled && has? s r.owner

-- some row is: the shown menu is not empty
unfoldable pub has_shown_row : (selectable : ℕ) → List Row → Bool
has_shown_row s rows = some? (is_shown s) rows

-- the row is enabled, and this help mark and text are not its own: to change it so may change the shown menu
unfoldable pub turns_text : (help : Bool) (text : List ℕ) → Row → Bool
turns_text help text r = r.enabled && not (same? r.text text && beq r.help help)

-- the enabled mark is not the row's own: to enable or disable it may change the shown menu
unfoldable pub turns_enabled : (enabled : Bool) → Row → Bool
turns_enabled b r = not (beq r.enabled b)
