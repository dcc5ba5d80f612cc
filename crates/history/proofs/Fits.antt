-- The menu command of a sound card fits in 250 bytes.
-- Assumes nothing.
use Prim.Native.Nat.{ℕ, ◌+◌, ◌*◌, ◌≤◌}
use native.Mathlib.Omega.{arith}
use mathlib.Core.Path.{◌≡◌, ap}
use mathlib.Core.Bool.{◌&&◌}
use mathlib.Core.List.{List, [], ◌∷◌}
use lib.ListN.{length, length-append}
use Rattle.lists.specs.Lists.{Every, keep, gather, empty?}
use Rattle.lists.proofs.Keep.{length-keep}
use Rattle.lists.proofs.Every.{every-so, every-keep, every_map}
use Rattle.lists.proofs.Mapped.{map-length}
use Rattle.rules.specs.Holds.{Row, Bounds, Model, document}
use Rattle.rules.specs.Commands.{Item, Menu, selectable, shown_menu, menu_of, length_bytes, command_bytes, detail_bytes, item_bytes, items_bytes, menu_value, menu_bytes}
use Rattle.rules.proofs.Listed.{length_most}
use Rattle.runs.specs.Sound.{Sound, SoundRow}

abbrev Short : Item → Type 0
Short i = length i.text ≤ 15

gathered : (l : List Item) → Every Short l → length (gather item_bytes l) ≤ 18 * length l
unfolding gather item_bytes Every
gathered [] e = omega arith
gathered (i ∷ l) e = omega (arith, e.0, gathered l e.1, length-append i.text (gather item_bytes l))

items-fit : (l : List Item) → Every Short l → length l ≤ 12 → length (items_bytes l) ≤ 216
unfolding items_bytes empty?
items-fit [] e h = omega arith
items-fit (i ∷ l) e h = omega (arith, gathered (i ∷ l) e)

command-fits : (v : List ℕ) → length (command_bytes v) ≤ 3 + length v
unfolding command_bytes
command-fits v = omega (arith, length-append (length_bytes (length v)) v, length_most (length v))

value-fits : (m : Menu) → length (menu_value m) ≤ 11 + length m.title + length (items_bytes m.items)
unfolding menu_value detail_bytes
value-fits m = omega (arith, length-append m.title (items_bytes m.items))

pub menu-fits : (m : Model) → m.tables.bounds ≡ document → Sound m
    → length (menu_bytes (menu_of m.desk.title (shown_menu m.tables))) ≤ 250
unfolding menu_bytes menu_of shown_menu
menu-fits m b s =
    omega (arith, command-fits (menu_value menu), value-fits menu, items-fit menu.items short few, s.title, ap (λ (z : Bounds). z.title) b)
  where
    shown : List Row
    shown = keep (λ (r : Row). r.enabled && selectable m.tables r.owner) m.tables.rows

    menu : Menu
    menu = menu_of m.desk.title shown

    few : length menu.items ≤ 12
    few = omega (arith, map-length {B = Item} (λ (r : Row). record { identifier = r.identifier; text = r.text }) shown, length-keep (λ (r : Row). r.enabled && selectable m.tables r.owner) m.tables.rows, s.tables.few-rows, ap (λ (z : Bounds). z.rows) b)

    short : Every Short menu.items
    short =
        every_map Short _ shown
        (every-so _ _ (λ r q. omega (arith, q.0.text-to, ap (λ (z : Bounds). z.text) b)) shown
        (every-keep (SoundRow m.tables) _ m.tables.rows s.tables.each_row))
