-- `menu_entries::entered` meets its contract. The invariant: the rows from i on stand one place further down.
use Prim.Native.Nat.{◌≤◌}
use mathlib.Core.List.{map}
use Rattle.lists.proofs.Padded.{Open}
use Rattle.rules.specs.Held.{stored_row, view_rows}
use Rattle.menu.proofs.Tidy.{blank}
use Rattle.menu_entries.proofs.entered.Given as goal

abbrev pub invariant-loop-i : goal.invariant-loop-i
invariant-loop-i l = (l.k ≤ l.i) × (l.i ≤ l.n) × Open 12 blank (map stored_row (view_rows (record { at = l.initial.at; count = l.n }))) l.i l.at

abbrev pub decreases-loop-i : goal.decreases-loop-i
decreases-loop-i l = l.i
