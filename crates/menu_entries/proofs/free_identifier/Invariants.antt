-- `menu_entries::free_identifier` meets its contract: the bits set are those of the rows that were looked at.
use mathlib.Core.Path.{◌≡◌}
use Rattle.menu_entries.proofs.Free.{used_to}
use Rattle.menu_entries.proofs.free_identifier.Given as goal

abbrev pub invariant-loop-row : goal.invariant-loop-row
invariant-loop-row l = l.used ≡ used_to l.row-index l.fn.listed
