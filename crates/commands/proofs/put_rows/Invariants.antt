-- `put_rows` meets its contract. Assumes nothing.
use lib.ListN.{take}
use Rattle.lists.specs.Lists.{keep}
use Rattle.rules.specs.Held.{view_rows}
use Rattle.menu_shown.specs.Chosen.{is_shown}
use Rattle.writing.specs.Puts.{Puts}
use Rattle.commands.specs.Fits.{rows_bytes}
use Rattle.commands.proofs.put_rows.Given as goal

abbrev pub invariant-loop-row : goal.invariant-loop-row
invariant-loop-row l = Puts l.initial.out (rows_bytes (keep (is_shown l.selectable) (take l.row-index (view_rows l.rows)))) l.out
