use Rattle.rules.specs.Held.{view_row}
use Rattle.std.proofs.Common.{rules}
use Rattle.menu_shown.proofs.is_shown.Goals as goal

pub returns-then-row : goal.returns-then-row
unfolding view_row
returns-then-row c = search rules

pub returns-else-row : goal.returns-else-row
unfolding view_row
returns-else-row c = search rules
