use Rattle.rules.specs.Held.{view_row}
use Rattle.std.proofs.Common.{rules}
use Rattle.menu_shown.specs.Chosen.{turns_text}
use Rattle.menu_shown.proofs.turns_text.Goals as goal

pub returns-then-row-help : goal.returns-then-row-help
unfolding view_row turns_text
returns-then-row-help c = search rules

pub returns-else-row-help : goal.returns-else-row-help
unfolding view_row turns_text
returns-else-row-help c = search rules

pub returns-else-row : goal.returns-else-row
unfolding view_row turns_text
returns-else-row c = search rules
