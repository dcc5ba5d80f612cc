-- `floor_lines::shown_letter` meets its contract.
-- Assumes nothing.
use mathlib.Core.Path.{refl}
use Rattle.lists.proofs.Picks.{pick_yes, pick_no}
use Rattle.lists.specs.Lists.{in?, some?}
use Rattle.lists.specs.Text.{ascii}
use Rattle.rules.specs.Floor.{letters}
use Rattle.floor_lines.proofs.shown_letter.Goals as goal

pub returns-then-contains : goal.returns-then-contains
unfolding letters ascii in? some?
returns-then-contains c = pick_yes _ c.contains.ensures.value c.if-contains.true refl

pub returns-else-contains : goal.returns-else-contains
unfolding letters ascii in? some?
returns-else-contains c = pick_no _ c.contains.ensures.value c.if-contains.false refl
