-- `floor_lines::digit` meets its contract.
-- Assumes nothing.
use mathlib.Core.Path.{refl}
use Rattle.lists.proofs.Picks.{pick-lt, pick-nlt}
use Rattle.rules.specs.Floor as floor
use Rattle.floor_lines.proofs.digit.Goals as goal

pub returns-then-n-lt10 : goal.returns-then-n-lt10
unfolding floor.digit
returns-then-n-lt10 c = pick-lt _ c.if-n-lt10.true refl

pub returns-else-n-lt10 : goal.returns-else-n-lt10
unfolding floor.digit
returns-else-n-lt10 c = pick-nlt _ c.if-n-lt10.false refl
