-- `timers::between` meets its contract.
-- Assumes nothing.
use borrow.Author.Tests.{le-leb, lt-leb}
use Rattle.timers.specs.Sets.{is_between}
use Rattle.timers.proofs.between.Goals as goal

pub returns-then-first-n : goal.returns-then-first-n
unfolding is_between
returns-then-first-n c = simp (le-leb _ _ c.if-first-n.true)

pub returns-else-first-n : goal.returns-else-first-n
unfolding is_between
returns-else-first-n c = simp (lt-leb _ _ c.if-first-n.false)
