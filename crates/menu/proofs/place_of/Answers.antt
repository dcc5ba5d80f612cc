-- `menu::place_of` meets its contract: at each return the tests that led there say which case of `place` holds.
-- Assumes nothing.
use Rattle.lists.proofs.Picks.{picks}
use Rattle.rules.specs.Rows.{place}
use borrow.Author.Rules.{rules}
use Rattle.menu.proofs.place_of.Goals as goal

pub returns-then-position-eq0 : goal.returns-then-position-eq0
unfolding place
returns-then-position-eq0 c = search (picks, rules)

pub returns-then-p-n : goal.returns-then-p-n
unfolding place
returns-then-p-n c = search (picks, rules)

pub returns : goal.returns
unfolding place
returns c = search (picks, rules)
