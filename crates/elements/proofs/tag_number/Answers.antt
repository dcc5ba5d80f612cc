-- `elements::tag_number` gives the number that a tag is compared by.
-- Assumes nothing.
use borrow.Author.Rules.{rules}
use Rattle.lists.proofs.Picks.{picks}
use Rattle.rules.specs.Bytes.{tag_number}
use Rattle.elements.proofs.Ends.{starts-long, starts-short}
use Rattle.elements.proofs.tag_number.Goals as goal

pub returns-then-size-eq3 : goal.returns-then-size-eq3
unfolding tag_number
returns-then-size-eq3 c = search (picks, starts-long, rules) depth 8

pub returns-else-size-eq3 : goal.returns-else-size-eq3
unfolding tag_number
returns-else-size-eq3 c = search (picks, starts-short, rules) depth 8
