-- `elements::tag_size` gives the size of the tag that a byte starts.
-- Assumes nothing.
use borrow.Author.Rules.{rules}
use Rattle.lists.specs.Lists.{some?, in?}
use Rattle.lists.proofs.Picks.{picks, by-case}
use Rattle.lists.proofs.Among.{in-others, in-none}
use Rattle.rules.specs.Bytes.{tag_size}
use Rattle.elements.proofs.tag_size.Goals as goal

pub returns-in-0 : goal.returns-in-0
unfolding tag_size in? some?
returns-in-0 c = search (by-case tag_size, rules)

pub returns-in-127 : goal.returns-in-127
unfolding tag_size in? some?
returns-in-127 c = search (by-case tag_size, rules)

pub returns-in_default : goal.returns-in_default
unfolding tag_size
returns-in_default c = search (picks, in-others, in-none, rules) depth 8
