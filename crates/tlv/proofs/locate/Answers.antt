-- `tlv::locate` finds an element. The invariant: what is left to find from here on is what is to be found. The measure: the bytes left.
-- Assumes nothing.
use borrow.Author.Rules.{rules}
use Rattle.lists.proofs.Picks.{picks}
use Rattle.elements.proofs.Ends.{element-falls}
use Rattle.tlv.proofs.Runs.{left_by, left-case, left-broken}
use Rattle.tlv.proofs.locate.Goals as goal

pub loop-e-smaller-else-left-eq1 : goal.loop-e-smaller-else-left-eq1
loop-e-smaller-else-left-eq1 c = search (element-falls, rules)

pub loop-e-preserved-else-left-eq1 : goal.loop-e-preserved-else-left-eq1
unfolding left_by
loop-e-preserved-else-left-eq1 c = (search rules, search (left-case, picks, rules) depth 8)

pub loop-e-smaller : goal.loop-e-smaller
loop-e-smaller c = search (element-falls, rules)

pub loop-e-preserved : goal.loop-e-preserved
unfolding left_by
loop-e-preserved c = (search rules, search (left-case, picks, rules) depth 8)

pub returns-in_default : goal.returns-in_default
unfolding left_by
returns-in_default c = search (left-case, rules)

pub returns-in_default-2 : goal.returns-in_default-2
returns-in_default-2 c = search (left-broken, rules)

pub returns : goal.returns
unfolding left_by
returns c = search (left-case, picks, rules) depth 8
