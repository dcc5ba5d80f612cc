use Rattle.std.proofs.Common.{rules}
use Rattle.lists.proofs.Picks.{picks}
use Rattle.script_line.specs.Words.{space?}
use Rattle.script_line.proofs.words.is_space.Goals as goal

pub returns-then-b-eq32 : goal.returns-then-b-eq32
unfolding space?
returns-then-b-eq32 c = search (picks, rules)

pub returns-else-b-eq32 : goal.returns-else-b-eq32
unfolding space?
returns-else-b-eq32 c = search (picks, rules)
