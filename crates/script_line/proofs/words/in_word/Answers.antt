use Rattle.std.proofs.Common.{rules}
use Rattle.lists.proofs.Picks.{picks}
use Rattle.script_line.specs.Words.{in_word?}
use Rattle.script_line.proofs.words.in_word.Goals as goal

pub returns-then-b-ne35 : goal.returns-then-b-ne35
unfolding in_word?
returns-then-b-ne35 c = search (picks, rules)

pub returns-else-b-ne35 : goal.returns-else-b-ne35
unfolding in_word?
returns-else-b-ne35 c = search (picks, rules)
