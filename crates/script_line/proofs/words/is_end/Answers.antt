use Rattle.std.proofs.Common.{rules, ◌∙◌}
use Rattle.script_line.proofs.WordLaws.{ended-none, ended-hash, ended-else}
use Rattle.script_line.proofs.words.is_end.Goals as goal

pub returns-in-len1-up : goal.returns-in-len1-up
returns-in-len1-up c = c.is_space.ensures ∙ ended-else c.args.line.now c.in-len1-up.len_at_least (search rules)

pub returns-in-empty : goal.returns-in-empty
returns-in-empty c = ended-none c.args.line.now c.in-empty.len_below

pub returns-in-empty-2 : goal.returns-in-empty-2
returns-in-empty-2 c = ended-hash c.args.line.now c.in-empty.len_at_least (search rules)
