use Rattle.std.proofs.Common.{rules, arith}
use Rattle.script_line.proofs.WordLaws.{skipped-hash, skipped-else, none-there}
use Rattle.script_line.proofs.words.skip_spaces.Goals as goal

pub returns-in-35 : goal.returns-in-35
returns-in-35 c = skipped-hash c.args.line.now c.spaces.ensures.count (search rules)

pub returns-in_default : goal.returns-in_default
returns-in_default c = skipped-else c.args.line.now c.spaces.ensures.count (none-there _ c.in_default.len_below (omega arith))

pub returns-in_default-2 : goal.returns-in_default-2
returns-in_default-2 c = skipped-else c.args.line.now c.spaces.ensures.count (search rules)
