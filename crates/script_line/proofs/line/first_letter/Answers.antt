use Rattle.std.proofs.Common.{rules}
use Rattle.lists.proofs.Parts.{part-rest}
use Rattle.script_line.proofs.LineLaws.{means-blank, means-letter, means-word}
use Rattle.script_line.proofs.line.first_letter.Goals as goal

pub returns-in-empty : goal.returns-in-empty
returns-in-empty c = means-blank c.args.line.now c.skip_spaces.result.now c.skip_spaces.ensures (search rules)

pub returns-in-len1-up : goal.returns-in-len1-up
returns-in-len1-up c = means-letter c.args.line.now c.skip_spaces.result.now c.skip_spaces.ensures c.in-len1-up.len_at_least (part-rest c.skip_spaces.result.now 1) c.if-is_end.ensures

pub returns-in_default : goal.returns-in_default
returns-in_default c = means-word c.args.line.now c.skip_spaces.result.now c.skip_spaces.ensures c.in-len1-up.len_at_least (part-rest c.skip_spaces.result.now 1) c.if-is_end.ensures
