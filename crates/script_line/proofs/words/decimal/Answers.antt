use Rattle.std.proofs.Common.{rules, arith, sym, ◌∙◌}
use Rattle.lists.proofs.Picks.{picks}
use Rattle.script_line.specs.Words.{decimal_of}
use Rattle.script_line.proofs.WordLaws.{decimal-some, digits-none, digits-many, digits_more, digits-done}
use Rattle.script_line.proofs.words.decimal.Goals as goal

pub returns-then-is_empty : goal.returns-then-is_empty
unfolding decimal_of
returns-then-is_empty c = search (picks, rules)

pub returns-then-not-is_ascii_digit : goal.returns-then-not-is_ascii_digit
returns-then-not-is_ascii_digit c =
    let s = c.args.word.now in
    decimal-some s (search rules) (sym c.loop-b.invariant.1 ∙ digits-none s {at = c.loop-b.b-index} c.loop-b.value (search rules) c.if-not-is_ascii_digit.ensures.cases)

pub returns-then-value-gt65535 : goal.returns-then-value-gt65535
returns-then-value-gt65535 c =
    let s = c.args.word.now in
    let d = c.if-not-is_ascii_digit.ensures.cases in
    decimal-some s (search rules) (sym c.loop-b.invariant.1 ∙ digits-many s {at = c.loop-b.b-index} c.loop-b.value (search rules) d.0 d.1 (omega (arith, c.from.ensures)))

pub loop-b-preserved : goal.loop-b-preserved
loop-b-preserved c =
    let s = c.args.word.now in
    let d = c.if-not-is_ascii_digit.ensures.cases in
    (omega arith, rw c.from.ensures (sym (digits_more s {at = c.loop-b.b-index} c.loop-b.value (search rules) d.0 d.1 (omega (arith, c.from.ensures))) ∙ c.loop-b.invariant.1))

pub returns : goal.returns
returns c =
    let s = c.args.word.now in
    decimal-some s (search rules) (sym c.loop-b.invariant.1 ∙ digits-done s {at = c.loop-b.b-index} c.loop-b.value (search rules))
