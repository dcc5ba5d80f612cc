use Rattle.std.proofs.Common.{arith, ap, ◌∙◌, ◌+◌, ◌≤◌, ◌<◌, length, take, drop}
use Rattle.std.proofs.lemmas.List.{drop-drop, take_all}
use Rattle.lists.proofs.Parts.{part-rest}
use Rattle.script.specs.Texts.{line_length, first_line}
use Rattle.script.proofs.Blocks.{ended-line, ended-last, whole-line, none-behind, long-line}
use Rattle.script.proofs.next_line.Goals as goal

pub returns-in_default-len1-up : goal.returns-in_default-len1-up
unfolding first_line
returns-in_default-len1-up c =
    let text = c.args.text.now in
    let cut = c.split_at.ensures in
    let n = c.line_len.ensures.count in
    let within : line_length text < length text = omega (arith, cut.back_len, c.in_default-len1-up.len_at_least, n) in (
      ended-line text c.args.last within,
      cut.front ∙ ap (λ k. take k text) n,
      part-rest c.split_at.result.1.now 1 ∙ ap (drop 1) cut.back ∙ drop-drop 1 c.line_len.result text ∙ ap (λ k. drop (k + 1) text) n,
    )

pub returns-in_default-empty : goal.returns-in_default-empty
returns-in_default-empty c =
    let text = c.args.text.now in
    let cut = c.split_at.ensures in
    let n = c.line_len.ensures.count in
    let whole : length text ≤ line_length text = omega (arith, cut.back_len, c.in_default-empty.len_below, n) in
    let all : length text ≤ c.line_len.result = omega (arith, n) in
    (ended-last text c.if-last.true, cut.front ∙ take_all c.line_len.result text all ∙ whole-line text whole, none-behind text whole)

pub returns-in_default-empty-2 : goal.returns-in_default-empty-2
returns-in_default-empty-2 c =
    let text = c.args.text.now in
    let cut = c.split_at.ensures in
    let whole : length text ≤ line_length text = omega (arith, cut.back_len, c.in_default-empty.len_below, c.line_len.ensures.count) in
    long-line text whole (omega (arith, cut.front_len, c.line_len.ensures.count, c.if-line-gt200.true))
