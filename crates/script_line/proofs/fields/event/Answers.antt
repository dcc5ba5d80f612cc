use Rattle.std.proofs.Common.{rules, sym, ap, ◌∙◌, Ok}
use Rattle.std.proofs.lemmas.Result.{err_from_is_err_and}
use Rattle.script_line.proofs.LineLaws.{event-none, event-bad, event-is, last-yes, last-no}
use Rattle.script_line.proofs.fields.event.Goals as goal

pub returns-in_default : goal.returns-in_default
returns-in_default c = sym (event-none c.args.line.now c.in_default.ensures)

pub returns-in_err-value : goal.returns-in_err-value
returns-in_err-value c =
    let next = c.in-Some.ensures in
    let p = err_from_is_err_and c.from_residual.result c.from_residual.ensures.1 in
    rw (p.1, p.2) (sym (event-bad c.args.line.now next.0 next.1 c.in_err-value.ensures))

pub returns-in_err-nothing_left : goal.returns-in_err-nothing_left
returns-in_err-nothing_left c =
    let next = c.in-Some.ensures in
    let r = c.from_residual-in_err-nothing_left in
    let p = err_from_is_err_and r.result r.ensures.1 in
    rw (p.1, p.2, c.in_err-nothing_left.ensures.cause) (sym (event-is c.args.line.now next.0 next.1 c.in_ok-value.ensures next.2 ∙ last-no _ _ (search rules)))

pub returns : goal.returns
returns c =
    let next = c.in-Some.ensures in
    sym (event-is c.args.line.now next.0 next.1 c.in_ok-value.ensures next.2 ∙ last-yes _ _ (search rules) ∙ ap Ok (sym c.to_be_bytes.ensures))
