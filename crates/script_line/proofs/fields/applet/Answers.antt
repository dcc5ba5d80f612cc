use Rattle.std.proofs.Common.{arith}
use Rattle.std.proofs.lemmas.Result.{err_from_is_err_and}
use Rattle.script_line.proofs.LineLaws.{applet-none, applet-bad, applet-large, applet-is}
use Rattle.script_line.proofs.fields.applet.Goals as goal

pub returns-in_default : goal.returns-in_default
returns-in_default c = applet-none c.args.line.now c.in_default.ensures

pub returns-in_err-decimal : goal.returns-in_err-decimal
returns-in_err-decimal c =
    let next = c.in-Some.ensures in
    let p = err_from_is_err_and c.from_residual.result c.from_residual.ensures.1 in
    rw (p.1, p.2) (applet-bad c.args.line.now next.0 next.1 c.in_err-decimal.ensures)

pub returns-in-Ok : goal.returns-in-Ok
returns-in-Ok c =
    let next = c.in-Some.ensures in
    let byte = c.in-Ok.ensures in
    (rw byte.1 (applet-is c.args.line.now next.0 next.1 c.in_ok-decimal.ensures (omega (arith, byte.0))), next.2)

pub returns-in-Err : goal.returns-in-Err
returns-in-Err c =
    let next = c.in-Some.ensures in
    applet-large c.args.line.now next.0 next.1 c.in_ok-decimal.ensures (omega (arith, c.in-Err.ensures))
