use Rattle.std.proofs.lemmas.Result.{err_from_is_err_and}
use Rattle.script_line.proofs.LineLaws.{applet-fails, applet-record, applet-wrong}
use Rattle.script_line.proofs.line.named.Goals as goal

pub returns-in_err-number : goal.returns-in_err-number
returns-in_err-number c =
    let p = err_from_is_err_and c.from_residual.result c.from_residual.ensures.1 in
    rw (p.1, p.2) (λ letter. applet-fails letter c.args.line.now c.args.kind c.in_err-number.ensures)

pub returns-in_err-arguments : goal.returns-in_err-arguments
returns-in_err-arguments c =
    let named = c.in_ok-number.ensures in
    let r = c.from_residual-in_err-arguments in
    let p = err_from_is_err_and r.result r.ensures.1 in
    rw (p.1, p.2) (λ letter. applet-wrong letter c.args.line.now c.args.kind named.0 named.1 c.in_err-arguments.ensures)

pub returns : goal.returns
returns c =
    let named = c.in_ok-number.ensures in
    let g = c.in_ok-arguments.ensures in
    record {
      few = g.few;
      means = λ letter. applet-record letter c.args.line.now c.args.kind named.0 named.1 g.said;
      kept = g.kept;
    }
