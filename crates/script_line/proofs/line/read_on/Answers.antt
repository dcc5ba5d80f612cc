use Rattle.std.proofs.Common.{rules, arith, refl}
use Rattle.std.proofs.lemmas.Result.{err_from_is_err_and}
use Rattle.script_line.proofs.LineLaws.{bytes-record, bytes-wrong, alone-record, alone-wrong}
use Rattle.script_line.proofs.line.read_on.Goals as goal

pub returns-in_err-bytes-in-Bytes : goal.returns-in_err-bytes-in-Bytes
returns-in_err-bytes-in-Bytes c =
    let r = c.from_residual in
    let p = err_from_is_err_and r.result r.ensures.1 in
    rw (p.1, p.2, c.in-Bytes.is) (λ letter. bytes-wrong letter c.args.line.now (rw c.requires at c.in_err-bytes-in-Bytes.ensures))

pub returns-in_err-nothing_left-in-Alone : goal.returns-in_err-nothing_left-in-Alone
returns-in_err-nothing_left-in-Alone c =
    let r = c.from_residual-in_err-nothing_left-in-Alone in
    let p = err_from_is_err_and r.result r.ensures.1 in
    rw (p.1, p.2, c.in-Alone.is, c.in_err-nothing_left-in-Alone.ensures.cause) (λ letter. alone-wrong letter c.args.line.now (search rules))

pub returns-in_ok-bytes-in-Bytes : goal.returns-in_ok-bytes-in-Bytes
returns-in_ok-bytes-in-Bytes c =
    let g = c.in_ok-bytes-in-Bytes.ensures in
    let h = rw c.requires at g in
    rw c.in-Bytes.is (record {
      few = g.few;
      means = λ letter. bytes-record letter c.args.line.now h.said;
      kept = g.kept;
    })

pub returns-in_ok-nothing_left-in-Alone : goal.returns-in_ok-nothing_left-in-Alone
returns-in_ok-nothing_left-in-Alone c = rw c.in-Alone.is (record {
  few = omega arith;
  means = λ letter. alone-record letter c.args.line.now (search rules);
  kept = refl;
})
