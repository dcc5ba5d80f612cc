use Rattle.std.proofs.Common.{rules, ◌≢◌, get_or, refl}
use Rattle.std.proofs.lemmas.Result.{err_from_is_err_and}
use Rattle.script_line.specs.Words.{minus, plus}
use Rattle.script_line.proofs.WordLaws.{signed-minus, signed-plus, none-there}
use Rattle.script_line.proofs.words.signed.Goals as goal
use Rattle.script_line.proofs.words.signed.Goals.{in_default-via-then-word-lt1, in_default-via-else-word-lt1+in_default-1}

pub returns-in_err-decimal-in-45 : goal.returns-in_err-decimal-in-45
unfolding minus
returns-in_err-decimal-in-45 c =
    let p = err_from_is_err_and c.from_residual.result c.from_residual.ensures.1 in
    rw (p.1, p.2) (signed-minus c.args.word.now (search rules) (search rules) (c.in_err-decimal-in-45.ensures) refl)

pub returns-in_err-decimal-in_default : goal.returns-in_err-decimal-in_default
unfolding plus
returns-in_err-decimal-in_default c =
    let n : get_or c.args.word.now 0 0 ≢ 0x2D = elim c.in_default.branch [ in_default-via-then-word-lt1 w ↦ search (none-there, rules) | in_default-via-else-word-lt1+in_default-1 w ↦ search rules ] in
    let p = err_from_is_err_and c.from_residual-in_err-decimal-in_default.result c.from_residual-in_err-decimal-in_default.ensures.1 in
    rw (p.1, p.2) (signed-plus c.args.word.now n (c.in_err-decimal-in_default.ensures) refl)

pub returns-in_ok-decimal-in_default : goal.returns-in_ok-decimal-in_default
returns-in_ok-decimal-in_default c =
    let n : get_or c.args.word.now 0 0 ≢ 0x2D = elim c.in_default.branch [ in_default-via-then-word-lt1 w ↦ search (none-there, rules) | in_default-via-else-word-lt1+in_default-1 w ↦ search rules ] in
    signed-plus c.args.word.now n (c.in_ok-decimal-in_default.ensures) c.positive.ensures
