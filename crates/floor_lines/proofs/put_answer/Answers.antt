-- `floor_lines::put_answer` meets its contract.
-- Assumes nothing.
use native.Mathlib.Omega.{arith}
use mathlib.Core.Path.{sym, ap, ◌∙◌}
use lib.ListN.{length}
use borrow.Author.Tests.{eqb-true, eqb-false}
use Rattle.writing.proofs.PutLaws.{puts_as}
use Rattle.floor_lines.proofs.LineLaws.{answer-none, answer-some, answer-fits}
use Rattle.floor_lines.proofs.put_answer.Goals as goal

pub put-requires : goal.put-requires
put-requires c = omega (arith, ap length (answer-none c.args.answer.now (eqb-true _ 0 (sym c.is_empty.ensures ∙ c.if-is_empty.true))))

pub returns-then-is_empty : goal.returns-then-is_empty
returns-then-is_empty c = puts_as (answer-none _ (eqb-true _ 0 (sym c.is_empty.ensures ∙ c.if-is_empty.true))) c.put.ensures

pub put_hex-requires : goal.put_hex-requires
put_hex-requires c = omega (arith, answer-fits c.args.answer.now (eqb-false _ 0 (sym c.is_empty.ensures ∙ c.if-is_empty.false)))

pub returns-else-is_empty : goal.returns-else-is_empty
returns-else-is_empty c = puts_as (answer-some _ (eqb-false _ 0 (sym c.is_empty.ensures ∙ c.if-is_empty.false))) c.put_hex.ensures
