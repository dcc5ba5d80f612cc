-- `floor_lines::put_refusal` meets its contract: a number below 256 has at most 3 digits.
-- Assumes nothing.
use native.Mathlib.Omega.{arith}
use mathlib.Core.Path.{sym, ap}
use borrow.Author.Rules.{rules}
use Rattle.writing.proofs.PutLaws.{puts_as}
use Rattle.floor_lines.specs.Texts.{refusal_text}
use Rattle.floor_lines.proofs.LineLaws.{decimal-3}
use Rattle.floor_lines.proofs.put_refusal.Goals as goal

pub put_decimal-requires : goal.put_decimal-requires
put_decimal-requires c = omega (arith, decimal-3 c.in-Some.number (search rules))

pub returns-in-Some : goal.returns-in-Some
unfolding refusal_text
returns-in-Some c = (puts_as (sym (ap refusal_text c.in-Some.is)) c.put_decimal.ensures, omega (arith, c.put_decimal.ensures.wrote.next, decimal-3 c.in-Some.number (search rules)))

pub returns-in-None : goal.returns-in-None
unfolding refusal_text
returns-in-None c = (puts_as (sym (ap refusal_text c.in-None.is)) c.put.ensures, omega (arith, c.put.ensures.wrote.next))
