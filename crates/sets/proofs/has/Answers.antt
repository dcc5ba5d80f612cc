-- `has` meets its contract.
-- Assumes nothing.
use native.Mathlib.Omega.{arith}
use mathlib.Core.Path.{sym, ◌∙◌}
use Rattle.sets.proofs.Bits.{is-number, has-read, has-none}
use Rattle.sets.proofs.has.Goals as goal

pub overflow_sub-result : goal.overflow_sub-result
overflow_sub-result c = omega (arith, is-number _ (sym c.is_number.ensures ∙ c.if-is_number.true))

pub overflow_shr-result : goal.overflow_shr-result
overflow_shr-result c = omega (arith, is-number _ (sym c.is_number.ensures ∙ c.if-is_number.true))

pub returns-then-is_number : goal.returns-then-is_number
returns-then-is_number c = has-read _ _ (sym c.is_number.ensures ∙ c.if-is_number.true)

pub returns-else-is_number : goal.returns-else-is_number
returns-else-is_number c = c.if-is_number.false ∙ has-none _ _ (sym c.is_number.ensures ∙ c.if-is_number.false)
