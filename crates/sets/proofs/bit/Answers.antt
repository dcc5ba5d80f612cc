-- `bit` meets its contract.
-- Assumes nothing.
use native.Mathlib.Omega.{arith}
use mathlib.Core.Path.{sym, ◌∙◌}
use Rattle.sets.proofs.Bits.{is-number, single-is, single-none}
use Rattle.sets.proofs.bit.Goals as goal

pub overflow_sub-result : goal.overflow_sub-result
overflow_sub-result c = omega (arith, is-number _ (sym c.is_number.ensures ∙ c.if-is_number.true))

pub overflow_shl-result : goal.overflow_shl-result
overflow_shl-result c = omega (arith, is-number _ (sym c.is_number.ensures ∙ c.if-is_number.true))

pub returns-then-is_number : goal.returns-then-is_number
returns-then-is_number c = single-is _ (sym c.is_number.ensures ∙ c.if-is_number.true)

pub returns-else-is_number : goal.returns-else-is_number
returns-else-is_number c = single-none _ (sym c.is_number.ensures ∙ c.if-is_number.false)
