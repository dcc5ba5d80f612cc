-- `menu_entries::bit_of` meets its contract.
-- Assumes nothing.
use Rattle.menu_entries.proofs.Free.{no-bit, one_bit}
use native.Mathlib.Omega.{arith}
use borrow.Author.Rules.{rules}
use Rattle.menu_entries.proofs.bit_of.Goals as goal

pub returns-then-identifier-lt128 : goal.returns-then-identifier-lt128
returns-then-identifier-lt128 c = no-bit _ (λ j h z. omega (arith, c.if-identifier-lt128.true))

pub returns-then-k-lt32 : goal.returns-then-k-lt32
returns-then-k-lt32 c = one_bit _ (search rules) (search rules)

pub returns : goal.returns
returns c = no-bit _ (λ j h z. omega (arith, c.if-k-lt32.false))
