-- `floor_lines::Counter::new` meets its contract.
-- Assumes nothing.
use native.Mathlib.Omega.{arith}
use Rattle.floor_lines.proofs.LineLaws.{decimal-20}
use Rattle.floor_lines.proofs.Counting.{wrote-spells}
use Rattle.floor_lines.proofs.Counter.new.Goals as goal

pub write_decimal-len-requires : goal.write_decimal-len-requires
write_decimal-len-requires c = omega (arith, decimal-20 c.args.number c.ranges.number.fits)

pub invariant_of-result : goal.invariant_of-result
invariant_of-result c = record { spelled = wrote-spells c.write_decimal-len.ensures }
