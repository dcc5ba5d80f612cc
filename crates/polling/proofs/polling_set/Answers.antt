-- `polling_set` meets its contract: the loop goes from the last place to the first, and has the set of those that it passed.
use Rattle.std.proofs.Common.{arith}
use Rattle.polling.proofs.Intervals.{set-none, set-small, bit-few, set-with, set_all}
use Rattle.polling.proofs.polling_set.Goals as goal

pub loop-i-init : goal.loop-i-init
loop-i-init c = set-none _

pub overflow_mul-set : goal.overflow_mul-set
overflow_mul-set c = let small = set-small _ _ c.loop-i-test.true c.loop-i.auto.i c.loop-i.invariant in omega arith

pub overflow_add-set : goal.overflow_add-set
overflow_add-set c = let small = set-small _ _ c.loop-i-test.true c.loop-i.auto.i c.loop-i.invariant in omega (arith, bit-few _ c.from.ensures)

pub loop-i-preserved : goal.loop-i-preserved
loop-i-preserved c = set-with _ _ c.loop-i-test.true c.loop-i.auto.i c.loop-i.invariant _ c.from.ensures

pub returns : goal.returns
returns c = set_all _ _ c.loop-i-test.false c.loop-i.invariant
