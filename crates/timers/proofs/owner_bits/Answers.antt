-- `timers::owner_bits` meets its contract: the loop goes from the last owner to the first, and has the set of those that it passed.
-- Assumes nothing.
use Rattle.std.proofs.Common.{ap, ◌∙◌, arith}
use Rattle.timers.specs.Sets.{bit}
use Rattle.timers.proofs.Sets.{set-none, set_more, set-small, set-fits, test-bit}
use Rattle.timers.proofs.owner_bits.Goals as goal

pub loop-i-init : goal.loop-i-init
loop-i-init c = set-none _ c.args.owner 8 (omega arith)

pub overflow_mul-bits : goal.overflow_mul-bits
overflow_mul-bits c =
    let small = set-small _ _ _ _ (omega arith) c.loop-i-test.true c.loop-i.invariant in
    omega arith

pub overflow_add-bits : goal.overflow_add-bits
overflow_add-bits c =
    let small = set-fits _ _ _ _ _ (omega arith) c.loop-i-test.true c.loop-i.auto.i c.loop-i.invariant (c.from.ensures ∙ test-bit c.between.result ∙ ap bit c.between.ensures) in
    omega arith

pub loop-i-preserved : goal.loop-i-preserved
loop-i-preserved c = set_more _ _ _ _ _ c.loop-i-test.true (omega arith) c.loop-i.invariant (c.from.ensures ∙ test-bit c.between.result ∙ ap bit c.between.ensures)
