-- `interval` meets its contract: the loop goes from the last place to the first, and has the interval of those that it passed.
use Rattle.polling.proofs.Intervals.{interval-none, interval-yes, interval-no, interval-all}
use Rattle.polling.proofs.Requests.interval.Goals as goal

pub loop-i-init : goal.loop-i-init
loop-i-init c = interval-none _ _

pub loop-i-preserved-then-has : goal.loop-i-preserved-then-has
loop-i-preserved-then-has c = interval-yes _ _ _ c.loop-i-test.true c.loop-i.auto.i c.loop-i.invariant c.has.ensures c.if-has.true c.shorter-least.ensures

pub loop-i-preserved : goal.loop-i-preserved
loop-i-preserved c = interval-no _ _ _ c.loop-i-test.true c.loop-i.auto.i c.loop-i.invariant c.has.ensures c.if-has.false

pub returns : goal.returns
returns c = interval-all _ _ _ c.loop-i-test.false c.loop-i.invariant
