-- `used_up` meets its contract.
-- Assumes nothing.
use Rattle.arrivals.proofs.Rounds.{spends, spends-not, spends-never}
use Rattle.arrivals.proofs.used_up.Goals as goal

pub returns-then-number-eq-HANDLER_AVAILABLE : goal.returns-then-number-eq-HANDLER_AVAILABLE
returns-then-number-eq-HANDLER_AVAILABLE c = spends _ _ c.if-kind-eq-EVENT.true c.if-number-eq-HANDLER_AVAILABLE.true c.bit.ensures

pub returns-else-number-eq-HANDLER_AVAILABLE : goal.returns-else-number-eq-HANDLER_AVAILABLE
returns-else-number-eq-HANDLER_AVAILABLE c = spends-not _ _ c.if-kind-eq-EVENT.true c.if-number-eq-HANDLER_AVAILABLE.false

pub returns-else-kind-eq-EVENT : goal.returns-else-kind-eq-EVENT
returns-else-kind-eq-EVENT c = spends-never _ _ c.if-kind-eq-EVENT.false
