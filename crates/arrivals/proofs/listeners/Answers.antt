-- `listeners` meets its contract.
-- Assumes nothing.
use native.Mathlib.Omega.{arith}
use Rattle.arrivals.proofs.IsFor.{control-for, place-for, past-for}
use Rattle.arrivals.proofs.listeners.Goals as goal

pub returns-then-place-eq-CALL_CONTROL : goal.returns-then-place-eq-CALL_CONTROL
returns-then-place-eq-CALL_CONTROL c = control-for _ _ _ c.if-place-eq-CALL_CONTROL.true c.bit.ensures

pub returns-then-p-lt-EVENTS : goal.returns-then-p-lt-EVENTS
returns-then-p-lt-EVENTS c = place-for _ _ _ c.if-place-eq-CALL_CONTROL.false (omega arith)

pub returns : goal.returns
returns c = past-for _ _ _ (omega arith)
