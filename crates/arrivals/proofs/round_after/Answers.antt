-- `round_after` meets its contract: a refusal's number is not 0.
-- Assumes nothing.
use mathlib.Core.Path.{refl}
use Rattle.rules.proofs.Numbers.{accepted_number}
use Rattle.arrivals.proofs.round_after.Goals as goal

pub returns-in-Ok : goal.returns-in-Ok
returns-in-Ok c = rw (← accepted_number c.args.refusal, c.in-Ok.is) c.opened.ensures

pub returns-in-Err : goal.returns-in-Err
returns-in-Err c = rw (← accepted_number c.args.refusal, c.in-Err.is) refl
