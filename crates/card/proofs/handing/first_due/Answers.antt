-- `first_due` meets its contract.
-- Assumes nothing.
use mathlib.Core.Path.{refl}
use Rattle.rules.proofs.Numbers.{accepted_number}
use Rattle.card.proofs.handing.first_due.Goals as goal

pub returns : goal.returns
returns c = rw (← accepted_number c.args.refusal, c.is_ok-accepted.ensures.value) refl
