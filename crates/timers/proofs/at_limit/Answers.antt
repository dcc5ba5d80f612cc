-- `timers::at_limit` meets its contract: the ones of the applet's set are counted.
-- Assumes nothing.
use Rattle.timers.proofs.Owners.{held-ones}
use Rattle.timers.proofs.at_limit.Goals as goal

pub returns : goal.returns
returns c = held-ones _ _ _ _ _ c.capped.ensures c.owner_bits.ensures
