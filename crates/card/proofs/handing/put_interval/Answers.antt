-- `put_interval` meets its contract.
-- Assumes nothing.
use Rattle.card.proofs.Written.{interval-wrote}
use Rattle.card.proofs.handing.put_interval.Goals as goal

pub returns : goal.returns
returns c = interval-wrote _ _ c.interval-seconds.ensures c.write_interval.ensures
