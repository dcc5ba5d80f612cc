-- `both` meets its contract.
-- Assumes nothing.
use Rattle.sets.proofs.Bits.{both_is}
use Rattle.sets.proofs.both.Goals as goal

pub returns : goal.returns
returns c = both_is _ _ c.ranges.a.fits c.ranges.b.fits
