-- `without` meets its contract.
-- Assumes nothing.
use Rattle.sets.proofs.Bits.{without_is}
use Rattle.sets.proofs.without.Goals as goal

pub returns : goal.returns
returns c = without_is _ _ c.ranges.a.fits c.ranges.b.fits
