-- `menu_entries::free_identifier` meets its contract: the bits set are those of the rows that were looked at.
-- Assumes nothing.
use Rattle.menu_entries.proofs.Free.{used-none, used-more, free-is}
use Rattle.menu_entries.proofs.free_identifier.Goals as goal

pub loop-row-init : goal.loop-row-init
loop-row-init c = used-none c.args.listed.now

pub loop-row-preserved : goal.loop-row-preserved
loop-row-preserved c = used-more c.args.listed.now c.loop-row.row-index _ c.loop-row-test.true c.loop-row.invariant c.bit_of-used.ensures

pub returns : goal.returns
returns c = free-is c.args.listed.now c.requires c.loop-row-test.false c.loop-row.invariant
