-- `floor_lines::put_hex` meets its contract: the loop has spelled the bytes before the index.
-- Assumes nothing.
use Rattle.floor_lines.proofs.LineLaws.{spelled_none, spelled-more}
use Rattle.floor_lines.proofs.put_hex.Goals as goal

pub loop-b-init : goal.loop-b-init
loop-b-init c = spelled_none _ _ c.requires

pub loop-b-preserved : goal.loop-b-preserved
loop-b-preserved c = spelled-more _ _ c.requires _ c.loop-b-test.true c.loop-b.invariant c.digit.ensures c.digit-in-loop-b.ensures c.put.ensures
