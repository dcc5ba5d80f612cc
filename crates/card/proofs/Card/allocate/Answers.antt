-- `allocate` meets its contract.
-- Assumes nothing.
use Rattle.card.proofs.Timers.{allocates}
use Rattle.card.proofs.Card.allocate.Goals as goal

pub returns : goal.returns
returns c = allocates c.args.self c.requires c.args.applet c.has-there.ensures c.grant_at-grant.ensures c.owner_for-owner.ensures c.allocate-allocated.ensures
