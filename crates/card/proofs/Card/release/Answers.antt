-- `release` meets its contract.
-- Assumes nothing.
use Rattle.card.proofs.Timers.{releases}
use Rattle.card.proofs.Card.release.Goals as goal

pub returns : goal.returns
returns c = releases c.args.self c.requires c.args.applet c.has-there.ensures c.args.timer c.owner_for-owner.ensures c.release-released.ensures
