-- `toolkit::toolkit_fresh` gives the card of `Card::fresh`, with the refusal's number.
-- Assumes nothing.
use Rattle.rules.specs.Holds.{document}
use Rattle.rules.specs.Beside.{fresh_card}
use Rattle.toolkit.proofs.BesideLaws.{made-is}
use Rattle.toolkit.proofs.toolkit_fresh.Goals as goal

pub returns : goal.returns
returns c = made-is (fresh_card document c.args.title.now) c.fresh-made.ensures
