-- `made` meets its contract.
-- Assumes nothing.
use mathlib.Core.Path.{ap, ◌∙◌}
use lib.Seq.{take_all}
use Rattle.lists.specs.Lists.{padded}
use Rattle.card.proofs.FreshCard.{fresh-is}
use Rattle.card.proofs.fresh.made.Goals as goal

pub returns : goal.returns
returns c =
    let title = c.args.title.now in
    fresh-is title c.no_roll-roll.ensures c.no_rows-rows.ensures (c.held-held.ensures ∙ ap (padded 20 0) (take_all 20 title c.requires)) c.no_round-round.ensures
