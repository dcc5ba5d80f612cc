-- A call leaves a card that calls have left.
-- Assumes nothing.
use mathlib.Core.Path.{subst⁻¹}
use Rattle.card.specs.declared.Reply.{Reply}
use Rattle.card.specs.View.{Left}
use Rattle.card.specs.Replies.{replied}
use Rattle.card.proofs.Left.{left-again}
use Rattle.check_menus.proofs.emptied.Goals as goal

pub returns : goal.returns
unfolding replied
returns c = subst⁻¹ (λ (x : Reply). Left x.card) c.delete-changed.ensures (left-again _ _ c.requires)
