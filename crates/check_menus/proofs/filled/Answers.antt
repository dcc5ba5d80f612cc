-- Each call leaves a card that calls have left.
-- Assumes nothing.
use mathlib.Core.Path.{subst⁻¹}
use Rattle.card.specs.declared.Reply.{Reply}
use Rattle.card.specs.View.{Left}
use Rattle.card.specs.Replies.{replied}
use Rattle.card.proofs.Left.{left-again}
use Rattle.check_menus.proofs.filled.Goals as goal

pub loop-i-preserved : goal.loop-i-preserved
unfolding replied
loop-i-preserved c = subst⁻¹ (λ (x : Reply). Left x.card) c.new_entry.ensures (left-again _ _ c.loop-i.invariant)
