-- Each call leaves a card that calls have left.
-- Assumes nothing.
use mathlib.Core.Path.{subst⁻¹}
use Rattle.card.specs.declared.Reply.{Reply}
use Rattle.card.specs.View.{Left}
use Rattle.card.specs.Replies.{replied}
use Rattle.card.proofs.Left.{left-again}
use Rattle.check_menus.proofs.installed.Goals as goal

pub loop-applet-preserved : goal.loop-applet-preserved
unfolding replied
loop-applet-preserved c = subst⁻¹ (λ (x : Reply). Left x.card) c.install.ensures (left-again _ _ c.loop-applet.invariant)
