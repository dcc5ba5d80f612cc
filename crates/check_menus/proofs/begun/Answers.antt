-- A fresh card, and each call, leaves a card that calls have left.
-- Assumes nothing.
use mathlib.Core.Path.{subst⁻¹}
use Rattle.card.specs.declared.Reply.{Reply}
use Rattle.card.specs.View.{Left}
use Rattle.card.specs.Replies.{replied}
use Rattle.card.proofs.FreshCard.{fresh-left}
use Rattle.card.proofs.Left.{left-again}
use Rattle.check_menus.proofs.begun.Goals as goal

pub installed-requires : goal.installed-requires
installed-requires c = subst⁻¹ (λ (x : Reply). Left x.card) c.fresh-made.ensures (fresh-left _)

pub returns : goal.returns
unfolding replied
returns c = subst⁻¹ (λ (x : Reply). Left x.card) c.profile-arrived.ensures (left-again _ _ c.filled-full.ensures)
