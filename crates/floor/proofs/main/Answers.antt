-- A fresh card is one that calls have left so.
-- Assumes nothing.
use mathlib.Core.Path.{subst⁻¹}
use Rattle.card.specs.declared.Reply.{Reply}
use Rattle.card.specs.View.{Left}
use Rattle.card.proofs.FreshCard.{fresh-left}
use Rattle.floor.proofs.main.Goals as goal

pub obey_input-requires : goal.obey_input-requires
obey_input-requires c = subst⁻¹ (λ (x : Reply). Left x.card) c.fresh-made.ensures (fresh-left _)
