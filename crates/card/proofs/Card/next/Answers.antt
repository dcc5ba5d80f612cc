-- `next`: refused where no round is open; else the one whose turn it is is named, or the round ends.
-- Assumes nothing.
use native.Mathlib.Omega.{arith}
use Prim.Native.Nat.{ℕ}
use mathlib.Core.Path.{sym, ap, ◌∙◌}
use lib.Seq.{length-take-le}
use lib.ListN.{take}
use Rattle.lists.specs.Lists.{first}
use Rattle.sets.specs.Sets.{has?}
use Rattle.card.proofs.Left.{tidy-rows}
use Rattle.card.proofs.Order.{count_small}
use Rattle.card.proofs.AfterTurn.{called-beside, tells-turn}
use Rattle.card.proofs.Card.next.Goals as goal

pub whom-still-requires : goal.whom-still-requires
whom-still-requires c = tidy-rows _ c.requires

pub slice_bounds-order-end : goal.slice_bounds-order-end
slice_bounds-order-end c = omega (arith, c.from.ensures, count_small _ c.requires)

pub slice_bounds-first_of-end : goal.slice_bounds-first_of-end
slice_bounds-first_of-end c = sym (length-take-le c.from.result c.args.self.roll.order (omega (arith, c.from.ensures, count_small _ c.requires)))

pub returns : goal.returns
returns c =
    let named = c.first_of-named.ensures ∙ ap (λ (n : ℕ). first (has? c.ready-who.result) 0 (take n c.args.self.roll.order)) c.from.ensures in
    tells-turn _ c.requires c.next_refusal-refusal.ensures c.whom-still.ensures.arrived c.ready-who.ensures named c.turned-turned.ensures c.used_up-used.ensures c.without-rest.ensures (c.called-answer.ensures ∙ called-beside _ _ c.and.ensures)
