-- The numbers in the order of call, as a card that calls have left has them.
-- Assumes nothing.
use Prim.Native.Nat.{ℕ, ◌≤◌}
use native.Mathlib.Omega.{arith}
use mathlib.Core.Path.{◌≡◌, sym, ap, ◌∙◌}
use mathlib.Core.List.{List, map}
use lib.ListN.{length, take}
use Rattle.lists.specs.Lists.{padded}
use Rattle.lists.proofs.Mapped.{map-length}
use Rattle.lists.proofs.Padded.{length-padded, take-padded}
use Rattle.rules.specs.declared.Roll.{Roll}
use Rattle.rules.specs.Holds.{Applet, Bounds}
use Rattle.rules.specs.Applets.{in_order}
use Rattle.applets.specs.ByNumber.{roll_of}
use Rattle.applets.proofs.Order.{length-order}
use Rattle.card.specs.declared.Card.{Card}
use Rattle.card.specs.View.{view, Left}
use Rattle.card.proofs.Left.{left-sound, left-bounds}
use Rattle.card.proofs.Replied.{roll-form}

module _ (c : Card) (left : Left c) where
  abbrev l : List Applet
  l = (view c).tables.applets

  abbrev called-first : List ℕ
  called-first = map (λ (x : Applet). x.number) (in_order l)

  as_many : length called-first ≡ length l
  as_many = map-length (λ (x : Applet). x.number) (in_order l) ∙ length-order l

  pub order_is : take c.roll.count c.roll.order ≡ called-first
  unfolding roll_of
  order_is =
      ap (λ (r : Roll). take r.count r.order) (roll-form c left)
      ∙ ap (λ (k : ℕ). take k (padded 8 0 called-first)) (sym as_many)
      ∙ take-padded 8 0 called-first

  pub count-is : c.roll.count ≡ length l
  unfolding roll_of
  count-is = ap (λ (r : Roll). r.count) (roll-form c left)

  pub count_small : c.roll.count ≤ 8
  count_small =
      let eight : (view c).tables.bounds.applets ≡ 8 = ap (λ (b : Bounds). b.applets) (left-bounds c left) in
      omega (arith, count-is, (left-sound c left).tables.few-applets)

  -- the order stands in its one form
  pub order-form : c.roll.order ≡ padded 8 0 (take c.roll.count c.roll.order)
  unfolding roll_of
  order-form = ap (λ (r : Roll). r.order) (roll-form c left) ∙ ap (padded 8 0) (sym order_is)

  pub order-eight : length c.roll.order ≡ 8
  unfolding roll_of
  order-eight =
      ap (λ (r : Roll). length r.order) (roll-form c left)
      ∙ length-padded 8 0 called-first (omega (arith, as_many, count-is, count_small))
