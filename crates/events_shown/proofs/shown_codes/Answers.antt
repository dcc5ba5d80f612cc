-- `events_shown::shown_codes` meets its contract. The invariant: what stands in the array are the shown of the first i codes.
-- Assumes nothing.
use Prim.Native.Nat.{ℕ}
use native.Mathlib.Omega.{arith}
use mathlib.Core.Path.{◌≡◌, refl, sym, subst, ◌∙◌}
use borrow.Author.Rules.{rules}
use Rattle.lists.specs.Lists.{padded}
use Rattle.rules.specs.Events as rules
use Rattle.events_shown.specs.Listed.{codes_from}
use Rattle.events_shown.specs.Turns.{is_listened}
use Rattle.events_shown.proofs.Listed.{Gathered, gathered-yes, gathered-no, gathered-all}
use Rattle.events_shown.proofs.shown_codes.Goals as goal
use Rattle.events_shown.proofs.shown_codes.Goals.{then-meet, else-meet}

pub loop-i-init : goal.loop-i-init
unfolding padded codes_from
loop-i-init c = record { few = search rules; form = refl; many = refl }

pub loop-i-preserved : goal.loop-i-preserved
loop-i-preserved c =
    let is = sym c.meet.ensures in
    elim c.if-meet.branch [
      | then-meet w ↦ rw (w.shown-is, w.from.ensures) (gathered-yes _ _ c.loop-i.i _ _ c.loop-i-test.true (omega (arith, c.loop-i.invariant, c.loop-i-test.true)) (is ∙ w.if-meet.true) c.loop-i.invariant)
      | else-meet w ↦ rw w.shown-is (gathered-no _ _ c.loop-i.i _ _ c.loop-i-test.true (is ∙ w.if-meet.false) c.loop-i.invariant)
    ]

pub returns : goal.returns
unfolding rules.codes
returns c =
    let i : c.loop-i.i ≡ 13 = omega (arith, c.loop-i.auto.i-end, c.loop-i-test.false) in
    gathered-all _ _ _ (subst (λ (n : ℕ). Gathered (is_listened c.args.registered c.args.selectable) rules.codes n c.loop-i.shown.at c.loop-i.shown.count) i c.loop-i.invariant)
