-- `any_listened` meets its contract. The invariant: what the places passed say, joined with what is left, is the answer.
-- Assumes nothing.
use Prim.Native.Nat.{◌+◌}
use native.Mathlib.Omega.{arith}
use mathlib.Core.Path.{◌≡◌, refl, ap, subst, ◌∙◌}
use mathlib.Core.Bool.{◌||◌}
use lib.ListN.{length}
use borrow.Author.Rules.{rules}
use Rattle.sets.specs.Sets.{meets}
use Rattle.events_shown.specs.Turns.{is_listened}
use Rattle.events_shown.proofs.Places.{Joining, joining-more, joining-all, set-at, set-past}
use Rattle.events_shown.proofs.any_listened.Goals as goal

pub loop-set-preserved : goal.loop-set-preserved
loop-set-preserved c =
    let i = c.loop-set.set-index in
    let h = set-at c.args.registered refl i c.loop-set-test.true in
    let e : i + 5 + 1 ≡ i + 1 + 5 = omega arith in
    subst (λ n. Joining (is_listened c.args.registered c.args.selectable) (c.loop-set.any || c.meet-any.result) n) e (joining-more _ _ _ (i + 5) h.1 (c.meet-any.ensures ∙ ap (λ x. meets x c.args.selectable) h.0) c.loop-set.invariant)

pub returns : goal.returns
returns c =
    let long : length c.args.registered ≡ 20 = search rules in
    joining-all _ _ _ (set-past c.args.registered refl long c.loop-set.set-index c.loop-set-test.false) c.loop-set.invariant
