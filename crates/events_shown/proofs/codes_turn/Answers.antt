-- `codes_turn` meets its contract. The invariant: what the places passed say, joined with what is left, is the answer.
-- Assumes nothing.
use Prim.Native.Nat.{◌+◌}
use native.Mathlib.Omega.{arith}
use mathlib.Core.Path.{◌≡◌, refl, ap, subst, ◌∙◌}
use mathlib.Core.Bool.{not, beq, ◌||◌}
use lib.ListN.{length}
use borrow.Author.Rules.{rules}
use Rattle.sets.specs.Sets.{meets}
use Rattle.events_shown.specs.Turns.{code_turns}
use Rattle.events_shown.proofs.Places.{Joining, joining-more, joining-all, set-at, set-past}
use Rattle.events_shown.proofs.codes_turn.Goals as goal

pub loop-listeners-preserved : goal.loop-listeners-preserved
loop-listeners-preserved c =
    let i = c.loop-listeners.listeners-index in
    let h = set-at c.args.registered refl i c.loop-listeners-test.true in
    let e : i + 5 + 1 ≡ i + 1 + 5 = omega arith in
    subst (λ n. Joining (code_turns c.args.registered c.args.was c.args.is) (c.loop-listeners.any || c.turns-any.result) n) e (joining-more _ _ _ (i + 5) h.1 (c.turns-any.ensures ∙ ap (λ x. not (beq (meets x c.args.was) (meets x c.args.is))) h.0) c.loop-listeners.invariant)

pub returns : goal.returns
returns c =
    let long : length c.args.registered ≡ 20 = search rules in
    joining-all _ _ _ (set-past c.args.registered refl long c.loop-listeners.listeners-index c.loop-listeners-test.false) c.loop-listeners.invariant
