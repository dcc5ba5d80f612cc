-- `total` meets its contract.
use Rattle.std.proofs.Common.{ℕ, ◌≡◌, ◌+◌, ◌<◌, length, drop, sym, ap, ◌∙◌, arith, rules}
use Rattle.lists.specs.Lists.{sum}
use Rattle.lists.proofs.Walk.{sum_step, sum-end}
use Rattle.admission.specs.Refuses.{limit}
use Rattle.admission.proofs.total.Goals as goal

pub loop-g-preserved : goal.loop-g-preserved
loop-g-preserved c =
    let l = c.args.grants in
    let i = c.loop-g.g-index in
    let long : length l ≡ 8 = search rules in
    let small : c.from-limits.result < 256 = search rules in
    let step : sum limit (drop i l) ≡ c.from-limits.result + sum limit (drop (i + 1) l) = sum_step limit l i _ (omega arith) ∙ ap (λ (k : ℕ). k + sum limit (drop (i + 1) l)) (sym c.from-limits.ensures) in
    record { few = omega (arith, c.loop-g.invariant.few); left = omega (arith, c.loop-g.invariant.left) }

pub returns : goal.returns
returns c =
    let l = c.args.grants in
    let long : length l ≡ 8 = search rules in
    let none = sum-end limit l c.loop-g.g-index (omega arith) in
    (omega (arith, c.loop-g.invariant.left), omega (arith, c.loop-g.invariant.few))
