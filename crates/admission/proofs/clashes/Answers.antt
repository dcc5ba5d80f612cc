-- `clashes` meets its contract.
use Rattle.std.proofs.Common.{◌≡◌, ◌+◌, length, sym, ◌∙◌, arith, rules}
use Rattle.admission.specs.Refuses.{taken}
use Rattle.admission.proofs.Requests.{repeated-more, repeated-all, behind-all}
use Rattle.admission.proofs.clashes.Goals as goal

pub returns-then-is_repeated : goal.returns-then-is_repeated
returns-then-is_repeated c =
    let four : length c.args.pairs ≡ 4 = search rules in
    let o = repeated-more c.args.pairs (taken c.args.grants) c.loop-i.i _ (omega arith) (behind-all c.args.pairs (taken c.args.grants) 4 (c.loop-i.i + 1) four) (sym c.if-is_repeated.true ∙ c.is_repeated.ensures) c.loop-i.invariant in
    sym o.left

pub loop-i-preserved : goal.loop-i-preserved
loop-i-preserved c =
    let four : length c.args.pairs ≡ 4 = search rules in
    repeated-more c.args.pairs (taken c.args.grants) c.loop-i.i _ (omega arith) (behind-all c.args.pairs (taken c.args.grants) 4 (c.loop-i.i + 1) four) (sym c.if-is_repeated.false ∙ c.is_repeated.ensures) c.loop-i.invariant

pub returns : goal.returns
returns c =
    let four : length c.args.pairs ≡ 4 = search rules in
    repeated-all c.args.pairs (taken c.args.grants) c.loop-i.i (omega arith) c.loop-i.invariant
