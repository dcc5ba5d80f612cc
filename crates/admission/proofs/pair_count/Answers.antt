-- `pair_count` meets its contract.
use Rattle.std.proofs.Common.{◌≡◌, length, length-take, arith, rules}
use Rattle.rules.specs.Applets.{looked_at}
use Rattle.admission.proofs.pair_count.Goals as goal

pub returns : goal.returns
unfolding looked_at
returns c =
    let four : length c.args.request.pairs ≡ 4 = search rules in
    (omega (arith, c.min.ensures, four, length-take c.args.request.entries c.args.request.pairs), omega (arith, c.min.ensures))
