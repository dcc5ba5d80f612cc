-- `looked_at` meets its contract.
use Rattle.std.proofs.Common.{◌≡◌, rules}
use Rattle.rules.specs.Rows.{no_pair}
use Rattle.admission.proofs.Requests.{looked-put}
use Rattle.admission.proofs.looked_at.Goals as goal

pub returns : goal.returns
returns c =
    let none : c.default-pairs.result ≡ no_pair = search rules in
    rw none (looked-put c.args.request c.from-n.ensures c.pair_count.ensures.0 c.pair_count.ensures.1 c.copy_from_slice.ensures.after)
