-- `total` meets its contract.
use Rattle.std.proofs.Common.{◌≡◌, ◌+◌, ◌*◌, ◌≤◌, drop}
use Rattle.lists.specs.Lists.{sum}
use Rattle.admission.specs.Refuses.{limit}
use Rattle.admission.proofs.total.Given as goal

abbrev pub invariant-loop-g : goal.invariant-loop-g
invariant-loop-g l = record { few : l.limits ≤ 255 * l.g-index; left : sum limit l.g-items ≡ l.limits + sum limit (drop l.g-index l.g-items) }
