-- `clashes` meets its contract.
use Rattle.std.proofs.Common.{false}
use Rattle.admission.specs.Refuses.{taken}
use Rattle.admission.proofs.Requests.{Repeated}
use Rattle.admission.proofs.clashes.Given as goal

abbrev pub invariant-loop-i : goal.invariant-loop-i
invariant-loop-i l = Repeated l.p-items (taken l.grants) false l.i
