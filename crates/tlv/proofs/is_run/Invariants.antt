-- `tlv::is_run` tells whether a run fills its bytes. The invariant: what is left from here on decides. The measure: the bytes left.
use Prim.Native.Nat.{◌-◌}
use mathlib.Core.Path.{◌≡◌}
use lib.ListN.{length}
use Rattle.rules.specs.Bytes.{run_at, is_run}
use Rattle.tlv.proofs.is_run.Given as goal

abbrev pub invariant-loop-e : goal.invariant-loop-e
invariant-loop-e l = (run_at l.s l.at).fills ≡ is_run l.s

abbrev pub decreases-loop-e : goal.decreases-loop-e
decreases-loop-e l = length l.s - l.at
