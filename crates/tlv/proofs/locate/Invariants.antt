-- `tlv::locate` finds an element. The invariant: what is left to find from here on is what is to be found. The measure: the bytes left.
use Prim.Native.Nat.{◌≤◌, ◌-◌}
use mathlib.Core.Path.{◌≡◌}
use lib.ListN.{length}
use Rattle.rules.specs.Bytes.{run_at, occurring, found}
use Rattle.tlv.proofs.locate.Given as goal

abbrev pub invariant-loop-e : goal.invariant-loop-e
invariant-loop-e l = (1 ≤ l.left) × (occurring l.tag l.left (run_at l.s l.at).elements ≡ found l.s l.tag l.occurrence)

abbrev pub decreases-loop-e : goal.decreases-loop-e
decreases-loop-e l = length l.s - l.at
