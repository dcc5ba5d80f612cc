-- `timers::owner_bits` meets its contract: the loop goes from the last owner to the first, and has the set of those that it passed.
use Rattle.std.proofs.Common.{◌≡◌, drop}
use Rattle.timers.specs.Sets.{is_between, set_of}
use Rattle.timers.proofs.owner_bits.Given as goal

abbrev pub invariant-loop-i : goal.invariant-loop-i
invariant-loop-i l = l.bits ≡ set_of (is_between l.first l.last) (drop l.i l.owner)
