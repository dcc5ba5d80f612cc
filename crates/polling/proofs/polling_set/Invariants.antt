-- `polling_set` meets its contract: the loop goes from the last place to the first, and has the set of those that it passed.
use Rattle.std.proofs.Common.{◌≡◌, drop}
use Rattle.sets.specs.Sets.{valued}
use Rattle.polling.proofs.Intervals.{asks}
use Rattle.polling.proofs.polling_set.Given as goal

abbrev pub invariant-loop-i : goal.invariant-loop-i
invariant-loop-i l = l.set ≡ valued (drop l.i (asks l.polls))
