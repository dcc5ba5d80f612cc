-- `interval` meets its contract: the loop goes from the last place to the first, and has the interval of those that it passed.
use Rattle.std.proofs.Common.{◌≡◌, drop}
use Rattle.lists.proofs.Least.{least_of}
use Rattle.polling.proofs.Intervals.{counted}
use Rattle.polling.proofs.Requests.interval.Given as goal

abbrev pub invariant-loop-i : goal.invariant-loop-i
invariant-loop-i l = l.least ≡ least_of (drop l.i (counted l.self.polls l.self.set))
