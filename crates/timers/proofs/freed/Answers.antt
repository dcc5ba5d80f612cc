-- `timers::freed` meets its contract.
use Rattle.std.proofs.Common.{◌≤◌, length, arith}
use Rattle.lists.proofs.InPlace.{mapped-more, mapped-all}
use Rattle.rules.specs.Applets.{forget}
use Rattle.rules.specs.Timers.{without_timers}
use Rattle.timers.proofs.freed.Goals as goal

pub loop-o-preserved : goal.loop-o-preserved
loop-o-preserved c = mapped-more (forget _) _ _ _ 0 _ (omega arith) c.loop-o.invariant c.owner_without.ensures

pub returns : goal.returns
unfolding without_timers
returns c =
    let all : length c.args.bank.owner ≤ c.loop-o.o-index = omega arith in
    mapped-all (forget _) _ _ _ all c.loop-o.invariant
