-- `no_round` meets its contract.
-- Assumes nothing.
use mathlib.Core.Path.{ap}
use mathlib.Core.Bool.{false}
use Rattle.lists.specs.Lists.{some?, in?}
use Rattle.sets.specs.Sets.{numbers, valued, set_of}
use Rattle.rules.specs.declared.Arrived.{Arrived}
use Rattle.arrivals.specs.Rounds.{stored_round}
use Rattle.arrivals.proofs.no_round.Goals as goal

pub returns : goal.returns
unfolding stored_round set_of valued numbers in? some?
returns c = ap (λ (a : Arrived). record { «open» = false; arrived = a; waiting = 0 }) c.nothing-arrived.ensures
