-- `any_listened` meets its contract. The invariant: what the places passed say, joined with what is left, is the answer.
use Prim.Native.Nat.{◌+◌}
use Rattle.events_shown.specs.Turns.{is_listened}
use Rattle.events_shown.proofs.Places.{Joining}
use Rattle.events_shown.proofs.any_listened.Given as goal

abbrev pub invariant-loop-set : goal.invariant-loop-set
invariant-loop-set l = Joining (is_listened l.fn.registered l.selectable) l.any (l.set-index + 5)
