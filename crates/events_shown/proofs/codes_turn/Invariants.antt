-- `codes_turn` meets its contract. The invariant: what the places passed say, joined with what is left, is the answer.
use Prim.Native.Nat.{◌+◌}
use Rattle.events_shown.specs.Turns.{code_turns}
use Rattle.events_shown.proofs.Places.{Joining}
use Rattle.events_shown.proofs.codes_turn.Given as goal

abbrev pub invariant-loop-listeners : goal.invariant-loop-listeners
invariant-loop-listeners l = Joining (code_turns l.fn.registered l.was l.is) l.any (l.listeners-index + 5)
