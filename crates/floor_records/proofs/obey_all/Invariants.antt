-- The records before those that are left are obeyed: their lines stand at the front, and the rest of the piece gives the rest.
use mathlib.Core.Path.{◌≡◌}
use lib.ListN.{length}
use Rattle.card.specs.View.{view}
use Rattle.floor_records.proofs.Begun.{Begun}
use Rattle.floor_records.proofs.obey_all.Given as goal

abbrev pub invariant-loop-bytes : goal.invariant-loop-bytes
invariant-loop-bytes l =
    (goal.iterator-loop-bytes).can_next l.bytes-iterator
    × (goal.iterator-loop-bytes).is_finite l.bytes-iterator
    × (l.bytes-iterator.size ≡ 24)
    × Begun l.fn.number (view l.initial.card) l.input l.initial.out l.bytes-iterator.rest.now l.card l.counter.number l.len l.out
    × (length l.command ≡ 256)
