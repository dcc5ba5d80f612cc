-- What stands in the array are the shown of the first i codes.
use Rattle.events_shown.specs.Turns.{is_listened}
use Rattle.events_shown.proofs.Listed.{Gathered}
use Rattle.events_shown.proofs.shown_codes.Given as goal

abbrev pub invariant-loop-i : goal.invariant-loop-i
invariant-loop-i l = Gathered (is_listened l.registered l.selectable) l.code-items l.i l.shown.at l.shown.count
