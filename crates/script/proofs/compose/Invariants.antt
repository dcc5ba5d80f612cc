-- The records so far stand, and what is left of the text follows them; the measure is how much that is.
use Rattle.std.proofs.Common.{◌≡◌, length}
use Rattle.script.proofs.Blocks.{Composing}
use Rattle.script.proofs.compose.Given as goal

abbrev pub invariant-loop-out : goal.invariant-loop-out
invariant-loop-out l = Composing l.last l.records l.lines l.text l.left l.out × (length l.out ≡ length l.initial.out)

abbrev pub decreases-loop-out : goal.decreases-loop-out
decreases-loop-out l = length l.left
