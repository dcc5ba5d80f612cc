-- What is left of the line, behind the bytes that are put, says what the whole line says.
use Rattle.std.proofs.Common.{length}
use Rattle.script_line.specs.Lines.{bytes_of, between}
use Rattle.script_line.specs.Records.{HeldSoFar}
use Rattle.script_line.proofs.fields.bytes.Given as goal

abbrev pub invariant-loop-more : goal.invariant-loop-more
invariant-loop-more l = HeldSoFar (bytes_of (length l.initial.room) l.line) between l.left l.count l.initial.room l.room

abbrev pub decreases-loop-more : goal.decreases-loop-more
decreases-loop-more l = length l.left
