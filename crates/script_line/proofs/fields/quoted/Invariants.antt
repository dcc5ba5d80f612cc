-- What is left of the text, behind the bytes that are put, says what the whole text says.
use Rattle.std.proofs.Common.{[], length, drop}
use Rattle.script_line.specs.Lines.{bytes_from, in_text}
use Rattle.script_line.specs.Records.{HeldSoFar}
use Rattle.script_line.proofs.fields.quoted.Given as goal

abbrev pub invariant-loop-i : goal.invariant-loop-i
invariant-loop-i l = HeldSoFar (bytes_from (length l.initial.room) [] in_text l.line) in_text (drop l.i l.line) l.i l.initial.room l.room
