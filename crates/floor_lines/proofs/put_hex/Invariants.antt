-- `floor_lines::put_hex` meets its contract: the loop has spelled the bytes before the index.
use Rattle.floor_lines.proofs.LineLaws.{Spelled}
use Rattle.floor_lines.proofs.put_hex.Given as goal

abbrev pub invariant-loop-b : goal.invariant-loop-b
invariant-loop-b l = Spelled l.initial.out l.bytes l.b-index l.out
