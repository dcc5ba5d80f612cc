-- `read_items` meets its contract. The invariant: what is read is what stands before `next`, and no other items can stand there.
use Rattle.menu_reader.proofs.Come.{Come}
use Rattle.menu_reader.proofs.read_items.Given as goal

abbrev pub invariant-loop-count : goal.invariant-loop-count
invariant-loop-count l = Come l.bytes l.from l.at l.seen l.next l.count
