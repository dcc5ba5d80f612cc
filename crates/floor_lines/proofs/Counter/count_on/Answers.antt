-- `floor_lines::Counter::count_on` meets its contract: the last digit counted on, or the number written anew.
-- Assumes nothing.
use Prim.Native.Nat.{◌+◌}
use native.Mathlib.Omega.{arith}
use mathlib.Core.Path.{◌≡◌}
use lib.ListN.{length}
use borrow.Author.Rules.{rules}
use Rattle.floor_lines.proofs.LineLaws.{decimal-20}
use Rattle.floor_lines.proofs.Counting.{spells-some, spells-on, wrote-spells}
use Rattle.floor_lines.proofs.Counter.count_on.Goals as goal
use Rattle.floor_lines.proofs.Counter.count_on.Goals.{then-only_last, else-only_last}

pub overflow_sub-end : goal.overflow_sub-end
overflow_sub-end c = spells-some c.args.self.now.spelled

pub write_decimal-self-requires : goal.write_decimal-self-requires
write_decimal-self-requires c = let room : length c.args.self.now.digits ≡ 20 = search rules in omega (arith, decimal-20 (c.args.self.now.number + 1) c.requires)

pub invariant_of-self : goal.invariant_of-self
invariant_of-self c =
    record {
      spelled =
          elim c.if-only_last.branch [
            | then-only_last w ↦ rw w.self-is (spells-on c.args.self.now.spelled w.if-only_last.true)
            | else-only_last w ↦ rw w.self-is (wrote-spells w.write_decimal-self.ensures)
          ];
    }
