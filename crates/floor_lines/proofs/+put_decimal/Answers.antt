-- `floor_lines::put_decimal` meets its contract: it calls itself for all digits but the last.
-- Assumes nothing.
use Rattle.std.proofs.Common.{arith}
use Rattle.floor_lines.proofs.LineLaws.{puts_one, puts_more, shorter, some-digit}
use Rattle.floor_lines.proofs.+put_decimal.Goals as goal
use Rattle.floor_lines.proofs.+put_decimal.Goals.{then-n-ge10, else-n-ge10}

pub put_decimal-requires : goal.put_decimal-requires
put_decimal-requires t c = omega (arith, shorter c.args.n c.if-n-ge10.true)

pub put-requires : goal.put-requires
put-requires t c =
    elim c.if-n-ge10.branch [
      | then-n-ge10 w ↦ rw w.out-is (omega (arith, shorter c.args.n w.if-n-ge10.true, w.put_decimal.ensures.wrote.next, w.put_decimal.ensures.wrote.long, c.requires))
      | else-n-ge10 w ↦ rw w.out-is (omega (arith, some-digit c.args.n w.if-n-ge10.false, c.requires))
    ]

pub returns : goal.returns
returns t c =
    elim c.if-n-ge10.branch [
      | then-n-ge10 w ↦ puts_more c.digit.ensures w.if-n-ge10.true c.requires w.put_decimal.ensures (rw w.out-is at c.put.ensures)
      | else-n-ge10 w ↦ puts_one c.digit.ensures w.if-n-ge10.false (rw w.out-is at c.put.ensures)
    ]
