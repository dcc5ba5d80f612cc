use Rattle.std.proofs.Common.{slice_range, arith}
use Rattle.texts.proofs.Places.{position-is, position-end}
use Rattle.texts.proofs.find.Goals as goal

pub returns-in-Some-clause-place : goal.returns-in-Some-clause-place
returns-in-Some-clause-place c =
    let a = c.args in
    omega (arith, position-is a.byte (slice_range a.bytes.now a.from a.to) c.in-Some.ensures)

pub returns-in-None-clause-place : goal.returns-in-None-clause-place
returns-in-None-clause-place c =
    let a = c.args in
    omega (arith, position-end a.byte (slice_range a.bytes.now a.from a.to) c.in-None.ensures)
