use Rattle.std.proofs.Common.{rules}
use Rattle.std.proofs.lemmas.Result.{err_from_is_err_and}
use Rattle.lists.proofs.Parts.{part-rest}
use Rattle.script_line.proofs.RoomLaws.{said-wrong, read-more, read-all}
use Rattle.script_line.proofs.fields.bytes.Goals as goal

pub returns-in_err-more : goal.returns-in_err-more
returns-in_err-more c =
    let p = err_from_is_err_and c.from_residual.result c.from_residual.ensures.1 in
    rw (p.1, p.2) (said-wrong c.loop-more.invariant (search rules) (part-rest c.loop-more.room c.loop-more.count) c.in_err-more.ensures.read)

pub loop-more-preserved : goal.loop-more-preserved
loop-more-preserved c =
    let next = rw c.in-Some.is at c.in_ok-more.ensures.read in
    read-more c.loop-more.invariant (search rules) (part-rest c.loop-more.room c.loop-more.count) c.item.new.room next

pub returns : goal.returns
returns c =
    let none = rw c.in_default.is at c.in_ok-more.ensures.read in
    read-all c.loop-more.invariant (search rules) (part-rest c.loop-more.room c.loop-more.count) c.item.new.room none.0 none.1
