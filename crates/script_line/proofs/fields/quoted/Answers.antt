use Rattle.std.proofs.Common.{rules, arith, ◌∙◌, ◌+◌, ◌≡◌, ◌≢◌, ◌≤◌, length, get_or, take, drop}
use Rattle.std.proofs.lemmas.List.{length-take-le}
use Rattle.std.proofs.lemmas.Result.{err_from_is_err_and}
use Rattle.lists.proofs.Parts.{part-rest}
use Rattle.script_line.specs.Lines.{in_text}
use Rattle.script_line.proofs.ByteLaws.{text-closed, text-unclosed, text-full, text-more, text-open}
use Rattle.script_line.proofs.RoomLaws.{byte-more}
use Rattle.script_line.proofs.fields.quoted.Goals as goal

pub returns-then-is_end-clause-read : goal.returns-then-is_end-clause-read
returns-then-is_end-clause-read c =
    let s = c.args.line.now in
    let r = c.loop-i.invariant in
    record {
      few = r.few;
      on = r.on ∙ text-closed (length c.args.room.now) (take c.loop-i.i c.loop-i.room) s {at = c.loop-i.i} (search rules) c.if-b-eq34.true (part-rest s (c.loop-i.i + 1)) c.if-is_end.ensures;
      kept = r.kept;
    }

pub returns-then-b-eq34-clause-read : goal.returns-then-b-eq34-clause-read
returns-then-b-eq34-clause-read c =
    let s = c.args.line.now in
    c.loop-i.invariant.on ∙ text-unclosed (length c.args.room.now) (take c.loop-i.i c.loop-i.room) s {at = c.loop-i.i} (search rules) c.if-b-eq34.true (part-rest s (c.loop-i.i + 1)) c.if-is_end.ensures

pub returns-in_err-put-clause-read : goal.returns-in_err-put-clause-read
returns-in_err-put-clause-read c =
    let s = c.args.line.now in
    let r = c.loop-i.invariant in
    let put = c.in_err-put.ensures.err in
    let p = err_from_is_err_and c.from_residual.result c.from_residual.ensures.1 in
    let within : c.loop-i.i ≤ length c.loop-i.room = omega (arith, r.few) in
    let full : length (take c.loop-i.i c.loop-i.room) ≡ length c.args.room.now = omega (arith, put.1, r.few, length-take-le c.loop-i.i c.loop-i.room within) in
    rw (p.1, p.2, put.0) (r.on ∙ text-full (length c.args.room.now) (take c.loop-i.i c.loop-i.room) s {at = c.loop-i.i} (search rules) c.if-b-eq34.false full)

pub loop-i-preserved : goal.loop-i-preserved
loop-i-preserved c =
    let s = c.args.line.now in
    let r = c.loop-i.invariant in
    let put = c.in_ok-put.ensures.ok in
    let within : c.loop-i.i ≤ length c.loop-i.room = omega (arith, r.few) in
    let room : length (take c.loop-i.i c.loop-i.room) ≢ length c.args.room.now = λ z. omega (arith, z, put.0, length-take-le c.loop-i.i c.loop-i.room within) in
    rw put.1 (byte-more r (search rules) put.0 in_text (drop (c.loop-i.i + 1) s) (get_or s c.loop-i.i 0)
    (text-more (length c.args.room.now) (take c.loop-i.i c.loop-i.room) s {at = c.loop-i.i} (search rules) c.if-b-eq34.false room))

pub returns-clause-read : goal.returns-clause-read
returns-clause-read c = c.loop-i.invariant.on ∙ text-open (length c.args.room.now) (take c.loop-i.i c.loop-i.room) c.args.line.now {at = c.loop-i.i} (search rules)
