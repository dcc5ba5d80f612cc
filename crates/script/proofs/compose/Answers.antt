use Rattle.std.proofs.Common.{rules, arith, refl, sym, ap, ◌∙◌, ◌+◌, ◌*◌, ◌≤◌, length, take}
use Rattle.script.specs.Texts.{line_meaning}
use Rattle.script.proofs.Blocks.{composing-none, composing-line, composing-kept, composed, ends-none, front-kept, nothing, something}
use Rattle.script.proofs.compose.Goals as goal
use Rattle.script.proofs.compose.Goals.{then-is_empty, else-is_empty+in_default, else-is_empty+in-Some+in-Ok-None, else-is_empty+in-Some+in-Err, else-is_empty+in-Some+in-Ok-Some+in-Err-line_record}

pub loop-out-init : goal.loop-out-init
loop-out-init c = (composing-none c.args.last c.args.text.now c.args.out.now, refl)

pub loop-out-preserved : goal.loop-out-preserved
loop-out-preserved c =
    let s = c.loop-out.invariant in
    let cut = c.split_at_mut-room.ensures in
    let room : c.loop-out.records * 24 + 24 ≤ length c.loop-out.out = search rules in
    let some = something c.loop-out.left.now (search rules) in
    let next = rw c.in-Ok-Some.field-0-is at c.in-Ok-Some.ensures in
    let said = c.in-Ok.ensures ∙ ap line_meaning next.1 in
    (composing-line room some next.0 next.2 s.0 c.split_at_mut-room.result.1.now cut.front cut.back_len c.line_record.new.out (search rules) c.in-Ok.made c.from-records.ensures said, search rules)

pub returns : goal.returns
returns c =
    let s = c.loop-out.invariant.0 in
    let same = c.if-is_empty.auto.out in
    elim c.if-is_empty.branch [
      | then-is_empty w ↦ rw w.out-is (composed w.stop-is s (ends-none c.args.last (nothing c.loop-out.left.now (search rules))))
      | else-is_empty+in_default w ↦
          let k = composing-kept same (ap (take (c.loop-out.records * 24)) w.out-is ∙ front-kept c.loop-out.records c.loop-out.out (search rules) s.standing.fits w.split_at_mut-room.result.1.now) s in
          composed w.stop-is k (something c.loop-out.left.now (search rules), let h = w.in_default.ensures.cases in omega (arith, same, w.split_at_mut-room.ensures.back_len, h))
      | else-is_empty+in-Some+in-Ok-None w ↦
          let k = composing-kept same (ap (take (c.loop-out.records * 24)) w.out-is ∙ front-kept c.loop-out.records c.loop-out.out w.split_at_mut-room.ensures.front s.standing.fits _) s in
          composed w.stop-is k (rw w.in-Ok-None.field-0-is at w.in-Ok-None.ensures)
      | else-is_empty+in-Some+in-Err w ↦
          let k = composing-kept same (ap (take (c.loop-out.records * 24)) w.out-is ∙ front-kept c.loop-out.records c.loop-out.out w.split_at_mut-room.ensures.front s.standing.fits _) s in
          composed w.stop-is k (w.in-Err.ensures, let h = w.in-Some.ensures.variant in omega (arith, same, w.split_at_mut-room.ensures.back_len, h.0 refl))
      | else-is_empty+in-Some+in-Ok-Some+in-Err-line_record w ↦
          let k = composing-kept same (ap (take (c.loop-out.records * 24)) w.out-is ∙ front-kept c.loop-out.records c.loop-out.out w.split_at_mut-room.ensures.front s.standing.fits _) s in
          composed w.stop-is k ((let n = rw w.in-Ok-Some.field-0-is at w.in-Ok-Some.ensures in sym (w.in-Err-line_record.ensures ∙ ap line_meaning n.1)), let h = w.in-Some.ensures.variant in omega (arith, same, w.split_at_mut-room.ensures.back_len, h.0 refl))
    ]
