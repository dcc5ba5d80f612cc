-- `floor_lines::write_line` meets its contract: 20 + 3 + 3 + 1 + 512 + 1 bytes are enough.
-- Assumes nothing.
use native.Mathlib.Omega.{arith}
use borrow.Author.Rules.{rules}
use Rattle.writing.proofs.PutLaws.{puts_as, puts_front, room_front}
use Rattle.floor_lines.proofs.LineLaws.{answer-short, puts_line}
use Rattle.floor_lines.proofs.write_line.Goals as goal

pub put_answer-requires : goal.put_answer-requires
put_answer-requires c =
    let room = room_front c.new-out.result c.new-out.ensures.untouched c.new-out.ensures.front c.requires.2 in
    omega (arith, c.requires.0, answer-short c.args.answer.now c.requires.1, c.put.ensures.wrote, c.put-2.ensures.wrote, c.put_refusal.ensures.1, c.put_refusal.ensures.0.wrote, c.put-3.ensures.wrote)

pub put-requires-4 : goal.put-requires-4
put-requires-4 c =
    let room = room_front c.new-out.result c.new-out.ensures.untouched c.new-out.ensures.front c.requires.2 in
    omega (arith, c.requires.0, answer-short c.args.answer.now c.requires.1, c.put.ensures.wrote, c.put-2.ensures.wrote, c.put_refusal.ensures.1, c.put_refusal.ensures.0.wrote, c.put-3.ensures.wrote, c.put_answer.ensures.wrote)

pub returns : goal.returns
returns c k e =
    let room = room_front c.new-out.result c.new-out.ensures.untouched c.new-out.ensures.front c.requires.2 in
    let line =
    puts_line k c.args.letter c.args.answer.now
    (omega (arith, c.requires.0, answer-short c.args.answer.now c.requires.1, c.put.ensures.wrote, c.put-2.ensures.wrote, c.put_refusal.ensures.1, c.put_refusal.ensures.0.wrote, c.put-3.ensures.wrote, c.put_answer.ensures.wrote, c.put-4.ensures.wrote))
    c.shown_letter.ensures (puts_as e c.put.ensures) c.put-2.ensures c.put_refusal.ensures.0 c.put-3.ensures c.put_answer.ensures c.put-4.ensures
    in
    puts_front c.new-out.ensures.untouched c.new-out.ensures.front line (search rules)
