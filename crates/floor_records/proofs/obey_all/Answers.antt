-- `floor_records::obey_all` meets its contract: the lines of the records before those that are left stand at the front, and the rest of the piece
-- gives the rest. Assumes nothing.
use Prim.Native.Nat.{ℕ, ◌*◌, ◌+◌, ◌^◌, ◌≤◌, ◌<◌}
use native.Mathlib.Omega.{arith}
use mathlib.Core.Path.{◌≡◌, refl, ap, ◌∙◌}
use mathlib.Core.List.{List}
use lib.ListN.{length}
use mir.Syntax.{w16}
use mir.ValLaws.{to_z-of_z}
use Rattle.rules.specs.Holds.{Model}
use Rattle.card.specs.declared.Card.{Card}
use Rattle.card.specs.View.{view}
use Rattle.floor_lines.proofs.LineLaws.{decimal-20}
use Rattle.floor_records.specs.Pieces.{records_in}
use Rattle.floor_records.proofs.ObeyLaws.{Heard, Made, made-command, made_none, unheard, at-record}
use Rattle.floor_records.proofs.Letters.{installs, enters, sets, clears, profiles, arrives, settles, turns, responds, allocates, deletes, locks, unlocks}
use Rattle.floor_records.proofs.Begun.{Begun, line-short, begun-none, Begun-more, Begun-all, first_off}
use Rattle.floor_records.proofs.obey_all.Goals as goal
use Rattle.floor_records.proofs.obey_all.Goals.{in-Some-eq73, in-Some-eq77, in-Some-eq69, in-Some-eq67, in-Some-eq80, in-Some-eq83, in-Some-eq79, in-Some-eq78, in-Some-eq87, in-Some-eq82, in-Some-eq84, in-Some-eq68, in-Some-eq76, in-Some-eq85, in_default, in_default-via-in-Some+in_default, in_default-via-in_default}

-- in a turn there is room for a line, and the next number can be counted
module _ {k : ℕ} {m : Model} {s b rest : List ℕ} {card : Card} {next at : ℕ} {c : List ℕ} (g : Begun k m s b rest card next at c) (h : 0 < length rest) where
  room : 540 * records_in s ≤ length b → at + 540 ≤ length c
  room r = omega (arith, g.short, g.wrote.long)

  counts : k + records_in s < 2 ^ 64 → next + 1 < 2 ^ 64
  counts r = omega (arith, g.counted)

pub loop-bytes-init : goal.loop-bytes-init
loop-bytes-init c =
    let same = c.into_iter-bytes-iterator.ensures.into_iter_gives in
    let size : c.into_iter-bytes-iterator.result.size ≡ 24 = rw same c.chunks-bytes-items.ensures.size in
    (omega arith, tt, size, begun-none c.requires.0 (rw same c.chunks-bytes-items.ensures.rest) c.new-counter.ensures, refl)

pub write_answer-len-requires : goal.write_answer-len-requires
write_answer-len-requires c =
    let l = c.loop-bytes in
    let some = c.in-Some.ensures.steps.1.2 in
    let few = decimal-20 l.counter.number (omega (arith, counts l.invariant.3 some c.requires.1)) in
    (omega (arith, ap length c.text.ensures, few), omega (arith, room l.invariant.3 some c.requires.2))

pub overflow_add-len : goal.overflow_add-len
overflow_add-len c =
    let l = c.loop-bytes in
    omega (arith, line-short l.out l.len (c.write_answer-len.ensures l.counter.number c.text.ensures), room l.invariant.3 c.in-Some.ensures.steps.1.2 c.requires.2)

pub loop-bytes-preserved : goal.loop-bytes-preserved
loop-bytes-preserved c =
    let l = c.loop-bytes in
    let g = l.invariant.3 in
    let steps = c.in-Some.ensures.steps in
    let size : c.next.new.self.size ≡ 24 = steps.0 ∙ l.invariant.2 in
    let off = first_off steps.1.0 (rw l.invariant.2 at steps.1.1) in
    let s = c.in-Some.bytes.now in
    let h : Heard l.card s c.call_letter-call.result c.byte_at-applet.result c.arguments-rest.result.now l.command =
    record { left = g.left; letter = c.call_letter-call.ensures; applet = c.byte_at-applet.ensures; arguments = c.arguments-rest.ensures; wide = l.invariant.4 } in
    let made : Made (view l.card) s c.call_letter-call.result c.match-call.command c.match-call.reply =
    elim c.match-call.branch [
      | in-Some-eq73 w ↦ installs h w.request.ensures (cc) w.install-reply.ensures w.command-is w.reply-is
      | in-Some-eq77 w ↦ enters h w.byte_at.ensures w.from.ensures (cc) w.new_entry-reply.ensures w.command-is w.reply-is
      | in-Some-eq69 w ↦ sets h (to_z-of_z w16 _ (record { sfits = w.value_of.type_inv }) ∙ w.value_of.ensures) (cc) w.set_event-reply.ensures w.command-is w.reply-is
      | in-Some-eq67 w ↦ clears h (to_z-of_z w16 _ (record { sfits = w.value_of-in-Some-eq67.type_inv }) ∙ w.value_of-in-Some-eq67.ensures) (cc) w.clear_event-reply.ensures w.command-is w.reply-is
      | in-Some-eq80 w ↦ profiles h (cc) (cc) w.command-is refl
      | in-Some-eq83 w ↦ arrives h (cc) (cc) w.command-is refl
      | in-Some-eq79 w ↦ settles h (cc) (cc) w.command-is refl
      | in-Some-eq78 w ↦ turns h (cc) (cc) w.command-is refl
      | in-Some-eq87 w ↦ made-command h (cc) w.system_command-reply.ensures w.system_command-reply.auto.buf w.command-is w.reply-is
      | in-Some-eq82 w ↦ responds h (cc) (cc) w.command-is refl
      | in-Some-eq84 w ↦ allocates h (cc) (cc) w.command-is refl
      | in-Some-eq68 w ↦ deletes h (cc) (cc) w.command-is refl
      | in-Some-eq76 w ↦ locks h (cc) (cc) w.command-is refl
      | in-Some-eq85 w ↦ unlocks h (cc) (cc) w.command-is refl
      | in_default w ↦ elim w.in_default.branch [
        | in_default-via-in-Some+in_default v ↦ absurd (unheard h v.in_default.is (rw v.in_default.field-0-is at v.in_default.field-0-test))
        | in_default-via-in_default v ↦ made_none h v.in_default.is w.no_call-reply.ensures w.command-is w.reply-is
      ]
    ] in
    let line = c.write_answer-len.ensures l.counter.number c.text.ensures in
    let obeys = at-record l.counter.number s c.byte_at-letter.ensures made line in
    let more = Begun-more c.requires.2 steps.1.2 off.0 off.1 g obeys in
    (omega arith, tt, size, rw c.count_on.ensures more, made.long)

pub returns : goal.returns
returns c = Begun-all c.in-None.ensures.steps.1.0 c.loop-bytes.invariant.3
