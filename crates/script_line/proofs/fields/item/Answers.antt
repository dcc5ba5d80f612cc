use Rattle.std.proofs.Common.{rules, arith, ap, refl, ◌∙◌, ◌≡◌, ◌<◌, length, get_or, length-drop}
use Rattle.std.proofs.lemmas.Result.{err_from_is_err_and}
use Rattle.lists.proofs.Parts.{part-rest}
use Rattle.script_line.specs.Lines.{bytes_of, between}
use Rattle.script_line.proofs.ByteLaws.{item-none, item-text, item-short, item-long, item-bad, item-full, item-byte, skipped-shorter, two-shorter}
use Rattle.script_line.proofs.RoomLaws.{byte-more, read-none}
use Rattle.script_line.proofs.fields.item.Goals as goal
use Rattle.script_line.proofs.fields.item.Goals.{then-this-lt2+in-34-1, else-this-lt2+in-34-1, in_default-via-then-this-lt2+in_default-1, in_default-via-in-len2-up+else-is_end}

pub returns-in-empty-clause-read : goal.returns-in-empty-clause-read
returns-in-empty-clause-read c = (item-none (length c.args.room.now) c.args.line.now c.skip_spaces.result.now c.skip_spaces.ensures c.in-empty.len_below, refl)

pub returns-in_err-byte-in-len2-up-clause-read : goal.returns-in_err-byte-in-len2-up-clause-read
returns-in_err-byte-in-len2-up-clause-read c =
    let start = c.skip_spaces in
    let p = err_from_is_err_and c.from_residual.result c.from_residual.ensures.1 in
    rw (p.1, p.2) (item-bad (length c.args.room.now) c.args.line.now start.result.now start.ensures c.in-len2-up.len_at_least (search rules) (part-rest start.result.now 2) c.if-is_end.ensures c.in_err-byte-in-len2-up.ensures)

pub returns-in_err-put-in-len2-up-clause-read : goal.returns-in_err-put-in-len2-up-clause-read
returns-in_err-put-in-len2-up-clause-read c =
    let start = c.skip_spaces in
    let r = c.from_residual-in_err-put-in-len2-up in
    let put = c.in_err-put-in-len2-up.ensures.err in
    let p = err_from_is_err_and r.result r.ensures.1 in
    rw (p.1, p.2, put.0) (item-full (length c.args.room.now) c.args.line.now start.result.now start.ensures c.in-len2-up.len_at_least (search rules) (part-rest start.result.now 2) c.if-is_end.ensures c.in_ok-byte-in-len2-up.ensures (omega (arith, put.1)))

pub returns-in_ok-put-in-len2-up-clause-read : goal.returns-in_ok-put-in-len2-up-clause-read
returns-in_ok-put-in-len2-up-clause-read c =
    let start = c.skip_spaces in
    let put = c.in_ok-put-in-len2-up.ensures.ok in
    let x = bytes_of (length c.args.room.now) c.args.line.now in
    rw put.1 (byte-more (read-none x between c.args.line.now c.args.room.now refl) refl put.0 between _ _
    (item-byte (length c.args.room.now) c.args.line.now start.result.now start.ensures c.in-len2-up.len_at_least (search rules) (part-rest start.result.now 2) c.if-is_end.ensures c.in_ok-byte-in-len2-up.ensures put.0))

pub returns-in_ok-put-in-len2-up-clause-shorter : goal.returns-in_ok-put-in-len2-up-clause-shorter
returns-in_ok-put-in-len2-up-clause-shorter c =
    let start = c.skip_spaces in
    omega (arith, ap length (part-rest start.result.now 2), two-shorter c.args.line.now start.result.now start.ensures c.in-len2-up.len_at_least)

pub returns-in_err-quoted-in-34-clause-read : goal.returns-in_err-quoted-in-34-clause-read
returns-in_err-quoted-in-34-clause-read c =
    let start = c.skip_spaces in
    let some : 0 < length start.result.now = elim c.in-34-1.branch [ then-this-lt2+in-34-1 w ↦ search rules | else-this-lt2+in-34-1 w ↦ search rules ] in
    let quote : get_or start.result.now 0 0 ≡ 0x22 = elim c.in-34-1.branch [ then-this-lt2+in-34-1 w ↦ search rules | else-this-lt2+in-34-1 w ↦ search rules ] in
    let r = c.from_residual-in_err-quoted-in-34 in
    let p = err_from_is_err_and r.result r.ensures.1 in
    rw (p.1, p.2) (item-text (length c.args.room.now) c.args.line.now start.result.now start.ensures some quote (part-rest start.result.now 1) ∙ c.in_err-quoted-in-34.ensures.read)

pub returns-in_ok-quoted-in-34-clause-read : goal.returns-in_ok-quoted-in-34-clause-read
returns-in_ok-quoted-in-34-clause-read c =
    let start = c.skip_spaces in
    let some : 0 < length start.result.now = elim c.in-34-1.branch [ then-this-lt2+in-34-1 w ↦ search rules | else-this-lt2+in-34-1 w ↦ search rules ] in
    let quote : get_or start.result.now 0 0 ≡ 0x22 = elim c.in-34-1.branch [ then-this-lt2+in-34-1 w ↦ search rules | else-this-lt2+in-34-1 w ↦ search rules ] in
    let q = c.in_ok-quoted-in-34.ensures.read in
    record {
      few = q.few;
      on = item-text (length c.args.room.now) c.args.line.now start.result.now start.ensures some quote (part-rest start.result.now 1) ∙ q.on;
      kept = q.kept;
    }

pub returns-in_ok-quoted-in-34-clause-shorter : goal.returns-in_ok-quoted-in-34-clause-shorter
returns-in_ok-quoted-in-34-clause-shorter c =
    let start = c.skip_spaces in
    omega (arith, ap length (part-rest start.result.now 1), length-drop 1 start.result.now, ap length start.ensures, skipped-shorter c.args.line.now, c.in_ok-quoted-in-34.ensures.shorter)

pub returns-in_default-clause-read : goal.returns-in_default-clause-read
returns-in_default-clause-read c =
    let start = c.skip_spaces in
    elim c.in_default.branch [
      | in_default-via-then-this-lt2+in_default-1 w ↦ item-short (length c.args.room.now) c.args.line.now start.result.now start.ensures (search rules) (search rules)
      | in_default-via-in-len2-up+else-is_end w ↦ item-long (length c.args.room.now) c.args.line.now start.result.now start.ensures w.in-len2-up.len_at_least (search rules) (part-rest start.result.now 2) w.if-is_end.ensures
    ]
