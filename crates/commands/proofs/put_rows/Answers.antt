-- `put_rows` meets its contract. Assumes nothing.
use Prim.Native.Nat.{◌+◌}
use mathlib.Core.Path.{◌≡◌, sym, ap, ◌∙◌}
use native.Mathlib.Omega.{arith}
use lib.ListN.{length, take, get_or}
use Rattle.lists.specs.Lists.{gather, keep}
use Rattle.writing.proofs.PutLaws.{puts_none, puts_then}
use Rattle.rules.specs.declared.Row as held
use Rattle.rules.specs.Commands.{Item}
use Rattle.rules.specs.Held.{view_rows, view_row}
use Rattle.menu_shown.specs.Chosen.{is_shown}
use Rattle.commands.specs.Fits.{rows_bytes}
use Rattle.commands.proofs.Lines.{no_held, item_at, under, past, row-in, len-at, text_at, rows_next, rows_same, rows_step, rows-part, rows_whole}
use Rattle.commands.proofs.put_rows.Goals as goal
use Rattle.commands.proofs.put_rows.Goals.{then-is_shown, else-is_shown}

pub loop-row-init : goal.loop-row-init
unfolding rows_bytes gather keep
loop-row-init c = puts_none _

pub shared_ref_as_front-text : goal.shared_ref_as_front-text
shared_ref_as_front-text c =
    let s = c.args.rows.now in
    let i = c.loop-row.row-index in
    let u = under s c.listed-row-items.ensures i c.loop-row-test.true in
    let q = row-in s c.listed-row-items.ensures i c.loop-row-test.true in
    omega (arith, c.from.ensures, ap (λ (r : held.Row). r.len) q, len-at s c.requires.0 i u)

pub put_item-requires : goal.put_item-requires
put_item-requires c =
    let s = c.args.rows.now in
    let t = c.requires.0 in
    let i = c.loop-row.row-index in
    let u = under s c.listed-row-items.ensures i c.loop-row-test.true in
    let q = row-in s c.listed-row-items.ensures i c.loop-row-test.true in
    let r = get_or c.listed-row-items.result.now i no_held in
    let w = ap (λ n. length (take n r.text)) c.from.ensures ∙ ap (λ (x : held.Row). length (take x.len x.text)) q ∙ text_at s t i u in
    let is = ap (λ (x : held.Row). is_shown c.args.selectable (view_row x)) (sym q) ∙ sym c.is_shown.ensures ∙ c.if-is_shown.true in
    let k = rows_step s t c.args.selectable i u is in
    let p = rows-part (is_shown c.args.selectable) (view_rows s) (i + 1) in
    (omega (arith, w, len-at s t i u), omega (arith, w, k, p, c.loop-row.invariant.wrote.next, c.loop-row.invariant.wrote.long, c.requires.1))

pub loop-row-preserved : goal.loop-row-preserved
loop-row-preserved c =
    let s = c.args.rows.now in
    let t = c.requires.0 in
    let i = c.loop-row.row-index in
    let u = under s c.listed-row-items.ensures i c.loop-row-test.true in
    let q = row-in s c.listed-row-items.ensures i c.loop-row-test.true in
    let r = get_or c.listed-row-items.result.now i no_held in
    let is = ap (λ (x : held.Row). is_shown c.args.selectable (view_row x)) (sym q) ∙ sym c.is_shown.ensures in
    let k = rows-part (is_shown c.args.selectable) (view_rows s) i in
    let v = c.loop-row.invariant in
    elim c.if-is_shown.branch [
      | then-is_shown w ↦
          let x : ◌≡◌ {A = Item} (record { identifier = r.identifier; text = take w.from.result r.text }) (item_at s t c.args.selectable i) =
          ap (λ n. record { identifier = r.identifier; text = take n r.text }) w.from.ensures ∙ ap (λ (y : held.Row). record { identifier = y.identifier; text = take y.len y.text }) q
          in
          rw (w.out-is, rows_next s t c.args.selectable i u (is ∙ w.if-is_shown.true), ← x) (puts_then v w.put_item.ensures (omega (arith, c.requires.1, k)))
      | else-is_shown w ↦ rw (w.out-is, rows_same s t c.args.selectable i u (is ∙ w.if-is_shown.false)) v
    ]

pub returns : goal.returns
returns c = rw (rows_whole c.args.rows.now c.requires.0 c.args.selectable c.loop-row.row-index (past c.args.rows.now c.listed-row-items.ensures c.requires.0.tidy c.loop-row.row-index c.loop-row-test.false)) at c.loop-row.invariant
