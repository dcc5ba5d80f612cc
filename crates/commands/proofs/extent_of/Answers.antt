-- `extent_of` meets its contract. Assumes nothing.
use native.Mathlib.Omega.{arith}
use mathlib.Core.Path.{sym, ap, ◌∙◌}
use mathlib.Core.List.{List}
use lib.ListN.{length}
use Rattle.lists.specs.Lists.{some?}
use Rattle.rules.specs.Holds.{Row}
use Rattle.rules.specs.Held.{view_rows, view_row}
use Rattle.menu_shown.specs.Chosen.{is_shown}
use Rattle.commands.specs.Fits.{rows_bytes}
use Rattle.commands.proofs.Lines.{under, past, row-in, rows_under, rows-part, rows_whole, measured-none, measured-yes, measured-no}
use Rattle.commands.proofs.extent_of.Goals as goal
use Rattle.commands.proofs.extent_of.Goals.{then-is_shown, else-is_shown}

pub loop-row-init : goal.loop-row-init
loop-row-init c fits = measured-none _ fits _

pub overflow_add-bytes-then-is_shown : goal.overflow_add-bytes-then-is_shown
overflow_add-bytes-then-is_shown c =
    let s = c.args.rows.now in
    let k = rows_under s c.requires c.args.selectable in
    let p = rows-part (is_shown c.args.selectable) (view_rows s) c.loop-row.row-index in
    let m = (c.loop-row.invariant c.requires).size in
    omega (arith, k, p, m, c.from.ensures)

pub loop-row-preserved : goal.loop-row-preserved
loop-row-preserved c fits =
    let s = c.args.rows.now in
    let u = under s c.listed-row-items.ensures c.loop-row.row-index c.loop-row-test.true in
    let e = row-in s c.listed-row-items.ensures c.loop-row.row-index c.loop-row-test.true in
    let is = ap (λ r. is_shown c.args.selectable (view_row r)) (sym e) ∙ sym c.is_shown.ensures in
    elim c.if-is_shown.branch [
      | then-is_shown w ↦ rw (w.bytes-is, w.help-is, w.from.ensures, e) (measured-yes s fits _ c.loop-row.row-index u (is ∙ w.if-is_shown.true) (c.loop-row.invariant fits))
      | else-is_shown w ↦ rw (w.bytes-is, w.help-is) (measured-no s fits _ c.loop-row.row-index u (is ∙ w.if-is_shown.false) (c.loop-row.invariant fits))
    ]

pub returns : goal.returns
returns c =
    let m = c.loop-row.invariant c.requires in
    let whole = rows_whole c.args.rows.now c.requires c.args.selectable c.loop-row.row-index (past c.args.rows.now c.listed-row-items.ensures c.requires.tidy c.loop-row.row-index c.loop-row-test.false) in
    (m.size ∙ ap (λ (l : List Row). length (rows_bytes l)) whole, m.mark ∙ ap (some? (λ (r : Row). r.help)) whole)
