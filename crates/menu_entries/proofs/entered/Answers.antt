-- `menu_entries::entered` meets its contract. The invariant: the rows from i on stand one place further down.
-- Assumes nothing.
use Prim.Native.Nat.{ℕ}
use native.Mathlib.Omega.{arith}
use mathlib.Core.Path.{◌≡◌, ap, subst, ◌∙◌}
use mathlib.Core.List.{map}
use Rattle.lists.proofs.Padded.{Open, open_more}
use Rattle.lists.proofs.Mapped.{map-length}
use Rattle.rules.specs.Rows.{place, identifier_for}
use Rattle.rules.specs.Held.{stored_row, view_rows}
use Rattle.rules.proofs.Listed.{place-le}
use Rattle.menu.proofs.Tidy.{blank, count-is, opens}
use Rattle.menu_entries.proofs.Free.{free-of, free-for, own-for}
use Rattle.menu_entries.proofs.Entry.{entered-full, entered-room}
use Rattle.menu_entries.proofs.entered.Goals as goal
use Rattle.menu_entries.proofs.entered.Goals.{then-identifier-eq0, else-identifier-eq0}

pub loop-i-init : goal.loop-i-init
loop-i-init c =
    let f = place-le c.args.pair.position c.from-n.result in
    (omega (arith, c.place_of-k.ensures, f), omega arith, rw c.from-n.ensures (opens _ c.requires (omega (arith, c.from-n.ensures, c.if-n-lt-MOST.true))))

pub loop-i-preserved : goal.loop-i-preserved
loop-i-preserved c =
    let v = c.loop-i.invariant in
    let o = rw c.from-n.ensures at v.2 in
    (omega (arith, c.loop-i-test.true, v.0), omega (arith, v.1), rw c.from-n.ensures (open_more 12 blank _ _ _ _ (omega (arith, c.loop-i-test.true)) (omega (arith, v.1, c.from-n.ensures, count-is c.args.rows c.requires, map-length stored_row (view_rows c.args.rows))) o))

pub returns-after-loop-i : goal.returns-after-loop-i
returns-after-loop-i c =
    let given : c.if-identifier-eq0.identifier ≡ identifier_for c.args.pair.identifier (view_rows c.args.rows) = elim c.if-identifier-eq0.branch [
      | then-identifier-eq0 w ↦ free-for _ w.if-identifier-eq0.true (w.identifier-is ∙ w.free_identifier-identifier.ensures ∙ free-of c.args.rows c.from-n.ensures)
      | else-identifier-eq0 w ↦ own-for _ w.if-identifier-eq0.false w.identifier-is
    ] in
    let i : c.loop-i.i ≡ c.place_of-k.result = omega (arith, c.loop-i.invariant.0, c.loop-i-test.false) in
    entered-room c.args.rows c.requires c.args.pair c.args.owner c.args.help c.args.text.now given _ _ (omega (arith, c.from-n.ensures, c.if-n-lt-MOST.true)) c.row_of-row.ensures (c.place_of-k.ensures ∙ ap (place c.args.pair.position) c.from-n.ensures)
    (subst (λ (k : ℕ). Open 12 blank (map stored_row (view_rows c.args.rows)) k c.loop-i.at) i (rw c.from-n.ensures at c.loop-i.invariant.2))

pub returns-else-n-lt-MOST : goal.returns-else-n-lt-MOST
returns-else-n-lt-MOST c =
    let given : c.if-identifier-eq0.identifier ≡ identifier_for c.args.pair.identifier (view_rows c.args.rows) = elim c.if-identifier-eq0.branch [
      | then-identifier-eq0 w ↦ free-for _ w.if-identifier-eq0.true (w.identifier-is ∙ w.free_identifier-identifier.ensures ∙ free-of c.args.rows c.from-n.ensures)
      | else-identifier-eq0 w ↦ own-for _ w.if-identifier-eq0.false w.identifier-is
    ] in
    entered-full c.args.rows c.requires c.args.pair c.args.owner c.args.help c.args.text.now given (omega (arith, c.from-n.ensures, c.if-n-lt-MOST.false))
