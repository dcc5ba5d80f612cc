-- `menu::without` meets its contract: what is left so far is what is kept of the rows that were looked at.
-- Assumes nothing.
use Prim.Native.Nat.{ℕ, ◌≤◌, ◌<◌}
use native.Mathlib.Omega.{arith}
use mathlib.Core.Path.{◌≡◌, ap}
use mathlib.Core.List.{List}
use mathlib.Core.Bool.{not}
use lib.ListN.{length, take, length-take}
use borrow.Author.Tests.{eq-eqb, ne_eqb}
use Rattle.lists.specs.Lists.{padded, keep}
use Rattle.lists.proofs.Keep.{kept-yes, kept-no}
use Rattle.rules.specs.declared.Row as held
use Rattle.rules.specs.declared.Rows.{Rows}
use Rattle.rules.specs.Held.{TidyRows}
use Rattle.rules.specs.Held.{stored_rows}
use Rattle.menu.proofs.Tidy.{blank, long, keeps}
use Rattle.menu.proofs.without.Goals as goal
use Rattle.menu.proofs.without.Goals.{then-row-applet, else-row-applet}

pub loop-row-init : goal.loop-row-init
unfolding padded keep stored_rows
loop-row-init c = record { few = omega (arith, ap (λ (x : Rows). x.count) c.no_rows-left.ensures); form = ap (λ (x : Rows). x.at) c.no_rows-left.ensures; many = ap (λ (x : Rows). x.count) c.no_rows-left.ensures }

-- fewer rows are left than an array has places
room : (s : Rows) {l : List held.Row} {i k : ℕ} → TidyRows s → l ≡ take s.count s.at → i < length l → k ≤ i → k < 12
room s t e h f = omega (arith, long s t, ap length e, length-take s.count s.at, h, f)

pub loop-row-preserved : goal.loop-row-preserved
loop-row-preserved c =
    let h = room c.args.rows c.requires c.listed-row-items.ensures c.loop-row-test.true c.loop-row.invariant.few in
    elim c.if-row-applet.branch [
      | then-row-applet w ↦ rw (w.left-is, w.from.ensures) (kept-yes 12 blank _ _ _ _ _ _ c.loop-row-test.true h (ap not (ne_eqb _ _ w.if-row-applet.true)) c.loop-row.invariant)
      | else-row-applet w ↦ rw w.left-is (kept-no 12 blank _ _ _ _ _ _ c.loop-row-test.true (ap not (eq-eqb _ _ w.if-row-applet.false)) c.loop-row.invariant)
    ]

pub returns : goal.returns
returns c = keeps c.args.rows c.loop-row.left c.args.applet c.loop-row.row-index c.requires (rw c.listed-row-items.ensures at c.loop-row.invariant) (rw c.listed-row-items.ensures at c.loop-row-test.false)
