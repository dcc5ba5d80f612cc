-- `menu::without` meets its contract: what is left so far is what is kept of the rows that were looked at.
use Rattle.lists.proofs.Keep.{Kept}
use Rattle.menu.proofs.Tidy.{blank, not_of}
use Rattle.menu.proofs.without.Given as goal

abbrev pub invariant-loop-row : goal.invariant-loop-row
invariant-loop-row l = Kept 12 blank (not_of l.applet) l.row-items l.row-index l.left.at l.left.count
