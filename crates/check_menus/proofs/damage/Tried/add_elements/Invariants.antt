-- Each element takes a byte.
use Rattle.std.proofs.Common.{◌-◌, length}
use Rattle.check_menus.proofs.damage.Tried.add_elements.Given as goal

abbrev pub decreases-loop-at : goal.decreases-loop-at
decreases-loop-at l = length l.initial.s - l.at
