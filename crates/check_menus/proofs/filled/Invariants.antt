-- Each entry leaves a card that calls have left.
use Rattle.card.specs.View.{Left}
use Rattle.check_menus.proofs.filled.Given as goal

abbrev pub invariant-loop-i : goal.invariant-loop-i
invariant-loop-i l = Left l.card
