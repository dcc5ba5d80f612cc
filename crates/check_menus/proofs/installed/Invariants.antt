-- Each install leaves a card that calls have left.
use Rattle.card.specs.View.{Left}
use Rattle.check_menus.proofs.installed.Given as goal

abbrev pub invariant-loop-applet : goal.invariant-loop-applet
invariant-loop-applet l = Left l.card
