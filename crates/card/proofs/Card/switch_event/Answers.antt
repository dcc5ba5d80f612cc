-- `switch_event` meets its contract.
-- Assumes nothing.
use Rattle.events.proofs.Places.{kind-of-value, place-within}
use Rattle.card.proofs.Events.{turns-event}
use Rattle.card.proofs.Card.switch_event.Goals as goal

pub bounds-registered-p : goal.bounds-registered-p
bounds-registered-p g c = place-within _ (kind-of-value _ c.ranges.value c.kind_of-kind.ensures) c.place_of-place.ensures

pub bounds-registered-p-2 : goal.bounds-registered-p-2
bounds-registered-p-2 g c = place-within _ (kind-of-value _ c.ranges.value c.kind_of-kind.ensures) c.place_of-place.ensures

pub returns : goal.returns
returns g c =
    turns-event c.args.self c.requires c.args.applet c.args.value _ (kind-of-value _ c.ranges.value c.kind_of-kind.ensures)
    c.has-there.ensures c.turn_refusal-refusal.ensures c.place_of-place.ensures c.set_after-is.ensures c.events_turn-turns.ensures c.owner_after-control.ensures c.due_after-events_due.ensures c.refusal-answer.ensures
