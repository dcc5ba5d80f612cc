-- `ask_event` meets its contract.
-- Assumes nothing.
use mathlib.Core.Path.{ap, ◌∙◌}
use Rattle.rules.specs.Calls.{saying}
use Rattle.rules.specs.Held.{stored_answer}
use Rattle.rules.proofs.Numbers.{answer-beside}
use Rattle.card.proofs.Asking.{asks-event}
use Rattle.events.proofs.Places.{kind-of-value, place-within}
use Rattle.card.proofs.Card.ask_event.Goals as goal

pub bounds-registered-p : goal.bounds-registered-p
bounds-registered-p c = place-within _ (kind-of-value _ c.ranges.value c.kind_of-kind.ensures) c.place_of-place.ensures

pub returns : goal.returns
returns c =
    asks-event c.args.self c.requires c.args.applet c.args.value (kind-of-value _ c.ranges.value c.kind_of-kind.ensures)
    c.has-there.ensures c.refusal_for-refusal.ensures c.place_of-place.ensures c.is_listed-says.ensures (c.yes_or_no-answer.ensures ∙ ap stored_answer (answer-beside saying _ _ c.and.ensures))
