-- A fresh card, as a caller in C gets it.
-- Assumes nothing.
use mathlib.Core.Path.{◌≡◌, refl}
use Rattle.rules.specs.Beside.{FreshOutcome}
use Rattle.rules.specs.Held.{stored_answer}
use Rattle.card.specs.declared.Reply.{Reply}
use Rattle.card.specs.Replies.{fresh_reply}
use Rattle.toolkit.specs.declared.Made.{Made}
use Rattle.toolkit.specs.Beside.{made_of}

pub made-is : (o : FreshOutcome) {made : Reply} → made ≡ fresh_reply o → ◌≡◌ {A = Made} (record { card = made.card; refusal = made.answer.refusal }) (made_of o)
unfolding fresh_reply made_of stored_answer
made-is o m = rw m refl
