-- What a method hands back, by the rules' outcome of the call. Each predicate here is a contract of the card's methods.
use Rattle.std.specs.Prelude.{ℕ, ◌≡◌, List}
use Rattle.rules.specs.Holds.{document}
use Rattle.rules.specs.Calls.{Call, Outcome, refused_with}
use Rattle.rules.specs.Step.{step}
use Rattle.rules.specs.Beside.{FreshOutcome, fresh_card}
use Rattle.rules.specs.Held.{stored_answer}
use Rattle.card.specs.declared.Card.{Card}
use Rattle.card.specs.declared.Reply.{Reply}
use Rattle.card.specs.View.{view, stored}

-- the card afterwards, with the answer
unfoldable pub replied : Outcome → Reply
replied o = record { card = stored o.after; answer = stored_answer o.answer }

unfoldable pub fresh_reply : FreshOutcome → Reply
fresh_reply o = record { card = stored o.card; answer = stored_answer (refused_with o.refusal) }

-- A CALL ON A CARD: its method hands back what the rules say of it
abbrev pub Replies : Card → Call → Reply → Type 0
Replies c x r = r ≡ replied (step (view c) x)

-- and this stands in the buffer that it is lent; a call that is lent none leaves none
abbrev pub Fills : Card → Call → (buffer : List ℕ) → Type 0
Fills c x buffer = buffer ≡ (step (view c) x).buffer

-- A FRESH CARD with this title
abbrev pub MakesFresh : (title : List ℕ) → Reply → Type 0
MakesFresh title r = r ≡ fresh_reply (fresh_card document title)
