-- What a caller in C gets of a call on a card: what the card's method hands back, in the lent card and as the answer, and what stands in a lent buffer.
use Rattle.std.specs.Prelude.{List, ℕ}
use Rattle.rules.specs.declared.Answer.{Answer}
use Rattle.rules.specs.Calls.{Call}
use Rattle.card.specs.declared.Card.{Card}
use Rattle.card.specs.View.{Left}
use Rattle.card.specs.Replies.{Replies, Fills}

-- a call on a card, by the card and the answer that it leaves, and the buffer, empty where none is lent; the card is again one that a fresh card and calls have left
pub record Does (before : Card) (call : Call) (card : Card) (answer : Answer) (buffer : List ℕ) : Type 0 where
  pub replies : Replies before call (record { card = card; answer = answer })
  pub fills : Fills before call buffer
  pub left : Left card
