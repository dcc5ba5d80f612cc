-- Where a turn leaves the floor program.
use Rattle.std.specs.Prelude.{ℕ, ◌+◌, ◌≡◌, List}
use Rattle.card.specs.declared.Card.{Card}
use Rattle.card.specs.View.{view, stored, Left}
use Rattle.floor_records.specs.Pieces.{records_in, card_after_piece}
use Rattle.floor.specs.declared.Stand.{Stand}

-- from a card and a number to the card and the number that a piece of input leaves
pub record Turned (card : Card) (number : ℕ) (piece : List ℕ) (r : Stand) : Type 0 where
  pub after : r.card ≡ stored (card_after_piece number (view card) piece)
  pub left : Left r.card
  pub next : r.number ≡ number + records_in piece
