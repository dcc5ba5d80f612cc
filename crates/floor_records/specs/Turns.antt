-- The turns of the floor program over the pieces of its input. It reads 12288 bytes at a time, 512 records; what is read last may be shorter.
use Rattle.std.specs.Prelude.{ℕ, ◌%◌, ◌≡◌, List, [], ◌∷◌, ◌++◌, length, take}
use Rattle.card.specs.declared.Card.{Card}
use Rattle.card.specs.View.{view}
use Rattle.floor_records.specs.declared.AfterPiece.{AfterPiece}
use Rattle.floor_records.specs.Pieces.{ObeysAll}

-- each piece but the last holds whole records
unfoldable pub Whole : List (List ℕ) → Type 0
Whole [] = Unit
Whole (p ∷ []) = Unit
Whole (p ∷ q ∷ l) = (length p % 24 ≡ 0) × Whole (q ∷ l)

-- What is written for pieces: a turn obeys one, from the card and the number that the turn before left, and writes the front of its buffer.
pub data Turns : (card : Card) (number : ℕ) (pieces : List (List ℕ)) (written : List ℕ) → Type 0 where
  none : {c : Card} {k : ℕ} → Turns c k [] []
  turn : {c : Card} {k : ℕ} {p b d : List ℕ} {r : AfterPiece} {l : List (List ℕ)} {w : List ℕ}
      → ObeysAll k (view c) p b d r → Turns r.card r.number l w → Turns c k (p ∷ l) (take r.len d ++ w)
