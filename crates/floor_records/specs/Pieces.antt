-- A piece of the floor program's input: its records, their lines, and the card that they leave.
use Rattle.std.specs.Prelude.{ℕ, zero, suc, ◌+◌, ◌/◌, ◌≡◌, List, length, take, drop}
use Rattle.std.specs.Prelude.{if◌then◌else◌}
use Rattle.lists.specs.Lists.{empty?}
use Rattle.lists.specs.Wrote.{Wrote}
use Rattle.rules.specs.Holds.{Model}
use Rattle.rules.specs.Floor.{step_line, lines_by}
use Rattle.card.specs.View.{stored, Left}
use Rattle.floor_records.specs.declared.AfterPiece.{AfterPiece}

-- how many records of 24 bytes there are; the last may be short
abbrev pub records_in : List ℕ → ℕ
records_in s = (length s + 23) / 24

-- the card that the records from number k on leave, by at most so many, as `lines_by` has their lines
unfoldable pub card_by : (most number : ℕ) → Model → List ℕ → Model
card_by zero k m s = m
card_by (suc n) k m s = if empty? s then m else card_by n (suc k) (step_line k m (take 24 s)).card (drop 24 s)

-- the lines of a piece whose first record has number k, and the card after it
unfoldable pub lines_of : (number : ℕ) → Model → List ℕ → List ℕ
lines_of k m s = lines_by (length s) k m s

unfoldable pub card_after_piece : (number : ℕ) → Model → List ℕ → Model
card_after_piece k m s = card_by (length s) k m s

-- what a piece leaves: the card after it, the number of the next record, and its lines at the front of b, which is c afterwards
pub record ObeysAll (k : ℕ) (m : Model) (s b c : List ℕ) (r : AfterPiece) : Type 0 where
  pub card : r.card ≡ stored (card_after_piece k m s)
  pub left : Left r.card
  pub next : r.number ≡ k + records_in s
  pub wrote : Wrote b 0 (lines_of k m s) c r.len
