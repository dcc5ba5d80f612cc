-- Laws of a piece: nothing, and a record and then the rest.
-- Assumes nothing.
use Prim.Native.Nat.{ℕ, zero, suc, ◌≤◌, ◌<◌}
use native.Mathlib.Omega.{arith}
use mathlib.Core.Path.{◌≡◌, refl, ap}
use mathlib.Core.List.{List, [], ◌∷◌, ◌++◌}
use lib.ListN.{length, take, drop, length-drop}
use Rattle.lists.specs.Lists.{empty?}
use Rattle.rules.specs.Holds.{Model}
use Rattle.rules.specs.Floor.{step_line, lines_by}
use Rattle.floor_records.specs.Pieces.{card_by, lines_of, card_after_piece}

-- how many records there may be does not matter from as many as there are bytes on
enough : (n j k : ℕ) (m : Model) (s : List ℕ) → length s ≤ n → length s ≤ j → (lines_by n k m s ≡ lines_by j k m s) × (card_by n k m s ≡ card_by j k m s)
unfolding lines_by card_by empty?
enough zero zero k m s p q = (refl, refl)
enough zero (suc j) k m [] p q = (refl, refl)
enough zero (suc j) k m (x ∷ s) p q = absurd (omega arith)
enough (suc n) zero k m [] p q = (refl, refl)
enough (suc n) zero k m (x ∷ s) p q = absurd (omega arith)
enough (suc n) (suc j) k m [] p q = (refl, refl)
enough (suc n) (suc j) k m (x ∷ s) p q =
    let o = step_line k m (take 24 (x ∷ s)) in
    let e = length-drop 24 (x ∷ s) in
    let rest = enough n j (suc k) o.card (drop 24 (x ∷ s)) (omega arith) (omega arith) in
    (ap (λ (l : List ℕ). o.line ++ l) rest.0, rest.1)

module _ (k : ℕ) (m : Model) where
  -- nothing makes no line and leaves the card
  pub lines_none : lines_of k m [] ≡ []
  unfolding lines_of lines_by
  lines_none = refl

  pub card-none : card_after_piece k m [] ≡ m
  unfolding card_after_piece card_by
  card-none = refl

  -- a record, then the rest
  rest-enough
      : (x : ℕ) (s : List ℕ) → let d = drop 24 (x ∷ s) in let c = (step_line k m (take 24 (x ∷ s))).card in
      (lines_by (length s) (suc k) c d ≡ lines_by (length d) (suc k) c d) × (card_by (length s) (suc k) c d ≡ card_by (length d) (suc k) c d)
  rest-enough x s = let e = length-drop 24 (x ∷ s) in enough (length s) _ (suc k) _ (drop 24 (x ∷ s)) (omega arith) (omega arith)

  pub lines-first : (s : List ℕ) → 0 < length s → lines_of k m s ≡ (step_line k m (take 24 s)).line ++ lines_of (suc k) (step_line k m (take 24 s)).card (drop 24 s)
  unfolding lines_of lines_by empty?
  lines-first [] h = absurd (omega arith)
  lines-first (x ∷ s) h = ap (λ (l : List ℕ). (step_line k m (take 24 (x ∷ s))).line ++ l) (rest-enough x s).0

  pub card-first : (s : List ℕ) → 0 < length s → card_after_piece k m s ≡ card_after_piece (suc k) (step_line k m (take 24 s)).card (drop 24 s)
  unfolding card_after_piece card_by empty?
  card-first [] h = absurd (omega arith)
  card-first (x ∷ s) h = (rest-enough x s).1
