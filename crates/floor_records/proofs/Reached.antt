-- The models that a fresh card and calls have left: records leave such a model again, and its card is one that calls have left.
-- Assumes nothing.
use Prim.Native.Nat.{ℕ, zero, suc}
use mathlib.Core.Path.{◌≡◌, sym, ap, ◌∙◌}
use mathlib.Core.List.{List, [], ◌∷◌}
use lib.ListN.{length, take, drop}
use Rattle.lists.specs.Lists.{empty?}
use Rattle.rules.specs.Holds.{Model, document}
use Rattle.rules.specs.Calls.{Call}
use Rattle.rules.specs.Bytes.{byte}
use Rattle.rules.specs.Step.{step}
use Rattle.rules.specs.Runs as runs
use Rattle.rules.specs.Floor as floor
use Rattle.rules.specs.Floor.{step_line, obeyed, order_of}
use Rattle.card.specs.declared.Card.{Card}
use Rattle.card.specs.View.{view, stored, Left}
use Rattle.card.proofs.Left.{view-left}
use Rattle.floor_records.specs.Pieces.{card_by, card_after_piece}

pub record Reached (m : Model) : Type 0 where
  pub title : List ℕ
  pub calls : List Call
  pub is : m ≡ runs.card_after document title calls

pub reached-by-card : (c : Card) → Left c → Reached (view c)
reached-by-card c l = record { title = l.title; calls = l.calls; is = view-left c l }

-- its card is one that calls have left, and is read as the model
pub reached-left : {m : Model} → Reached m → Left (stored m)
reached-left r = record { title = r.title; calls = r.calls; is = ap stored r.is }

pub reached-seen : {m : Model} → Reached m → view (stored m) ≡ m
unfolding reached-left
reached-seen {m} r = view-left (stored m) (reached-left r) ∙ sym r.is

-- a record, and all records of a piece
pub reached-again : (k : ℕ) {m : Model} (s : List ℕ) → Reached m → Reached (step_line k m s).card
unfolding step_line floor.obey obeyed
reached-again k {m} s r = go (order_of s)
  where
    go : (o : floor.Order) → Reached (floor.obey k (byte s 0) m o).card
    go (floor.call x) = unfold runs.card_after in record { title = r.title; calls = x ∷ r.calls; is = ap (λ (y : Model). (step y x).after) r.is }
    go floor.no_call = r

pub reached-all : (n k : ℕ) {m : Model} (s : List ℕ) → Reached m → Reached (card_by n k m s)
unfolding card_by empty?
reached-all zero k s r = r
reached-all (suc n) k [] r = r
reached-all (suc n) k (x ∷ s) r = reached-all n (suc k) (drop 24 (x ∷ s)) (reached-again k (take 24 (x ∷ s)) r)

pub reached-after : (k : ℕ) {m : Model} (s : List ℕ) → Reached m → Reached (card_after_piece k m s)
unfolding card_after_piece
reached-after k s r = reached-all (length s) k s r
