-- THROUGH THE DOORS AND BY RECORDS: a sequence of door calls is a sequence of the card's own calls, and so are the records of a piece of the floor program's
-- input; what is promised of every card that the public functions have left holds of theirs. Assumes nothing.
use Prim.Native.Nat.{ℕ, zero, suc}
use mathlib.Core.Path.{◌≡◌, refl, sym, ap, subst, ◌∙◌}
use mathlib.Core.Bool.{Bool, true, false}
use mathlib.Core.List.{List, [], ◌∷◌}
use lib.ListN.{length, take, drop}
use Rattle.lists.specs.Lists.{empty?}
use Rattle.rules.specs.Holds.{Model, document}
use Rattle.rules.specs.Calls.{Call}
use Rattle.rules.specs.Step.{step}
use Rattle.rules.specs.Beside.{fresh_card}
use Rattle.rules.specs.Runs.{card_after}
use Rattle.rules.specs.Floor.{Order, call as order, no_call, order_of, obey, obeyed, step_line}
use Rattle.card.specs.declared.Card.{Card}
use Rattle.card.specs.View.{view, stored}
use Rattle.card.specs.Replies.{replied, fresh_reply}
use Rattle.history.specs.Handed.{Seen}
use Rattle.toolkit.specs.declared.Made.{Made}
use Rattle.toolkit.specs.Beside.{made_of}
use Rattle.floor_records.specs.declared.AfterPiece.{AfterPiece}
use Rattle.floor_records.specs.Pieces.{card_by, card_after_piece, ObeysAll}
use Rattle.promises.specs.Watched.{calls_of, call, Watched, made, more}
use Rattle.promises.specs.Doors.{Doored, with_order, with_records, WatchedBy}
use Rattle.promises.specs.Doors as doors
use Rattle.promises.specs.Promised.{Promised}
use Rattle.promises.proofs.SameRuns.{same_view, watched-same}
use Rattle.promises.proofs.Final.{promised}

-- THE DOORS
pub doors-are-watched : {title : List ℕ} {l : List Seen} {c : Card} → Doored title l c → Watched title l c
unfolding made_of fresh_reply
doors-are-watched {title} (doors.made m e) =
    subst (Watched title []) (sym (ap (λ (m : Made). m.card) e)) (made (fresh_reply (fresh_card document title)) refl)
doors-are-watched (doors.more {k = k} x a buffer d w) = more (call x (record { card = k; answer = a }) buffer d.replies d.fills) (doors-are-watched w)

pub promised-through-doors : {title : List ℕ} {l : List Seen} {c : Card} → Doored title l c → Promised title l c
promised-through-doors d = promised (doors-are-watched d)

-- THE RECORDS of a piece of the floor program's input
module _ (title : List ℕ) where
  -- one call more
  one_more : {l : List Seen} {c : Card} → Watched title l c → (x : Call) → WatchedBy title (x ∷ calls_of l) (stored (card_after document title (x ∷ calls_of l)))
  unfolding replied card_after
  one_more {l} {c} w x =
      record {
        seen = _;
        watched = subst (Watched title _) (ap (λ (m : Model). stored (step m x).after) (same_view (watched-same w))) (more (call x (replied (step (view c) x)) (step (view c) x).buffer refl refl) w);
        made = refl;
      }

  none_more : {l : List Seen} {c : Card} → Watched title l c → WatchedBy title (calls_of l) (stored (card_after document title (calls_of l)))
  none_more {l} w = record { seen = l; watched = subst (Watched title l) (watched-same w).holds w; made = refl }

  abbrev card_of : List Call → Model
  card_of calls = card_after document title calls

  -- a record's order, and the card that it leaves
  ordered : {l : List Seen} {c : Card} → Watched title l c → (o : Order) → WatchedBy title (with_order o (calls_of l)) (stored (card_of (with_order o (calls_of l))))
  unfolding with_order
  ordered w (order x) = one_more w x
  ordered w no_call = none_more w

  order-card : (calls : List Call) (k letter : ℕ) (o : Order) → card_of (with_order o calls) ≡ (obey k letter (card_of calls) o).card
  unfolding with_order obey obeyed card_after
  order-card calls k letter (order x) = refl
  order-card calls k letter no_call = refl

  -- records, and the card that they leave: the first, and then the others
  abbrev ByRecords : (n k : ℕ) (s : List ℕ) (calls : List Call) → Type 0
  ByRecords n k s calls = WatchedBy title (with_records n s calls) (stored (card_by n k (card_of calls) s))

  first-record : (n k : ℕ) (s : List ℕ) {l : List Seen} {c : Card} → Watched title l c
      → ((l' : List Seen) (c' : Card) → Watched title l' c' → ByRecords n (suc k) (drop 24 s) (calls_of l')) → ByRecords (suc n) k s (calls_of l)
  first-record n k s {l} w others = go (empty? s) refl
    where
      o : Order
      o = order_of (take 24 s)

      next : WatchedBy title (with_order o (calls_of l)) (stored (card_of (with_order o (calls_of l))))
      next = ordered w o

      left-card : card_of (with_order o (calls_of l)) ≡ (step_line k (card_of (calls_of l)) (take 24 s)).card
      left-card = unfold step_line in order-card (calls_of l) k _ o

      rest : WatchedBy title (with_records n (drop 24 s) (with_order o (calls_of l))) (stored (card_by n (suc k) (step_line k (card_of (calls_of l)) (take 24 s)).card (drop 24 s)))
      rest =
          subst (λ (m : Model). WatchedBy title (with_records n (drop 24 s) (with_order o (calls_of l))) (stored (card_by n (suc k) m (drop 24 s)))) left-card
          (subst (ByRecords n (suc k) (drop 24 s)) next.made (others next.seen _ next.watched))

      go : (b : Bool) → empty? s ≡ b → ByRecords (suc n) k s (calls_of l)
      go true e = unfold with_records card_by in rw e (none_more w)
      go false e = unfold with_records card_by in rw e rest

  by-records : (n k : ℕ) (s : List ℕ) {l : List Seen} {c : Card} → Watched title l c → ByRecords n k s (calls_of l)
  unfolding with_records card_by
  by-records zero k s w = none_more w
  by-records (suc n) k s w = first-record n k s w (λ l' c' w'. by-records n (suc k) (drop 24 s) w')

-- A PIECE OBEYED leaves a card that the public functions have left, by the calls that its records make on top of those before; `ObeysAll` is the contract of `obey_all`
pub piece-is-watched : {title : List ℕ} {l : List Seen} {c : Card} {k : ℕ} (s : List ℕ) {b d : List ℕ} {r : AfterPiece}
    → Watched title l c → ObeysAll k (view c) s b d r → WatchedBy title (with_records (length s) s (calls_of l)) r.card
unfolding card_after_piece
piece-is-watched {title} {l} {c} {k} s w o =
    subst (WatchedBy title (with_records (length s) s (calls_of l))) (sym (o.card ∙ ap (λ (m : Model). stored (card_by (length s) k m s)) (same_view (watched-same w)))) (by-records title (length s) k s w)
