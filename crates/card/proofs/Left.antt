-- The card that holds a model is read back as that model, and a card that a fresh card and calls have left is the one that
-- holds what it is read as. So a contract that takes `Left self` for granted leaves a card that is `Left` again.
-- Assumes nothing.
use native.Mathlib.Omega.{arith}
use lib.ListN.{length}
use Rattle.rules.specs.declared.Rows.{Rows}
use Rattle.rules.specs.Held.{stored_rows, TidyRows}
use mathlib.Core.Path.{◌≡◌, sym, ap, ◌∙◌}
use Prim.Native.Nat.{ℕ}
use mathlib.Core.List.{List, ◌∷◌}
use Rattle.rules.specs.Holds.{Bounds, Model, document}
use Rattle.rules.specs.Calls.{Call}
use Rattle.rules.specs.Step.{step}
use Rattle.rules.specs.Runs.{card_after}
use Rattle.rules.proofs.Bounds.{after-keeps}
use Rattle.runs.specs.Sound.{Sound}
use Rattle.runs.proofs.Run.{run_sound}
use Rattle.card.specs.declared.Card.{Card}
use Rattle.card.specs.View.{view, stored, Left}
use Rattle.card.proofs.Back.{view-stored}

-- what a card that holds what calls leave is read as
pub after-seen : (title : List ℕ) (calls : List Call) → view (stored (card_after document title calls)) ≡ card_after document title calls
after-seen title calls = view-stored (card_after document title calls) (run_sound title calls) (after-keeps document title calls)

-- what a card that calls have left is read as, and that it is the one form of it
pub view-left : (c : Card) (l : Left c) → view c ≡ card_after document l.title l.calls
view-left c l = ap view l.is ∙ after-seen l.title l.calls

pub left-form : (c : Card) → Left c → c ≡ stored (view c)
left-form c l = l.is ∙ sym (ap stored (view-left c l))

-- and one call more leaves such a card again
pub left-again : (c : Card) (x : Call) → Left c → Left (stored (step (view c) x).after)
unfolding card_after
left-again c x l =
    record { title = l.title; calls = x ∷ l.calls; is = ap (λ (m : Model). stored (step m x).after) (view-left c l) }

-- what holds of every card that calls have left holds of this one
pub left-sound : (c : Card) → Left c → Sound (view c)
left-sound c l = rw (view-left c l) (run_sound l.title l.calls)

pub left-bounds : (c : Card) → Left c → (view c).tables.bounds ≡ document
left-bounds c l = rw (view-left c l) (after-keeps document l.title l.calls)

-- and its rows stand in their one form
pub tidy-rows : (c : Card) → Left c → TidyRows c.rows
unfolding view stored stored_rows
tidy-rows c l =
    let form = ap (λ (k : Card). k.rows) (left-form c l) in
    let few = (left-sound c l).tables.few-rows in
    let many : c.rows.count ≡ length (view c).tables.rows = ap (λ (x : Rows). x.count) form in
    record { few = omega (arith, ap (λ (b : Bounds). b.rows) (left-bounds c l)); form = form }
