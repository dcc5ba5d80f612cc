-- From the card in its one form after any calls to every card that the public functions have left, and from the rules' calls to those that
-- were seen. Assumes nothing.
use Prim.Native.Nat.{ℕ}
use mathlib.Core.Path.{◌≡◌, sym, ap, subst, ◌∙◌}
use mathlib.Core.List.{List}
use Rattle.rules.specs.Holds.{Model}
use Rattle.rules.specs.Calls.{Call}
use Rattle.rules.specs.Step.{step}
use Rattle.card.specs.declared.Card.{Card}
use Rattle.card.specs.View.{view, stored}
use Rattle.history.specs.Histories.{History, accepted}
use Rattle.history.specs.Handed.{Seen, seen}
use Rattle.promises.specs.Watched.{entries_of, calls_of, Next, Watched, call_of}
use Rattle.promises.specs.Turns.{Answers}
use Rattle.promises.specs.Promised.{Judged, Holds}
use Rattle.promises.proofs.SameRuns.{next-says, same_view, watched-same, watched-left, past_is}
use Rattle.promises.proofs.TablesNamed.{m, h, holds}
use Rattle.promises.proofs.CallsNamed.{judged}
use Rattle.promises.proofs.TurnsNamed.{answers-so}

-- a card that the public functions have left
module _ {title : List ℕ} {l : List Seen} {c : Card} (w : Watched title l c) where
  abbrev pub past : History
  past = accepted (entries_of l)

  -- what holds after the calls holds of the card ..
  pub of-card : (P : History → Card → Type 0) → P (h title (calls_of l)) (stored (m title (calls_of l))) → P past c
  of-card P p = subst (λ (j : Card). P past j) (sym (watched-same w).holds) (subst (λ (g : History). P g (stored (m title (calls_of l)))) (past_is w) p)

  -- .. and what holds of a call after them holds of the call as it is seen
  pub of-call : (P : History → Card → Seen → Card → Type 0)
      → ((x : Call) → P (h title (calls_of l)) (stored (m title (calls_of l))) (seen x (step (m title (calls_of l)) x)) (stored (step (m title (calls_of l)) x).after))
      → (t : Seen) (j : Card) → Next c t j → P past c t j
  of-call P p t j n =
      let x = call_of t in
      let said = next-says (watched-left w) n in
      let v : view c ≡ m title (calls_of l) = same_view (watched-same w) in
      let as_seen : t ≡ seen x (step (m title (calls_of l)) x) = said.seen ∙ ap (λ (v : Model). seen x (step v x)) v in
      let as-left : j ≡ stored (step (m title (calls_of l)) x).after = said.card ∙ ap (λ (v : Model). stored (step v x).after) v in
      subst (λ (t : Seen). P past c t j) (sym as_seen)
      (subst (λ (j : Card). P past c (seen x (step (m title (calls_of l)) x)) j) (sym as-left)
      (of-card (λ (g : History) (d : Card). P g d (seen x (step (m title (calls_of l)) x)) (stored (step (m title (calls_of l)) x).after)) (p x)))

  -- demands 1 and 3 of it
  pub holds-of-it : Holds title past c
  holds-of-it = of-card (Holds title) (holds title (calls_of l))

  pub judged-of-it : (s : Seen) (k : Card) → Next c s k → Judged c s k
  judged-of-it = of-call (λ g d t j. Judged d t j) (judged title (calls_of l))

  pub answers-of-it : (s : Seen) (k : Card) → Next c s k → Answers past c s k
  answers-of-it = of-call Answers (answers-so title (calls_of l))
