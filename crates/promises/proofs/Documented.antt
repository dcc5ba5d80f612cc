-- What specs/DocumentOne.antt says holds of every card that the public functions have left. Assumes nothing.
use Prim.Native.Nat.{ℕ}
use mathlib.Core.Path.{◌≡◌, ap, ◌∙◌}
use mathlib.Core.List.{List}
use Rattle.rules.specs.Holds.{Bounds, document}
use Rattle.rules.specs.Calls.{Call, Outcome, refused_with}
use Rattle.rules.specs.Step.{step}
use Rattle.rules.specs.Held.{stored_answer}
use Rattle.rules.specs.Beside.{FreshOutcome, fresh_card}
use Rattle.runs.proofs.AlreadySo.{nothing_done}
use Rattle.card.specs.declared.Card.{Card}
use Rattle.card.specs.declared.Reply.{Reply}
use Rattle.card.specs.View.{view, stored}
use Rattle.card.specs.Replies.{fresh_reply, MakesFresh}
use Rattle.card.proofs.Left.{left-sound, left-bounds, tidy-rows}
use Rattle.card.proofs.Order.{count_small}
use Rattle.history.specs.Histories.{accepted}
use Rattle.history.specs.Handed.{Seen, seen, title_of}
use Rattle.history.proofs.DeskNamed.{fresh-with-its-title, fresh-refused-is-fresh}
use Rattle.history.proofs.DoneAlready.{locked-already, selectable-already, registered-already, unregistered-already, enabled-already, disabled-already}
use Rattle.promises.specs.Watched.{entries_of, calls_of, Next, Watched}
use Rattle.promises.specs.DocumentOne.{Made, Room, Unmoved, Already}
use Rattle.promises.proofs.SameRuns.{watched-left}
use Rattle.promises.proofs.TablesNamed.{m, h, c}
use Rattle.promises.proofs.Carried.{of-call}

pub made_so : (asked : List ℕ) (r : Reply) → MakesFresh asked r → Made asked r
unfolding fresh_reply
made_so asked r e =
    record {
      with-title = λ i. both (fresh-with-its-title document asked i);
      title-refused = λ i. both (fresh-refused-is-fresh document asked i);
    }
  where
    both : {o : FreshOutcome} → fresh_card document asked ≡ o → (r.answer ≡ stored_answer (refused_with o.refusal)) × (title_of asked ≡ o.card.desk.title)
    both q = (ap (λ (r : Reply). r.answer) (e ∙ ap fresh_reply q), ap (λ (o : FreshOutcome). o.card.desk.title) q)

pub room : {title : List ℕ} {l : List Seen} {c : Card} → Watched title l c → Room c
unfolding view
room {c = c} w =
    let left = watched-left w in
    record {
      applets = count_small c left;
      rows = (tidy-rows c left).few;
      timers = (left-sound c left).tables.all-timers ∙ ap (λ (b : Bounds). b.timers) (left-bounds c left);
    }

module _ (title : List ℕ) (calls : List Call) (x : Call) where
  so : (y : Call) → x ≡ y → step (m title calls) y ≡ nothing_done (m title calls)
      → Unmoved (c title calls) (seen x (step (m title calls) x)) (stored (step (m title calls) x).after)
  so y e p =
      let q : step (m title calls) x ≡ nothing_done (m title calls) = ap (step (m title calls)) e ∙ p in
      (ap (λ (o : Outcome). o.answer.refusal) q, ap (λ (o : Outcome). stored o.after) q)

  already-so : Already (h title calls) (c title calls) (seen x (step (m title calls) x)) (stored (step (m title calls) x).after)
  already-so =
      record {
        locked = λ n e here off. so _ e (locked-already title calls n here off);
        unlocked = λ n e here on. so _ e (selectable-already title calls n here on);
        set = λ n p v e here kind may on. so _ e (registered-already title calls n here v p kind may on);
        cleared = λ n p v e here kind may off. so _ e (unregistered-already title calls n here v p kind may off);
        enabled = λ n i e here its on. so _ e (enabled-already title calls n here i its on);
        disabled = λ n i e here its off. so _ e (disabled-already title calls n here i its off);
      }

pub already : {title : List ℕ} {l : List Seen} {c : Card} → Watched title l c → (s : Seen) (k : Card) → Next c s k → Already (accepted (entries_of l)) c s k
already {title} {l} w = of-call w Already (already-so title (calls_of l))
