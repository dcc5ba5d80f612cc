-- THE OLD LIST, over every card that the public functions have left: an arrival followed at once by nexts names the list of document 01.
-- Assumes nothing.
use Prim.Native.Nat.{ℕ, suc}
use mathlib.Core.Path.{◌≡◌, refl, sym, ap, ap₂, ◌∙◌}
use mathlib.Core.List.{List, ◌++◌}
use lib.ListN.{length, take}
use Rattle.rules.specs.Holds.{Model, Tables, document}
use Rattle.rules.specs.Calls.{Call, ArrivalCall, arrival}
use Rattle.rules.specs.Rounds.{arrived_with}
use Rattle.rules.specs.Step.{step}
use Rattle.rules.specs.Runs.{card_after}
use Rattle.arrivals.specs.Rounds.{view_round}
use Rattle.card.specs.declared.Card.{Card}
use Rattle.card.specs.View.{view}
use Rattle.history.specs.Handed.{Seen}
use Rattle.history.proofs.Calling.{callable}
use Rattle.history.proofs.OldList.{nexts_name, after_nexts, nexts-name-the-old-list, one-more-ends-the-round}
use Rattle.promises.specs.Watched.{calls_of, Next, Watched, more, call_of, refusal_of}
use Rattle.promises.specs.Turns.{NextsNamed, none, then, old_list, NamesTheOldList}
use Rattle.promises.proofs.SameRuns.{next-says, same_view, watched-same, next-view, watched-left}

-- nexts, and whom they name, as the rules have them
pub record ByRules (c : Card) (n : ℕ) (l : List ℕ) (k : Card) : Type 0 where
  pub named : l ≡ nexts_name n (view c)
  pub left : view k ≡ after_nexts n (view c)

by-rules : {title : List ℕ} {seen : List Seen} {c k : Card} {n : ℕ} {l : List ℕ} → Watched title seen c → NextsNamed c n l k → ByRules c n l k
unfolding nexts_name after_nexts
by-rules w none = record { named = refl; left = refl }
by-rules {c = c} w (then {s = s} {n = n} x e r) =
    let others = by-rules (more x w) r in
    let after = next-view w x ∙ ap (λ (y : Call). (step (view c) y).after) e in
    let its = ap (λ (t : Seen). t.entry.answer.called) (next-says (watched-left w) x).seen ∙ ap (λ (y : Call). (step (view c) y).answer.called) e in
    record {
      named = ap₂ (λ (a b : List ℕ). a ++ b) its (others.named ∙ ap (nexts_name n) after);
      left = others.left ∙ ap (after_nexts n) after;
    }

same-list : (t : Tables) (x : ArrivalCall) → callable t (arrived_with x) ≡ old_list t (arrived_with x)
unfolding callable old_list
same-list t x = refl

pub old-list : {title : List ℕ} {l : List Seen} {c : Card} → Watched title l c → (s : Seen) (d : Card) → Next c s d → (x : ArrivalCall) → refusal_of s ≡ 0 → call_of s ≡ arrival x
    → NamesTheOldList c x d
unfolding view view_round
old-list {title} {l} {c} w s d o x ok e =
    record {
      named = λ n names k r. (by-rules (more o w) r).named ∙ ap (nexts_name n) after ∙ nexts-name-the-old-list title (calls_of l) x taken n ∙ ap (take n) list;
      over = λ n names k r q.
          ap (λ (v : Model). v.round.is_open) ((by-rules (more o w) r).left ∙ ap₂ after_nexts (q ∙ sym (ap (λ (i : List ℕ). suc (length i)) list)) after)
          ∙ one-more-ends-the-round title (calls_of l) x taken;
    }
  where
    m : Model
    m = card_after document title (calls_of l)

    is : view c ≡ m
    is = same_view (watched-same w)

    after : view d ≡ (step m (arrival x)).after
    after = next-view w o ∙ ap₂ (λ (v : Model) (y : Call). (step v y).after) is e

    taken : (step m (arrival x)).answer.refusal ≡ 0
    taken =
        sym (ap (λ (t : Seen). t.entry.answer.refusal) (next-says (watched-left w) o).seen ∙ ap₂ (λ (v : Model) (y : Call). (step v y).answer.refusal) is e) ∙ ok

    list : callable m.tables (arrived_with x) ≡ old_list (view c).tables (arrived_with x)
    list = same-list m.tables x ∙ sym (ap (λ (v : Model). old_list v.tables (arrived_with x)) is)
