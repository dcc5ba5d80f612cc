-- A call more after any calls, on the card in its one form: whom it calls, and what becomes of the round and of a one-shot, as specs/Turns.antt
-- says. Assumes nothing.
use Prim.Native.Nat.{ℕ, zero, suc}
use native.Mathlib.Omega.{arith}
use mathlib.Core.Path.{◌≡◌, refl, sym, ap, subst, ◌∙◌}
use mathlib.Core.Logic.{◌⊎◌, inl, inr}
use mathlib.Core.Bool.{Bool, true, false, not, ◌&&◌}
use mathlib.Core.List.{List, [], ◌∷◌}
use Rattle.std.specs.Prelude.{if◌then◌else◌}
use Rattle.lists.specs.Lists.{empty?}
use Rattle.rules.specs.Holds.{Round}
use Rattle.rules.specs.Events.{handler_available}
use Rattle.rules.specs.Calls.{Call, ArrivalCall, arrival, next}
use Rattle.rules.specs.Rounds.{opened, named, round_with}
use Rattle.rules.specs.Step.{answer, round_after, changed, outcome, step}
use Rattle.rules.specs.Runs.{card_after}
use Rattle.arrivals.specs.Rounds.{stored_round}
use Rattle.card.specs.View.{stored}
use Rattle.history.specs.Rounds.{is_next}
use Rattle.history.specs.Named.{has_one_shot, settled_opened}
use Rattle.history.specs.Called.{gets_turn}
use Rattle.history.proofs.Answered.{passes}
use Rattle.history.proofs.RoundNamed.{is_open_lem}
use Rattle.history.proofs.Promises as runs
use Rattle.history.proofs.Turns as turns
use Rattle.history.proofs.RoundEnds.{a-round-ends}
use Rattle.history.proofs.Settled.{only-settled-arrives-so}
use Rattle.history.proofs.OneShot.{Each, one-shot-is-used-up, no-arrival-uses-it-up, one-shot-waits}
use Rattle.promises.specs.Turns.{has_shot, Turn, Answers}
use Rattle.promises.proofs.SameRuns.{next-or-other}
use Rattle.promises.proofs.TablesNamed.{m, h, c, holds}
use Rattle.promises.proofs.CallsNamed.{s, k, named-so}

-- the round goes on if one was named
goes_on : (l : List ℕ) (r : Round) → r.is_open ≡ true → (round_with l r).is_open ≡ not (empty? l)
unfolding round_with empty?
goes_on [] r o = refl
goes_on (n ∷ l) r o = o

module _ (title : List ℕ) (calls : List Call) where
  -- the one-shot by the sets
  shot-is : (n : ℕ) → has_shot (c title calls) n ≡ has_one_shot n (h title calls)
  unfolding has_one_shot
  shot-is n = (holds title calls).registered n handler_available (omega arith) refl

  -- and after a call
  then-on : (x : Call) (n : ℕ) → has_shot (k title calls x) n ≡ has_one_shot n (h title (x ∷ calls))
  unfolding has_one_shot card_after
  then-on x n = (holds title (x ∷ calls)).registered n handler_available (omega arith) refl

-- AN ACCEPTED NEXT
module _ (title : List ℕ) (calls : List Call) (ok : (step (m title calls) next).answer.refusal ≡ 0) where
  closes : (k title calls next).round.«open» ≡ not (empty? (step (m title calls) next).answer.called)
  unfolding stored stored_round step outcome changed round_after answer
  closes =
      let p = passes (m title calls) next ok in
      ap (λ (n : ℕ). (outcome n (m title calls) next).after.round.is_open) p
      ∙ goes_on (named (m title calls).tables (m title calls).round) (m title calls).round (is_open_lem (m title calls) p)
      ∙ sym (ap (λ (n : ℕ). not (empty? (outcome n (m title calls) next).answer.called)) p)

  turn-so : Turn (h title calls) (c title calls) (s title calls next) (k title calls next)
  turn-so =
      record {
        names-it = turns.next-names-the-first-in-order title calls ok;
        one_name = turns.no-second-name title calls ok;
        all_named = turns.once-next-finds-nobody-all-were-named title calls ok;
        none-twice = λ n its. (turns.none-is-named-twice title calls ok n its, turns.none-deleted-is-named title calls ok n its);
        ends = a-round-ends title calls ok;
        closes = closes;
        choice-counts = λ n i its. turns.choice-needs-an-enabled-row title calls ok n its i;
        help-counts = λ n i its. turns.help-needs-a-row-with-help title calls ok n its i;
        expiry-counts = λ n t its. turns.expiry-calls-the-owner title calls ok n its t;
        status-counts = λ n its. turns.status-calls-those-who-request title calls ok n its;
        fires = turns.named-once title calls ok;
        used-up = λ n.
            then-on title calls next n
            ∙ one-shot-is-used-up title calls n ok
            ∙ sym (ap (λ (b : Bool). if gets_turn n (h title calls) && settled_opened (h title calls) then false else b) (shot-is title calls n));
      }

-- ANY CALL
module _ (title : List ℕ) (calls : List Call) (x : Call) where
  opens_one : (y : ArrivalCall) → (step (m title calls) (arrival y)).answer.refusal ≡ 0 → (k title calls (arrival y)).round.«open» ≡ true
  unfolding stored stored_round step outcome changed round_after opened
  opens_one y ok = ap (λ (n : ℕ). (outcome n (m title calls) (arrival y)).after.round.is_open) (passes (m title calls) (arrival y) ok)

  nobody-called : (x ≡ next → ⊥) → (x ≡ next) ⊎ (is_next x ≡ false) → (step (m title calls) x).answer.called ≡ []
  nobody-called f (inl e) = absurd (f e)
  nobody-called f (inr e) = turns.only-next-calls title calls x e

  stays : (n : ℕ) (y : ArrivalCall) → x ≡ arrival y → has_shot (k title calls x) n ≡ has_shot (c title calls) n
  stays n y e = go (step (m title calls) x).answer.refusal refl
    where
      go : (r : ℕ) → (step (m title calls) x).answer.refusal ≡ r → has_shot (k title calls x) n ≡ has_shot (c title calls) n
      go zero ok =
          then-on title calls x n
          ∙ ap (λ (z : Call). has_one_shot n (h title (z ∷ calls))) e
          ∙ no-arrival-uses-it-up title calls n y (named-so title calls x e ok)
          ∙ sym (shot-is title calls n)
      go (suc r) no_way = then-on title calls x n ∙ ap (has_one_shot n) (runs.refused-call-leaves-the-past title calls x r no_way) ∙ sym (shot-is title calls n)

  pub answers-so : Answers (h title calls) (c title calls) (s title calls x) (k title calls x)
  unfolding Each
  answers-so =
      record {
        next-refused = λ e. ap (λ (y : Call). (step (m title calls) y).answer.refusal) e ∙ turns.next-needs-a-round title calls;
        settled-refused = λ e. ap (λ (y : Call). (step (m title calls) y).answer.refusal) e ∙ turns.settled-needs-no-round title calls;
        opens = λ y ok e. ap (λ (z : Call). (k title calls z).round.«open») e ∙ opens_one y (named-so title calls x e ok);
        only_next = λ f. nobody-called f (next-or-other x);
        turn = λ ok e.
            subst (λ (y : Call). Turn (h title calls) (c title calls) (s title calls y) (k title calls y)) (sym e) (turn-so title calls (named-so title calls x e ok));
        only-settled = λ y e. only-settled-arrives-so y;
        no-arrival = stays;
        lasts = λ n f has. then-on title calls x n ∙ one-shot-waits title n (x ∷ []) calls (f, tt) (sym (shot-is title calls n) ∙ has);
        tells = λ n e v ok q kind.
            ap (λ (y : Call). (step (m title calls) y).answer.says) q ∙ runs.asking-tells-what-is-named title calls n e v kind (named-so title calls x q ok);
      }
