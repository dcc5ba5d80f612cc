-- THE OLD LIST: an arrival followed at once by nexts names the list of document 01, those whom it is for and who are selectable, in order; and
-- then the round is over. Assumes nothing.
use Prim.Native.Nat.{ℕ, zero, suc}
use native.Mathlib.Omega.{arith}
use mathlib.Core.Path.{◌≡◌, refl, sym, ap, subst, ◌∙◌}
use mathlib.Core.Bool.{Bool, true, false, not, ◌&&◌}
use mathlib.Core.List.{List, [], ◌∷◌, ◌++◌}
use lib.ListN.{length, take}
use Rattle.std.specs.Prelude.{if◌then◌else◌, ◌==◌}
use Rattle.lists.specs.Lists.{Ordered, some?, count, in?, times}
use Rattle.lists.proofs.Decided.{turned}
use Rattle.lists.proofs.Truth.{and-false, and-true, or-false}
use Rattle.lists.proofs.Times.{some_alike}
use Rattle.rules.specs.Holds.{Round, Model, Arrival, document, event, choice, help, expiry, status, nothing}
use Rattle.rules.specs.Calls.{Call, Answer, Outcome, ArrivalCall, arrival, next}
use Rattle.rules.specs.Refusals.{first_holding, lines, refusal}
use Rattle.rules.specs.Rounds.{arrived_with, opened, turns, named, round_with}
use Rattle.rules.specs.Step.{answer, round_after, changed, outcome, step}
use Rattle.rules.specs.Runs.{card_after}
use Rattle.rules.proofs.OnRefusal.{refused}
use Rattle.history.specs.Histories.{did, History}
use Rattle.history.specs.Named.{is_selectable, priority_of, is_later, is_registered, uses_up, poll_of, owns_timer, rows_named}
use Rattle.history.specs.Called.{is_chosen, is_helped, is_named, is_callable, arrived, since, on_arrival, waits, is_due, is_before}
use Rattle.history.specs.Runs.{history_of}
use Rattle.history.proofs.Open.{reading}
use Rattle.history.proofs.Agree.{Agree}
use Rattle.history.proofs.Agrees.{accepted-more, ground, agrees}
use Rattle.history.proofs.RowsNamed.{arrival-rows, next-rows}
use Rattle.history.proofs.RoundNamed.{waits-less}
use Rattle.history.proofs.Calling.{EachInOrder, callable, callable-in-order, turns-in-order, one-list-only}
use Rattle.history.proofs.Answered.{passes, answers, gives}
use Rattle.history.proofs.Promises.{past}

-- what nexts name, one after the other, and the card after them
unfoldable pub nexts_name : (nexts : ℕ) → Model → List ℕ
nexts_name zero m = []
nexts_name (suc k) m = (step m next).answer.called ++ nexts_name k (step m next).after

unfoldable pub after_nexts : (nexts : ℕ) → Model → Model
after_nexts zero m = m
after_nexts (suc k) m = after_nexts k (step m next).after

module _ (h : History) where
  -- an arrival leaves who is registered for what, and so does a turn of another
  arrival-leaves : (c : ArrivalCall) (x : Answer) (a : Arrival) (n : ℕ) → is_named (did (arrival c) x ∷ h) a n ≡ is_named h a n
  unfolding is_named is_registered uses_up owns_timer poll_of reading
  arrival-leaves c x (event e) n = refl
  arrival-leaves c x (choice i) n = some_alike (is_chosen i n) _ (rows_named h) (arrival-rows c x h (is_chosen i n))
  arrival-leaves c x (help i) n = some_alike (is_helped i n) _ (rows_named h) (arrival-rows c x h (is_helped i n))
  arrival-leaves c x (expiry k) n = refl
  arrival-leaves c x status n = refl
  arrival-leaves c x nothing n = refl

  next-leaves : (x : Answer) (a : Arrival) (n : ℕ) → in? n x.called ≡ false → is_named (did next x ∷ h) a n ≡ is_named h a n
  unfolding is_named is_registered uses_up owns_timer poll_of reading
  next-leaves x (event e) n q = rw q refl
  next-leaves x (choice i) n q = some_alike (is_chosen i n) _ (rows_named h) (next-rows x h (is_chosen i n))
  next-leaves x (help i) n q = some_alike (is_helped i n) _ (rows_named h) (next-rows x h (is_helped i n))
  next-leaves x (expiry k) n q = refl
  next-leaves x status n q = refl
  next-leaves x nothing n q = refl

  -- when a round is opened, those are due whom the arrival is for ..
  due-opened : (c : ArrivalCall) (x : Answer) (n : ℕ) → is_due (did (arrival c) x ∷ h) n ≡ is_callable h (arrived_with c) n
  unfolding is_due is_callable is_selectable arrived since on_arrival waits some? reading
  due-opened c x n = rw (arrival-leaves c x (arrived_with c) n) (go (is_selectable n h) (is_named h (arrived_with c) n))
    where
      go : (a b : Bool) → (a && b && (b && true)) ≡ (a && b)
      go true true = refl
      go true false = refl
      go false b = refl

  -- .. and after a turn, those who were due but for the one named
  due-less : (x : Answer) (k : ℕ) → x.called ≡ k ∷ [] → (n : ℕ) → is_due (did next x ∷ h) n ≡ (is_due h n && not (n == k))
  unfolding in? some?
  due-less x k q n = go (k == n) refl
    where
      its : in? n x.called ≡ (k == n)
      its = rw q (or-false (k == n))

      fewer : waits n (did next x ∷ h) ≡ (waits n h && not (n == k))
      fewer = unfold reading in waits-less n k (did next x) h refl (or-false (in? n x.called) ∙ its ∙ turned k n)

      none : (a b c : Bool) → (a && (b && false)) ≡ (c && false)
      none a b c = rw (and-false b, and-false c) (and-false a)

      go : (b : Bool) → (k == n) ≡ b → is_due (did next x ∷ h) n ≡ (is_due h n && not (n == k))
      go true z = unfold is_due in rw (fewer, turned n k, z) (none (is_callable (did next x ∷ h) (arrived (did next x ∷ h)) n) (waits n h) (is_due h n))
      go false z =
          unfold is_due is_callable is_selectable arrived reading in
          rw (fewer, turned n k, z, next-leaves x (arrived h) n (its ∙ z), and-true (waits n h)) (sym (and-true (is_due h n)))

  -- the list of those who are due, when a round is opened, and after a turn
  list-opened : (c : ArrivalCall) (x : Answer) {l : List ℕ} → EachInOrder h (is_callable h (arrived_with c)) l → EachInOrder (did (arrival c) x ∷ h) (is_due (did (arrival c) x ∷ h)) l
  unfolding is_before priority_of is_later reading
  list-opened c x e = record { once = λ n. e.once n ∙ ap (λ (b : Bool). if b then 1 else 0) (sym (due-opened c x n)); in_order = e.in_order }

  list-less : (x : Answer) (k : ℕ) → x.called ≡ k ∷ [] → (l : List ℕ) → EachInOrder h (is_due h) (k ∷ l) → EachInOrder (did next x ∷ h) (is_due (did next x ∷ h)) l
  unfolding is_before priority_of is_later Ordered times count reading
  list-less x k q l e = record { once = λ n. go n (k == n) refl (e.once n) ∙ ap (λ (b : Bool). if b then 1 else 0) (sym (due-less x k q n)); in_order = e.in_order.1 }
    where
      go : (n : ℕ) (b : Bool) → (k == n) ≡ b → (if b then suc (times n l) else times n l) ≡ (if is_due h n then 1 else 0)
          → times n l ≡ (if is_due h n && not (n == k) then 1 else 0)
      go n true z r = rw (turned n k, z, and-false (is_due h n)) (few (is_due h n) r)
        where
          few : (b : Bool) → suc (times n l) ≡ (if b then 1 else 0) → times n l ≡ 0
          few true r = omega arith
          few false r = absurd (omega arith)
      go n false z r = rw (turned n k, z, and-true (is_due h n)) r

-- with no round open nexts name nobody
closed-names-nobody : (k : ℕ) (x : Model) → x.round.is_open ≡ false → nexts_name k x ≡ []
unfolding nexts_name refusal lines first_holding
closed-names-nobody zero x e = refl
closed-names-nobody (suc k) x e =
    ap (λ (o : Outcome). o.answer.called ++ nexts_name k o.after) (refused x next 20 (rw e refl)) ∙ closed-names-nobody k x e

module _ (title : List ℕ) (calls : List Call) where
  abbrev m : Model
  m = card_after document title calls

  abbrev h : History
  h = past title calls

  -- whose turn is to come on the card that one accepted call more has left
  listed-after : (c : Call) → (step m c).answer.refusal ≡ 0 → (card_after document title (c ∷ calls)).round.is_open ≡ true
      → EachInOrder (did c (step m c).answer ∷ h) (is_due (did c (step m c).answer ∷ h)) (turns (card_after document title (c ∷ calls)).tables (card_after document title (c ∷ calls)).round)
  unfolding history_of
  listed-after c ok o =
      let x = card_after document title (c ∷ calls) in
      let g : Agree x (did c (step m c).answer ∷ h) = subst (Agree x) (accepted-more c (step m c).answer (history_of title calls) ok) (agrees title (c ∷ calls)) in
      turns-in-order x.tables _ (ground title (c ∷ calls)).sound.tables g.tables x.round g.round o

  -- A TURN: next finds nobody and the round is over, or names the first, and the others are left.
  module _ (o : m.round.is_open ≡ true) where
    takes : refusal m next ≡ 0
    unfolding refusal lines first_holding
    takes = rw o refl

    called-first : (step m next).answer.called ≡ take 1 (turns m.tables m.round)
    unfolding answer named
    called-first = ap (λ a. a.called) (answers m next takes)

    round-left : (card_after document title (next ∷ calls)).round ≡ round_with (take 1 (turns m.tables m.round)) m.round
    unfolding card_after step outcome changed round_after named
    round-left = ap (λ (k : ℕ). (outcome k m next).after.round) takes

    is-over : turns m.tables m.round ≡ [] → (card_after document title (next ∷ calls)).round.is_open ≡ false
    unfolding round_with
    is-over e = ap (λ (r : Round). r.is_open) (round-left ∙ ap (λ (l : List ℕ). round_with (take 1 l) m.round) e)

    module _ (k : ℕ) (l : List ℕ) (e : turns m.tables m.round ≡ k ∷ l) where
      goes_on : (card_after document title (next ∷ calls)).round.is_open ≡ true
      unfolding round_with
      goes_on = ap (λ (r : Round). r.is_open) (round-left ∙ ap (λ (l : List ℕ). round_with (take 1 l) m.round) e) ∙ o

      others-left : turns (card_after document title (next ∷ calls)).tables (card_after document title (next ∷ calls)).round ≡ l
      others-left =
          one-list-only _ _ _ l (listed-after next (gives m next ∙ takes) goes_on)
          (list-less h (step m next).answer k (called-first ∙ ap (take 1) e) l
          (subst (EachInOrder h (is_due h)) e (turns-in-order m.tables h (ground title calls).sound.tables (agrees title calls).tables m.round (agrees title calls).round o)))

-- NEXTS NAME THOSE WHOSE TURN IS TO COME, one after the other ..
one_by_one : (k : ℕ) (title : List ℕ) (calls : List Call) (l : List ℕ) → (m title calls).round.is_open ≡ true → turns (m title calls).tables (m title calls).round ≡ l
    → nexts_name k (m title calls) ≡ take k l
unfolding nexts_name card_after
one_by_one zero title calls l o e = refl
one_by_one (suc k) title calls [] o e =
    ap (λ (c : List ℕ). c ++ nexts_name k (m title (next ∷ calls))) (called-first title calls o ∙ ap (take 1) e)
    ∙ closed-names-nobody k (m title (next ∷ calls)) (is-over title calls o e)
one_by_one (suc k) title calls (j ∷ l) o e =
    ap (λ (c : List ℕ). c ++ nexts_name k (m title (next ∷ calls))) (called-first title calls o ∙ ap (take 1) e)
    ∙ ap (λ (r : List ℕ). j ∷ r) (one_by_one k title (next ∷ calls) l (goes_on title calls o j l e) (others-left title calls o j l e))

-- .. and then the round is over.
over-then : (l title : List ℕ) (calls : List Call) → (m title calls).round.is_open ≡ true → turns (m title calls).tables (m title calls).round ≡ l
    → (after_nexts (suc (length l)) (m title calls)).round.is_open ≡ false
unfolding after_nexts card_after
over-then [] title calls o e = is-over title calls o e
over-then (j ∷ l) title calls o e = over-then l title (next ∷ calls) (goes_on title calls o j l e) (others-left title calls o j l e)

-- AN ARRIVAL FOLLOWED AT ONCE BY NEXTS, on a card that calls have left:
module _ (title : List ℕ) (calls : List Call) (c : ArrivalCall) (ok : (step (m title calls) (arrival c)).answer.refusal ≡ 0) where
  opens_one : (m title (arrival c ∷ calls)).round.is_open ≡ true
  unfolding card_after step outcome changed round_after opened
  opens_one = ap (λ (k : ℕ). (outcome k (m title calls) (arrival c)).after.round.is_open) (passes (m title calls) (arrival c) ok)

  all-wait : turns (m title (arrival c ∷ calls)).tables (m title (arrival c ∷ calls)).round ≡ callable (m title calls).tables (arrived_with c)
  all-wait =
      one-list-only _ _ _ _ (listed-after title calls (arrival c) ok opens_one)
      (list-opened (h title calls) c (step (m title calls) (arrival c)).answer (callable-in-order (m title calls).tables (h title calls) (ground title calls).sound.tables (agrees title calls).tables (arrived_with c)))

  -- they name the old list, in the old order ..
  pub nexts-name-the-old-list : (k : ℕ) → nexts_name k (step (m title calls) (arrival c)).after ≡ take k (callable (m title calls).tables (arrived_with c))
  unfolding card_after
  nexts-name-the-old-list k = one_by_one k title (arrival c ∷ calls) _ opens_one all-wait

  -- .. and one more ends the round.
  pub one-more-ends-the-round : (after_nexts (suc (length (callable (m title calls).tables (arrived_with c)))) (step (m title calls) (arrival c)).after).round.is_open ≡ false
  unfolding card_after
  one-more-ends-the-round = over-then _ title (arrival c ∷ calls) opens_one all-wait
