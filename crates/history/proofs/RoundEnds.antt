-- A ROUND ENDS: each turn names one of 1 to 8 that was not named in the round before, so no round has more than eight turns that name anybody.
-- Assumes nothing.
use Prim.Native.Nat.{ℕ, zero, suc, ◌≤◌}
use native.Mathlib.Omega.{arith}
use mathlib.Core.Path.{◌≡◌, refl, sym, ap, subst, ◌∙◌}
use mathlib.Core.Bool.{Bool, true, ◌||◌}
use mathlib.Core.List.{List, [], ◌∷◌}
use borrow.Author.Tests.{eqb-true}
use Rattle.std.specs.Prelude.{◌==◌}
use Rattle.lists.specs.Lists.{some?, empty?, count, in?, keep}
use Rattle.lists.proofs.Decided.{clashing}
use Rattle.lists.proofs.Truth.{or-false}
use Rattle.lists.proofs.Counts.{count-alike, count-apart, count_none, count-length}
use Rattle.rules.specs.Holds.{Model, document}
use Rattle.rules.specs.Calls.{Call, Answer, admin, event, entry, timer, arrival, next, proactive, system_command}
use Rattle.rules.specs.Step.{step}
use Rattle.rules.specs.Runs.{card_after}
use Rattle.history.specs.Histories.{did, History, accepted}
use Rattle.history.specs.Rounds.{is_turn, names}
use Rattle.history.specs.Named.{one_to_eight}
use Rattle.history.specs.Called.{since, is_open, is_due, Names, nobody, first}
use Rattle.history.specs.Runs.{history_of}
use Rattle.history.proofs.Open.{reading}
use Rattle.history.proofs.Agrees.{accepted-more}
use Rattle.history.proofs.Eight.{each-once}
use Rattle.history.proofs.Promises.{past, refused-call-leaves-the-past}
use Rattle.history.proofs.Turns.{due-parts, a-round-is-open, next-names-the-first-in-order, due-few}

-- as many turns as applets named in the round
abbrev Counted : History → Type 0
Counted h = count is_turn (since h) ≡ count (λ n. some? (names n) (since h)) one_to_eight

turn-counted : (h : History) {l : List ℕ} → Names h l → (a : Answer) → a.called ≡ l → ((n : ℕ) → is_due h n ≡ true → (1 ≤ n) × (n ≤ 8))
    → Counted h → is_open (did next a ∷ h) ≡ true → Counted (did next a ∷ h)
unfolding is_open since count some? in? empty? reading
turn-counted h (nobody e) a q few i o = clashing (rw q at o) refl
turn-counted h (first k due before) a q few i o =
    let apart = count-apart (λ n. k == n) (λ n. some? (names n) (since h)) (λ n z. rw (← eqb-true k n z) (due-parts h k due).not_named) one_to_eight in
    let more : suc (count (λ n. some? (names n) (since h)) one_to_eight) ≡ count (λ n. k == n || some? (names n) (since h)) one_to_eight = omega (arith, apart, each-once k (few k due).0 (few k due).1) in
    rw q (ap suc i ∙ more ∙ count-alike _ _ (λ n. ap (λ (b : Bool). b || some? (names n) (since h)) (sym (or-false (k == n)))) one_to_eight)

module _ (title : List ℕ) (calls : List Call) where
  abbrev m : Model
  m = card_after document title calls

  abbrev h : History
  h = past title calls

  call-counted : (c : Call) → (step m c).answer.refusal ≡ 0 → (is_open h ≡ true → Counted h) → is_open (did c (step m c).answer ∷ h) ≡ true → Counted (did c (step m c).answer ∷ h)
  unfolding is_open since count some? reading
  call-counted (admin c) ok i o = i o
  call-counted (event c) ok i o = i o
  call-counted (entry c) ok i o = i o
  call-counted (timer c) ok i o = i o
  call-counted (arrival c) ok i o = sym (count_none _ (λ n. refl) one_to_eight)
  call-counted next ok i o = turn-counted h (next-names-the-first-in-order title calls ok) (step m next).answer refl (due-few title calls ok) (i (a-round-is-open title calls ok)) o
  call-counted (proactive c) ok i o = i o
  call-counted (system_command buffer) ok i o = i o

-- after any calls
abbrev InOpenRound : History → Type 0
InOpenRound h = is_open h ≡ true → Counted h

counted : (title : List ℕ) (calls : List Call) → InOpenRound (past title calls)
unfolding history_of accepted keep is_open reading
counted title [] = λ o. clashing o refl
counted title (c ∷ calls) = go (step (card_after document title calls) c).answer.refusal refl (counted title calls)
  where
    go : (k : ℕ) → (step (card_after document title calls) c).answer.refusal ≡ k → InOpenRound (past title calls) → InOpenRound (past title (c ∷ calls))
    go zero ok i = subst InOpenRound (sym (accepted-more c (step (card_after document title calls) c).answer (history_of title calls) ok)) (call-counted title calls c ok i)
    go (suc k) no_way i = subst InOpenRound (sym (refused-call-leaves-the-past title calls c k no_way)) i

-- A ROUND ENDS: after eight turns next finds nobody.
pub a-round-ends : (title : List ℕ) (calls : List Call) → (step (card_after document title calls) next).answer.refusal ≡ 0
    → 8 ≤ count is_turn (since (past title calls)) → (step (card_after document title calls) next).answer.called ≡ []
a-round-ends title calls ok many = go (next-names-the-first-in-order title calls ok) refl
  where
    h : History
    h = past title calls

    a : Answer
    a = (step (card_after document title calls) next).answer

    ninth : suc (count is_turn (since h)) ≡ count (λ n. some? (names n) (since (did next a ∷ h))) one_to_eight → ⊥
    ninth e = unfold one_to_eight in omega (arith, count-length (λ n. some? (names n) (since (did next a ∷ h))) one_to_eight)

    go : {l : List ℕ} → Names h l → a.called ≡ l → l ≡ []
    go (nobody e) q = refl
    go (first k due before) q =
        let o = a-round-is-open title calls ok in
        absurd (ninth (unfold is_open since count empty? one_to_eight reading in turn-counted h (first k due before) a q (due-few title calls ok) (counted title calls o) (rw q o)))
