-- DEMAND 3, OF EVENTS (document 02, Ask 2): whom each next names, after any sequence of calls on a fresh card, refused ones included.
-- Assumes nothing.
use Prim.Native.Nat.{ℕ, zero, suc, ◌≤◌}
use native.Mathlib.Omega.{arith}
use mathlib.Core.Path.{◌≡◌, refl, sym, ap, subst, ◌∙◌}
use mathlib.Core.Bool.{Bool, true, false, not, ◌&&◌, ◌||◌}
use mathlib.Core.List.{List, []}
use borrow.Author.Tests.{eqb-true}
use Rattle.std.specs.Prelude.{if◌then◌else◌, ◌==◌}
use Rattle.lists.specs.Lists.{some?, every?, count, in?, times}
use Rattle.lists.proofs.Decided.{clashing, both, neither, turned, refuted}
use Rattle.lists.proofs.Truth.{or-false, not-not}
use Rattle.lists.proofs.Every.{every-passes, all_pass}
use Rattle.lists.proofs.Counts.{count-alike}
use Rattle.lists.proofs.Firsts.{some-either}
use Rattle.lists.proofs.Order.{each-there}
use Rattle.rules.specs.Holds.{Model, document, choice, help, expiry, status}
use Rattle.rules.specs.Calls.{Call, arrival, next, settled}
use Rattle.rules.specs.Refusals.{first_holding, arrival_lines, lines, refusal}
use Rattle.rules.specs.Rounds.{turns, named}
use Rattle.rules.specs.Step.{answer, outcome, step}
use Rattle.rules.specs.Runs.{card_after}
use Rattle.history.specs.Histories.{History}
use Rattle.history.specs.Deeds.{deletes}
use Rattle.history.specs.Rounds.{is_next, names, leaves}
use Rattle.history.specs.Named.{is_selectable, poll_of, owns_timer, one_to_eight, rows_named, is_outstanding}
use Rattle.history.specs.Called.{is_chosen, is_helped, is_named, is_callable, arrived, since, on_arrival, is_open, waits, is_due, is_before, gets_turn, Names, nobody, first}
use Rattle.history.proofs.RoundNamed.{is_open_lem}
use Rattle.history.proofs.Calling.{callable-there, turns-in-order, first-named, before-one-way, one_answer}
use Rattle.history.proofs.Answered.{passes, answers, gives, calls-nobody}
use Rattle.history.proofs.Eight.{each-once}
use Rattle.history.proofs.Promises.{past, agree, sound, from-1-to-8, outstanding-is-named}

-- Applet n is to be named ..
pub record ToBeNamed (h : History) (n : ℕ) : Type 0 where
  pub selectable : is_selectable n h ≡ true
  pub still : is_named h (arrived h) n ≡ true
  pub on-arrival : is_named (on_arrival h) (arrived h) n ≡ true
  pub not_named : some? (names n) (since h) ≡ false
  pub not-deleted : some? (deletes n) (since h) ≡ false

module _ (h : History) where
  due-by : (n : ℕ) → ToBeNamed h n → is_due h n ≡ true
  unfolding is_due is_callable waits leaves
  due-by n d = rw (d.selectable, d.still, d.on-arrival, some-either (names n) (deletes n) (since h), d.not_named, d.not-deleted) refl

  pub due-parts : (n : ℕ) → is_due h n ≡ true → ToBeNamed h n
  unfolding is_due is_callable waits leaves
  due-parts n e =
      let p = both (is_selectable n h && is_named h (arrived h) n) (waits n h) e in
      let q = both (is_selectable n h) (is_named h (arrived h) n) p.0 in
      let r = both (is_named (on_arrival h) (arrived h) n) _ p.1 in
      let gone : some? (leaves n) (since h) ≡ false = not-not _ ∙ ap not r.1 in
      let s = neither _ _ (sym (some-either (names n) (deletes n) (since h)) ∙ gone) in
      record { selectable = q.0; still = q.1; on-arrival = r.0; not_named = s.0; not-deleted = s.1 }

  -- .. and so is whom next names
  nobody-due : Names h [] → (n : ℕ) → is_due h n ≡ false
  nobody-due (nobody e) = e

  is-due : {l : List ℕ} → Names h l → (n : ℕ) → in? n l ≡ true → is_due h n ≡ true
  unfolding in? some?
  is-due (nobody e) n q = clashing q refl
  is-due (first k due before) n q = rw (← eqb-true k n (sym (or-false (k == n)) ∙ q)) due

  once : {l : List ℕ} → Names h l → (n : ℕ) → times n l ≡ (if in? n l then 1 else 0)
  unfolding in? some? times count
  once (nobody e) n = refl
  once (first k due before) n = rw (or-false (k == n)) refl

  -- whom next names gets the turn, and no other does
  its-turn : {l : List ℕ} → Names h l → is_open h ≡ true → ((n : ℕ) → is_due h n ≡ true → (1 ≤ n) × (n ≤ 8)) → (n : ℕ) → in? n l ≡ gets_turn n h
  unfolding in? some? gets_turn times
  its-turn (nobody e) o few n = rw (o, e n) refl
  its-turn (first k due before) o few n = rw (or-false (k == n)) (go (k == n) refl)
    where
      after : (n : ℕ) → ℕ → Bool
      after n i = i == n || not (is_due h i) || is_before h n i

      each : (i : ℕ) → after k i ≡ true
      each i = at (i == k) (is_due h i) refl refl
        where
          at : (a b : Bool) → (i == k) ≡ a → is_due h i ≡ b → (a || not b || is_before h k i) ≡ true
          at true b p q = refl
          at false true p q = before i q p
          at false false p q = refl

      go : (b : Bool) → (k == n) ≡ b → b ≡ (is_open h && is_due h n && every? (after n) one_to_eight)
      go true z = rw (← eqb-true k n z, o, due) (sym (all_pass (after k) each one_to_eight))
      go false z = rw o (sym (other (is_due h n) refl))
        where
          other : (b : Bool) → is_due h n ≡ b → (b && every? (after n) one_to_eight) ≡ false
          other true q =
              refuted (every? (after n) one_to_eight)
              (λ y. before-one-way h k n (before n q (turned n k ∙ z)) (rw (z, due) at (each-there (λ i. after n i ≡ true) k one_to_eight (every-passes (after n) one_to_eight y) (omega (arith, count-alike (λ j. j == k) (λ j. k == j) (λ j. turned j k) one_to_eight, each-once k (few k due).0 (few k due).1)))))
          other false q = refl

module _ (title : List ℕ) (calls : List Call) where
  -- the card that the calls have left, and their history
  abbrev m : Model
  m = card_after document title calls

  abbrev h : History
  h = past title calls

  -- A ROUND IS OPEN as the history says ..
  pub round-is-open-as-named : m.round.is_open ≡ is_open h
  round-is-open-as-named = (agree title calls).round.openness

  -- .. without one next gets 21, and with one settled gets 22, or 16 where a command is outstanding.
  pub next-needs-a-round : (step m next).answer.refusal ≡ (if is_open h then 0 else 21)
  unfolding refusal lines first_holding
  next-needs-a-round = gives m next ∙ rw round-is-open-as-named (go (is_open h))
    where
      go : (b : Bool) → ◌≡◌ {A = ℕ} (if not b then 21 else 0) (if b then 0 else 21)
      go true = refl
      go false = refl

  pub settled-needs-no-round : (step m (arrival settled)).answer.refusal ≡ (if is_outstanding h then 16 else if is_open h then 22 else 0)
  unfolding refusal lines arrival_lines first_holding
  settled-needs-no-round = gives m (arrival settled) ∙ rw (outstanding-is-named title calls, round-is-open-as-named) refl

  -- ONLY NEXT CALLS anybody: an arrival answers its marks only.
  pub only-next-calls : (c : Call) → is_next c ≡ false → (step m c).answer.called ≡ []
  unfolding step outcome
  only-next-calls c e = go (refusal m c)
    where
      go : (k : ℕ) → (outcome k m c).answer.called ≡ []
      go zero = calls-nobody m c e
      go (suc k) = refl

  -- EACH ACCEPTED NEXT ..
  module _ (ok : (step m next).answer.refusal ≡ 0) where
    abbrev pub called : List ℕ
    called = (step m next).answer.called

    pub a-round-is-open : is_open h ≡ true
    a-round-is-open = sym round-is-open-as-named ∙ is_open_lem m (passes m next ok)

    -- .. names the first in order that was registered on arrival, still is and is selectable, and has not been named in the round, if there is one ..
    pub next-names-the-first-in-order : Names h called
    unfolding answer named
    next-names-the-first-in-order =
        subst (Names h) (sym (ap (λ a. a.called) (answers m next (passes m next ok))))
        (first-named h (turns m.tables m.round)
        (turns-in-order m.tables h (sound title calls) (agree title calls).tables m.round (agree title calls).round (is_open_lem m (passes m next ok))))

    -- .. and no other.
    pub no-second-name : (l : List ℕ) → Names h l → l ≡ called
    no-second-name l n = one_answer h n next-names-the-first-in-order

    pub due-few : (n : ℕ) → is_due h n ≡ true → (1 ≤ n) × (n ≤ 8)
    unfolding is_due
    due-few n e = from-1-to-8 title calls n (callable-there m.tables h (sound title calls) (agree title calls).tables (arrived h) n (both _ (waits n h) e).0)

    -- It names an applet exactly if that gets the turn, and once.
    pub next-names-whose-turn-it-is : (n : ℕ) → in? n called ≡ gets_turn n h
    next-names-whose-turn-it-is n = its-turn h next-names-the-first-in-order a-round-is-open due-few n

    pub named-once : (n : ℕ) → times n called ≡ (if gets_turn n h then 1 else 0)
    named-once n = once h next-names-the-first-in-order n ∙ ap (λ (b : Bool). if b then 1 else 0) (next-names-whose-turn-it-is n)

    -- ONCE NEXT FINDS NOBODY, every applet registered on arrival, not deleted since and still registered and selectable has been named.
    pub once-next-finds-nobody-all-were-named : called ≡ [] → (n : ℕ) → is_named (on_arrival h) (arrived h) n ≡ true → some? (deletes n) (since h) ≡ false
        → is_selectable n h ≡ true → is_named h (arrived h) n ≡ true → some? (names n) (since h) ≡ true
    once-next-finds-nobody-all-were-named e n registered kept selectable still = go (some? (names n) (since h)) refl
      where
        go : (b : Bool) → some? (names n) (since h) ≡ b → b ≡ true
        go true z = refl
        go false z =
            clashing (due-by h n (record { selectable = selectable; still = still; on-arrival = registered; not_named = z; not-deleted = kept }))
            (nobody-due h (subst (Names h) e next-names-the-first-in-order) n)

    -- WHOM IT NAMES was not named in the round before, nor deleted since the arrival, and is selectable ..
    module _ (n : ℕ) (its : in? n called ≡ true) where
      to-be-named : ToBeNamed h n
      to-be-named = due-parts h n (is-due h next-names-the-first-in-order n its)

      pub none-is-named-twice : some? (names n) (since h) ≡ false
      none-is-named-twice = to-be-named.not_named

      pub none-deleted-is-named : some? (deletes n) (since h) ≡ false
      none-deleted-is-named = to-be-named.not-deleted

      -- .. and what arrived was for it on arrival and still is ..
      pub registered-on-arrival-and-still : (is_selectable n h ≡ true) × (is_named (on_arrival h) (arrived h) n ≡ true) × (is_named h (arrived h) n ≡ true)
      registered-on-arrival-and-still = (to-be-named.selectable, to-be-named.on-arrival, to-be-named.still)

      -- .. a menu choice counts only while its row is enabled ..
      pub choice-needs-an-enabled-row : (i : ℕ) → arrived h ≡ choice i
          → (is_selectable n h ≡ true) × (some? (is_chosen i n) (rows_named (on_arrival h)) ≡ true) × (some? (is_chosen i n) (rows_named h) ≡ true)
      unfolding is_named
      choice-needs-an-enabled-row i e = rw e at registered-on-arrival-and-still

      -- .. a help request only while that row also offers help ..
      pub help-needs-a-row-with-help : (i : ℕ) → arrived h ≡ help i
          → (is_selectable n h ≡ true) × (some? (is_helped i n) (rows_named (on_arrival h)) ≡ true) × (some? (is_helped i n) (rows_named h) ≡ true)
      unfolding is_named
      help-needs-a-row-with-help i e = rw e at registered-on-arrival-and-still

      -- .. the end of a timer calls the owner that the history names ..
      pub expiry-calls-the-owner : (k : ℕ) → arrived h ≡ expiry k
          → (is_selectable n h ≡ true) × (owns_timer k n (on_arrival h) ≡ true) × (owns_timer k n h ≡ true)
      unfolding is_named
      expiry-calls-the-owner k e = rw e at registered-on-arrival-and-still

      -- .. and a STATUS calls those whose request, as the history names it, is not none.
      pub status-calls-those-who-request : arrived h ≡ status
          → (is_selectable n h ≡ true) × (not (poll_of n (on_arrival h) == 0) ≡ true) × (not (poll_of n h == 0) ≡ true)
      unfolding is_named
      status-calls-those-who-request e = rw e at registered-on-arrival-and-still
