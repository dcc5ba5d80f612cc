-- What next leaves of the card: the one named leaves the round, and its one-shot is used up in one that settled opened.
-- Assumes nothing.
use Prim.Native.Nat.{ℕ, zero, suc}
use native.Mathlib.Omega.{arith}
use mathlib.Core.Path.{◌≡◌, refl, sym, ap, ap₂, subst, ◌∙◌}
use mathlib.Core.Logic.{inl, inr}
use mathlib.Core.Bool.{Bool, true, false, not, ◌&&◌}
use mathlib.Core.List.{List, [], ◌∷◌}
use lib.ListN.{take, get_or, set}
use borrow.Author.Tests.{ne_eqb}
use Rattle.std.specs.Prelude.{if◌then◌else◌, ◌==◌}
use Rattle.lists.specs.Lists.{empty?, first}
use Rattle.lists.specs.Tables.{table}
use Rattle.lists.proofs.Ifs.{if-holds}
use Rattle.lists.proofs.Places.{set-held}
use Rattle.lists.proofs.Decided.{clashing}
use Rattle.lists.proofs.Truth.{and-true}
use Rattle.sets.specs.Sets.{numbers, valued, has?, set_of, single, set_both, set_without}
use Rattle.sets.proofs.Bits.{has-set, has-empty, set-alike}
use Rattle.sets.proofs.LeftOut.{turned-without}
use Rattle.rules.specs.declared.Answer.{Answer}
use Rattle.rules.specs.declared.Round as held-round
use Rattle.rules.specs.Holds.{Tables, Round, Model, no_round}
use Rattle.rules.specs.Held.{view_rows, stored_rows, view_arrival, stored_answer}
use Rattle.rules.specs.Events.{handler_available}
use Rattle.rules.specs.Applets.{present, with_registration}
use Rattle.rules.specs.Arrivals.{no_marks}
use Rattle.rules.specs.Calls.{next, calling}
use Rattle.rules.specs.Desk.{marked}
use Rattle.std.specs.Prelude.{Result, Ok, Err}
use Rattle.std.specs.Result.{result_and, result_unwrap_or}
use Rattle.rules.specs.declared.refused.Refused.{Refused}
use Rattle.rules.specs.Numbers.{number_of, refusal_number}
use Rattle.rules.proofs.Numbers.{number-above}
use Rattle.rules.specs.Refusals.{line, first_holding, lines, refusal}
use Rattle.rules.specs.Rounds.{named, round_with, by_settled, used_up}
use Rattle.rules.specs.Step.{step, outcome, tables_after, round_after, desk_after, answer}
use Rattle.applets.specs.ByNumber.{at, roll_of, selectable_set, registered_set, made_table, poll_table}
use Rattle.arrivals.specs.Whom.{IsForOn}
use Rattle.arrivals.specs.Rounds.{view_round, stored_round, leaving}
use Rattle.card.specs.declared.Card.{Card}
use Rattle.card.specs.declared.Reply.{Reply}
use Rattle.card.specs.View.{view, stored, Left}
use Rattle.card.specs.Replies.{replied}
use Rattle.card.proofs.Left.{left-sound}
use Rattle.card.proofs.Marks.{quiet-desk}
use Rattle.card.proofs.Turned.{turn-quiet}
use Rattle.card.proofs.Listeners.{set_is}
use Rattle.card.proofs.Events.{sets-are, roll-same, made-same, polls-same, selectable-same}
use Rattle.card.proofs.Replied.{replies, tables_by, round_by, after-with, card-is, roll-form, selectable-form, registered-form, made-form, polls-form, control-form, rows-form, bank-form, round-less}
use Rattle.card.proofs.Turn.{closed_is, closed_none, Turn, turn}

-- the one called, beside the refusal
pub called-beside
    : (x : Result Unit Refused) (n : ℕ) {given : Result ℕ Refused}
    → given ≡ result_and x (Ok n)
    → ◌≡◌ {A = Answer} (record { refusal = refusal_number given; number = 0; says = false; called = result_unwrap_or given 0; marks = no_marks })
    (record { refusal = refusal_number x; number = 0; says = false; called = if refusal_number x == 0 then n else 0; marks = no_marks })
unfolding refusal_number
called-beside x n is = ap {B = Answer} (λ (g : Result ℕ Refused). record { refusal = refusal_number g; number = 0; says = false; called = result_unwrap_or g 0; marks = no_marks }) is ∙ go x
  where
    go : (x : Result Unit Refused) → ◌≡◌ {A = Answer} (record { refusal = refusal_number (result_and x (Ok n)); number = 0; says = false; called = result_unwrap_or (result_and x (Ok n)) 0; marks = no_marks })
        (record { refusal = refusal_number x; number = 0; says = false; called = if refusal_number x == 0 then n else 0; marks = no_marks })
    go (Ok u) = refl
    go (Err r) = rw (ne_eqb (number_of r) 0 (number-above r)) refl

abbrev turned_card : Card → (registered : List ℕ) → held-round.Round → Card
turned_card c g k =
    record { roll = c.roll; selectable = c.selectable; registered = g; made = c.made; polls = c.polls; control = c.control; rows = c.rows; bank = c.bank; desk = c.desk; round = k }

module _ (c : Card) (left : Left c) where
  abbrev m : Model
  m = view c

  abbrev t : Tables
  t = m.tables

  abbrev q : Round
  q = m.round

  abbrev l : List ℕ
  l = named t q

  -- WHAT A TURN LEAVES
  abbrev u : Tables
  u = used_up q.arrived l t

  module _ {r n : ℕ} (e : r ≡ refusal m next) (it : Turn c left n) where
    -- a refused one finds no round open, so nobody is named
    refused_none : (r ≡ 0 → ⊥) → (l ≡ []) × (q ≡ no_round)
    unfolding refusal lines first_holding view view_round
    refused_none z = go c.round.«open» refl e
      where
        go : (b : Bool) → c.round.«open» ≡ b → r ≡ (if not b then 21 else 0) → (l ≡ []) × (q ≡ no_round)
        go true p s = absurd (z s)
        go false p s = (closed_none c left p, closed_is c left p)

    tables-are : tables_by m next r ≡ u
    unfolding tables_after
    tables-are = go r refl
      where
        go : (k : ℕ) → r ≡ k → tables_by m next k ≡ u
        go zero z = refl
        go (suc k) z = unfold used_up in rw (ne_eqb (suc k) 0 (λ z. omega arith), (refused_none (λ y. omega (arith, z))).0) refl

    round_is : round_by m next r ≡ round_with l q
    unfolding round_after
    round_is = go r refl
      where
        go : (k : ℕ) → r ≡ k → round_by m next k ≡ round_with l q
        go zero z = refl
        go (suc k) z =
            let none = refused_none (λ y. omega (arith, z)) in
            unfold round_with in rw (ne_eqb (suc k) 0 (λ z. omega arith), none.0) none.1

    after_is : (step m next).after ≡ record { tables = u; desk = marked t u m.desk; round = round_with l q }
    unfolding desk_after
    after_is = after-with m next e refl tables-are round_is

    -- the one called
    called_is : (k : ℕ) → ◌≡◌ {A = Answer} (record { refusal = k; number = 0; says = false; called = if k == 0 then n else 0; marks = no_marks }) (stored_answer (outcome k m next).answer)
    unfolding outcome answer stored_answer empty?
    called_is zero = go it
      where
        go : Turn c left n → ◌≡◌ {A = Answer} (record { refusal = 0; number = 0; says = false; called = n; marks = no_marks }) (stored_answer (calling l))
        go (inl (p, s)) = rw (p, s) refl
        go (inr (p, s, h)) = rw p refl
    called_is (suc k) = rw (ne_eqb (suc k) 0 (λ z. omega arith)) refl

    -- where it is refused, nobody is named
    only-accepted : (k : ℕ) → r ≡ k → n ≡ (if k == 0 then n else 0)
    unfolding empty?
    only-accepted zero z = refl
    only-accepted (suc k) z = rw (ne_eqb (suc k) 0 (λ z. omega arith)) (go it)
      where
        go : Turn c left n → n ≡ 0
        go (inl (p, s)) = s
        go (inr (p, s, h)) = clashing (ap empty? (sym p ∙ (refused_none (λ y. omega (arith, z))).0)) refl

    -- the round
    left-round : {k : held-round.Round} → k ≡ (if n == 0 then stored_round no_round else leaving c.round n) → k ≡ stored_round (round_with l q)
    unfolding round_with
    left-round p = p ∙ go it
      where
        go : Turn c left n → (if n == 0 then stored_round no_round else leaving c.round n) ≡ stored_round (round_with l q)
        go (inl (x, y)) = rw (x, y) refl
        go (inr (x, y, z)) = rw (x, ne_eqb n 0 y) (round-less c left n)

    -- who is registered
    abbrev waiting : ℕ
    waiting = get_or c.registered handler_available 0

    abbrev spent : ℕ
    spent = if by_settled q.arrived then single n else 0

    -- none is taken out of the set
    all_stay : (s : ℕ) → ((k : ℕ) → has? s k ≡ false) → set_without waiting s ≡ waiting
    unfolding registered_set
    all_stay s none =
        let is = set_is c left handler_available (omega arith) in
        ap (λ (w : ℕ). set_without w s) is
        ∙ set-alike _ _ (λ k a b. ap₂ (λ (x y : Bool). x && not y) (has-set (λ j. get_or (at t.applets j).events handler_available false) k a b) (none k) ∙ and-true (get_or (at t.applets k).events handler_available false))
        ∙ sym is

    sets-stay : (s : ℕ) → ((k : ℕ) → has? s k ≡ false) → set c.registered handler_available (set_without waiting s) ≡ table 20 (registered_set t.applets)
    sets-stay s none = ap (set c.registered handler_available) (all_stay s none) ∙ set-held 0 c.registered handler_available ∙ registered-form c left

    -- nobody is in the set of 0
    zero-none : (k : ℕ) → has? (single 0) k ≡ false
    unfolding single set_of valued numbers has?
    zero-none k = ap (λ (s : ℕ). has? s k) (set-alike (λ j. j == 0) (λ j. false) (λ j a b. ne_eqb j 0 (λ z. omega arith))) ∙ has-empty k

    -- the tables after a turn, by number and set
    pub record Held (v : Tables) (g : List ℕ) : Type 0 where
      pub roll : roll_of v.applets ≡ roll_of t.applets
      pub selectable : selectable_set v.applets ≡ selectable_set t.applets
      pub registered : g ≡ table 20 (registered_set v.applets)
      pub made : made_table v.applets ≡ made_table t.applets
      pub polls : poll_table v.applets ≡ poll_table t.applets
      pub control : v.control ≡ t.control
      pub rows : v.rows ≡ t.rows
      pub timers : v.timers ≡ t.timers

    abbrev registers : ℕ → List ℕ
    registers s = set c.registered handler_available (set_without waiting s)

    stays : (s : ℕ) → ((k : ℕ) → has? s k ≡ false) → Held t (registers s)
    stays s none =
        record { roll = refl; selectable = refl; registered = sets-stay s none; made = refl; polls = refl; control = refl; rows = refl; timers = refl }

    one-spent : present t n ≡ true → Held (with_registration t n handler_available false) (registers (single n))
    unfolding with_registration
    one-spent here =
        record {
          roll = roll-same c left n handler_available false (omega arith) here;
          selectable = selectable-same c left n handler_available false (omega arith) here;
          registered = ap (set c.registered handler_available) (sym (turned-without waiting n)) ∙ sets-are c left n handler_available false (omega arith) here;
          made = made-same c left n handler_available false (omega arith) here;
          polls = polls-same c left n handler_available false (omega arith) here;
          control = refl;
          rows = refl;
          timers = refl;
        }

    held : Held u (registers spent)
    held = go it
      where
        by : present t n ≡ true → (b : Bool) → Held (if b then with_registration t n handler_available false else t) (registers (if b then single n else 0))
        by here true = one-spent here
        by here false = stays 0 has-empty

        go : Turn c left n → Held u (registers spent)
        go (inl (x, y)) =
            subst (λ (k : List ℕ). Held (used_up q.arrived k t) (registers spent)) (sym x)
            (unfold used_up in stays spent (λ k. if-holds (λ (s : ℕ). has? s k ≡ false) (by_settled q.arrived) (λ h. ap (λ (j : ℕ). has? (single j) k) y ∙ zero-none k) (λ h. has-empty k)))
        go (inr (x, y, here)) = subst (λ (k : List ℕ). Held (used_up q.arrived k t) (registers spent)) (sym x) (unfold used_up in by here (by_settled q.arrived))

    card-is-left : {k : held-round.Round} → k ≡ stored_round (round_with l q) → turned_card c (registers spent) k ≡ stored (step m next).after
    card-is-left p =
        card-is (record { tables = u; desk = marked t u m.desk; round = round_with l q }) p
        (roll-form c left ∙ sym held.roll) (selectable-form c left ∙ sym held.selectable) held.registered (made-form c left ∙ sym held.made) (polls-form c left ∙ sym held.polls)
        (control-form c left ∙ sym held.control) (rows-form c left ∙ ap stored_rows (sym held.rows)) (bank-form c left ∙ sym held.timers)
        (quiet-desk c left u (turn-quiet t q.arrived l))
        ∙ ap stored (sym after_is)

  -- NEXT, by what the parts of the code say
  pub tells-turn
      : {r still who n spent rest : ℕ} {k : held-round.Round} {b : Answer}
      → r ≡ first_holding (line 21 (not c.round.«open») ∷ [])
      → IsForOn (view_rows c.rows) c.registered c.bank.owner c.control c.polls (view_arrival c.round.arrived) still
      → who ≡ set_both (set_both c.selectable still) c.round.waiting
      → n ≡ first (has? who) 0 (take c.roll.count c.roll.order)
      → k ≡ (if n == 0 then stored_round no_round else leaving c.round n)
      → spent ≡ (if by_settled (view_arrival c.round.arrived) then single n else 0)
      → rest ≡ set_without (get_or c.registered handler_available 0) spent
      → b ≡ record { refusal = r; number = 0; says = false; called = if r == 0 then n else 0; marks = no_marks }
      → ◌≡◌ {A = Reply} (record { card = turned_card c (set c.registered handler_available rest) k; answer = b }) (replied (step m next))
  unfolding view view_round refusal lines step
  tells-turn {r} {still} {n = n} {k = k} e f w x y s z h =
      let for-it = f t (left-sound c left).tables refl (registered-form c left) refl refl (polls-form c left) in
      let it = turn c left for-it (x ∙ ap (λ (j : ℕ). first (has? j) 0 (take c.roll.count c.roll.order)) w) in
      replies (step m next)
      (ap (λ (g : List ℕ). turned_card c g k) (ap (set c.registered handler_available) (z ∙ ap (set_without (get_or c.registered handler_available 0)) s))
      ∙ card-is-left e it (left-round e it y))
      (h ∙ called_is e it r ∙ ap (λ (j : ℕ). stored_answer (outcome j m next).answer) e)

  -- the same where the one called is said of a refused call too
  pub takes-turn
      : {r still who n spent rest : ℕ} {k : held-round.Round} {b : Answer}
      → r ≡ first_holding (line 21 (not c.round.«open») ∷ [])
      → IsForOn (view_rows c.rows) c.registered c.bank.owner c.control c.polls (view_arrival c.round.arrived) still
      → who ≡ set_both (set_both c.selectable still) c.round.waiting
      → n ≡ first (has? who) 0 (take c.roll.count c.roll.order)
      → k ≡ (if n == 0 then stored_round no_round else leaving c.round n)
      → spent ≡ (if by_settled (view_arrival c.round.arrived) then single n else 0)
      → rest ≡ set_without (get_or c.registered handler_available 0) spent
      → b ≡ record { refusal = r; number = 0; says = false; called = n; marks = no_marks }
      → ◌≡◌ {A = Reply} (record { card = turned_card c (set c.registered handler_available rest) k; answer = b }) (replied (step m next))
  unfolding view view_round refusal lines step
  takes-turn {r} {still} {n = n} {k = k} e f w x y s z h =
      let for-it = f t (left-sound c left).tables refl (registered-form c left) refl refl (polls-form c left) in
      let it = turn c left for-it (x ∙ ap (λ (j : ℕ). first (has? j) 0 (take c.roll.count c.roll.order)) w) in
      tells-turn e f w x y s z (h ∙ ap {B = Answer} (λ (j : ℕ). record { refusal = r; number = 0; says = false; called = j; marks = no_marks }) (only-accepted e it r refl))
