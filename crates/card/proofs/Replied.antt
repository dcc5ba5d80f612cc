-- What a call leaves, by its refusal; the parts of a card that calls have left; and the reply by its parts.
-- Assumes nothing.
use Prim.Native.Nat.{ℕ, zero, suc}
use native.Mathlib.Omega.{arith}
use mathlib.Core.Path.{◌≡◌, refl, sym, ap, ap₂, ◌∙◌}
use mathlib.Core.List.{List}
use borrow.Author.Tests.{ne_eqb}
use Rattle.std.specs.Prelude.{if◌then◌else◌, ◌==◌}
use Rattle.lists.specs.Tables.{table}
use Rattle.lists.proofs.Times.{if-same}
use Rattle.rules.specs.declared.Answer.{Answer}
use Rattle.rules.specs.declared.Rows.{Rows}
use Rattle.rules.specs.declared.Bank.{Bank}
use Rattle.rules.specs.declared.Desk as held-desk
use Rattle.rules.specs.declared.Round as held-round
use Rattle.rules.specs.Holds.{Tables, Desk, Round, Model}
use Rattle.rules.specs.Held.{stored_rows, stored_desk, stored_answer, stored_arrival}
use Rattle.rules.specs.Calls.{Call, Outcome, accepted, refused_with}
use Rattle.rules.specs.Refusals.{refusal}
use Rattle.rules.specs.Desk.{marked}
use Rattle.rules.specs.Rounds.{without}
use Rattle.rules.specs.Step.{changed, tables_after, round_after, desk_after, answer, outcome, step}
use Rattle.rules.proofs.DueMarks.{marked-same}
use Rattle.card.specs.declared.Card.{Card}
use Rattle.rules.specs.declared.Roll.{Roll}
use Rattle.card.specs.declared.Reply.{Reply}
use Rattle.applets.specs.ByNumber.{roll_of, selectable_set, registered_set, made_table, poll_table}
use Rattle.arrivals.specs.Rounds.{stored_round, leaving}
use Rattle.arrivals.proofs.Waiting.{waiting-left}
use Rattle.card.specs.View.{view, stored, Left}
use Rattle.card.specs.Replies.{replied}
use Rattle.card.proofs.Left.{left-form}

-- the reply by its parts
pub replies : (o : Outcome) {k : Card} {a : Answer} → k ≡ stored o.after → a ≡ stored_answer o.answer → ◌≡◌ {A = Reply} (record { card = k; answer = a }) (replied o)
unfolding replied
replies o p q = rw (p, q) refl

-- the tables that a call leaves, by its refusal
abbrev pub tables_by : Model → Call → (refusal : ℕ) → Tables
tables_by m x r = if r == 0 then tables_after m x else m.tables

-- and the round
abbrev pub round_by : Model → Call → (refusal : ℕ) → Round
round_by m x r = if r == 0 then round_after m x else m.round

-- a call that leaves the round, and touches the desk by its marks only
abbrev pub Still : Model → Call → Type 0
Still m x = (desk_after m x ≡ m.desk) × (round_after m x ≡ m.round)

module _ (m : Model) (x : Call) {r : ℕ} (e : r ≡ refusal m x) where
  -- what a call leaves that touches the desk by its marks only, where it leaves the tables u and the round q
  pub after-with
      : desk_after m x ≡ m.desk → {u : Tables} → tables_by m x r ≡ u → {q : Round} → round_by m x r ≡ q
      → (step m x).after ≡ record { tables = u; desk = marked m.tables u m.desk; round = q }
  unfolding step
  after-with still so leaves = ap (λ (k : ℕ). (outcome k m x).after) (sym e) ∙ go r ∙ ap₂ (λ (u : Tables) (q : Round). record { tables = u; desk = marked m.tables u m.desk; round = q }) so leaves
    where
      go : (k : ℕ) → (outcome k m x).after ≡ record { tables = tables_by m x k; desk = marked m.tables (tables_by m x k) m.desk; round = round_by m x k }
      go zero = unfold outcome changed in ap (λ (d : Desk). record { tables = tables_after m x; desk = marked m.tables (tables_after m x) d; round = round_after m x }) still
      go (suc k) = unfold outcome in
          rw (ne_eqb (suc k) 0 (λ z. omega arith)) (ap (λ (d : Desk). record { tables = m.tables; desk = d; round = m.round }) (sym (marked-same m.tables m.desk)))

  -- .. and leaves the round
  pub after-by : Still m x → {u : Tables} → tables_by m x r ≡ u → (step m x).after ≡ record { tables = u; desk = marked m.tables u m.desk; round = m.round }
  after-by still so = after-with still.0 so (ap (λ (q : Round). if r == 0 then q else m.round) still.1 ∙ if-same (r == 0) m.round)

  -- the reply of a call that answers with its refusal only
  pub plain-reply : answer m x ≡ accepted → {k : Card} {a : Answer} → k ≡ stored (step m x).after → a ≡ stored_answer (refused_with r) → ◌≡◌ {A = Reply} (record { card = k; answer = a }) (replied (step m x))
  unfolding step
  plain-reply plain is says = replies (step m x) is (says ∙ ap stored_answer (go r ∙ ap (λ (k : ℕ). (outcome k m x).answer) e))
    where
      go : (k : ℕ) → refused_with k ≡ (outcome k m x).answer
      go zero = unfold outcome in sym plain
      go (suc k) = unfold outcome in refl

-- a call that changes neither the tables, the desk nor the round leaves the card
pub stays : (c : Card) → Left c → (x : Call) → tables_after (view c) x ≡ (view c).tables → Still (view c) x → c ≡ stored (step (view c) x).after
unfolding step
stays c left x same still = left-form c left ∙ ap stored (sym (go (refusal (view c) x)))
  where
    go : (k : ℕ) → (outcome k (view c) x).after ≡ view c
    go zero = unfold outcome changed in rw (same, still.0, still.1) (ap (λ (d : Desk). record { tables = (view c).tables; desk = d; round = (view c).round }) (marked-same (view c).tables (view c).desk))
    go (suc k) = unfold outcome in refl

-- and so does a call that is refused
pub refused-stays : (c : Card) → Left c → (x : Call) {r : ℕ} → r ≡ refusal (view c) x → (r ≡ 0 → ⊥) → c ≡ stored (step (view c) x).after
unfolding step
refused-stays c left x {r} e z = left-form c left ∙ go r z ∙ ap (λ (k : ℕ). stored (outcome k (view c) x).after) e
  where
    go : (k : ℕ) → (k ≡ 0 → ⊥) → stored (view c) ≡ stored (outcome k (view c) x).after
    go zero z = absurd (z refl)
    go (suc k) z = unfold outcome in refl

-- the card that holds a model, part by part
pub card-is
    : (m : Model) {a : Roll} {s : ℕ} {g : List ℕ} {f j : List ℕ} {k : ℕ} {r : Rows} {b : Bank} {d : held-desk.Desk} {q : held-round.Round}
    → q ≡ stored_round m.round
    → a ≡ roll_of m.tables.applets
    → s ≡ selectable_set m.tables.applets
    → g ≡ table 20 (registered_set m.tables.applets)
    → f ≡ made_table m.tables.applets
    → j ≡ poll_table m.tables.applets
    → k ≡ m.tables.control
    → r ≡ stored_rows m.tables.rows
    → b.owner ≡ m.tables.timers
    → d ≡ stored_desk m.desk
    → ◌≡◌ {A = Card} (record { roll = a; selectable = s; registered = g; made = f; polls = j; control = k; rows = r; bank = b; desk = d; round = q }) (stored m)
unfolding stored
card-is m o p q s t i u v w x = rw (o, p, q, s, t, i, u, v, sym w, x) refl

-- the parts of a card that calls have left
module _ (c : Card) (left : Left c) where
  pub roll-form : c.roll ≡ roll_of (view c).tables.applets
  unfolding stored
  roll-form = ap (λ (k : Card). k.roll) (left-form c left)

  pub selectable-form : c.selectable ≡ selectable_set (view c).tables.applets
  unfolding stored
  selectable-form = ap (λ (k : Card). k.selectable) (left-form c left)

  pub registered-form : c.registered ≡ table 20 (registered_set (view c).tables.applets)
  unfolding stored
  registered-form = ap (λ (k : Card). k.registered) (left-form c left)

  pub made-form : c.made ≡ made_table (view c).tables.applets
  unfolding stored
  made-form = ap (λ (k : Card). k.made) (left-form c left)

  pub polls-form : c.polls ≡ poll_table (view c).tables.applets
  unfolding stored
  polls-form = ap (λ (k : Card). k.polls) (left-form c left)

  pub control-form : c.control ≡ (view c).tables.control
  unfolding view
  control-form = refl

  pub rows-form : c.rows ≡ stored_rows (view c).tables.rows
  unfolding stored
  rows-form = ap (λ (k : Card). k.rows) (left-form c left)

  pub bank-form : c.bank.owner ≡ (view c).tables.timers
  unfolding view
  bank-form = refl

  pub desk-form : c.desk ≡ stored_desk (view c).desk
  unfolding stored
  desk-form = ap (λ (k : Card). k.desk) (left-form c left)

  pub round-form : c.round ≡ stored_round (view c).round
  unfolding stored
  round-form = ap (λ (k : Card). k.round) (left-form c left)

  -- the round that a number leaves
  pub round-less : (n : ℕ) → leaving c.round n ≡ stored_round (without n (view c).round)
  unfolding stored_round
  round-less n =
      ap (λ (r : held-round.Round). leaving r n) round-form
      ∙ ap (λ (w : ℕ). record { «open» = (view c).round.is_open; arrived = stored_arrival (view c).round.arrived; waiting = w }) (waiting-left (view c).round.waiting n)

-- THE CARD AFTER A CALL that leaves what an install fixes, the entries made, the requests, the rows, the timers and the round
module _ (c : Card) (left : Left c) (u : Tables) where
  abbrev t : Tables
  t = (view c).tables

  pub next-card
      : roll_of u.applets ≡ roll_of t.applets
      → made_table u.applets ≡ made_table t.applets
      → poll_table u.applets ≡ poll_table t.applets
      → u.rows ≡ t.rows
      → u.timers ≡ t.timers
      → {s : ℕ} {g : List ℕ} {o : ℕ} {d : held-desk.Desk}
      → s ≡ selectable_set u.applets
      → g ≡ table 20 (registered_set u.applets)
      → o ≡ u.control
      → d ≡ stored_desk (marked t u (view c).desk)
      → ◌≡◌ {A = Card}
      (record { roll = c.roll; selectable = s; registered = g; made = c.made; polls = c.polls; control = o; rows = c.rows; bank = c.bank; desk = d; round = c.round })
      (stored (record { tables = u; desk = marked t u (view c).desk; round = (view c).round }))
  next-card roll made polls rows timers sel reg own desk =
      card-is (record { tables = u; desk = marked t u (view c).desk; round = (view c).round }) (round-form c left)
      (roll-form c left ∙ sym roll) sel reg (made-form c left ∙ sym made) (polls-form c left ∙ sym polls) own
      (rows-form c left ∙ ap stored_rows (sym rows)) (bank-form c left ∙ sym timers) desk
