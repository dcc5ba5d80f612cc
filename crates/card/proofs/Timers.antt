-- What allocate and release leave of the card: what the bank's own call gives, for an applet that is there.
-- Assumes nothing.
use Prim.Native.Nat.{ℕ, zero, suc}
use mathlib.Core.Path.{◌≡◌, refl, sym, ap, ◌∙◌}
use mathlib.Core.Bool.{Bool, true, false, not}
use mathlib.Core.List.{List}
use borrow.Author.Tests.{le-leb}
use Rattle.std.specs.Prelude.{if◌then◌else◌}
use Rattle.sets.specs.Sets.{has?}
use Rattle.rules.specs.declared.Bank.{Bank}
use Rattle.rules.specs.declared.Answer.{Answer}
use Rattle.rules.specs.declared.Grant.{Grant}
use Rattle.rules.specs.Holds.{Model, with_timers}
use Rattle.rules.specs.Applets.{applet, nobody}
use Rattle.rules.specs.Timers.{is_owner, with_allocated, with_released}
use Rattle.rules.specs.Calls.{timer, allocate, release}
use Rattle.rules.specs.Beside.{BankOutcome, bank_allocate, allocate_by, bank_release, release_by}
use Rattle.rules.specs.Desk.{marked}
use Rattle.rules.specs.Refusals.{refusal, lines, first_holding, timer_lines, absent}
use Rattle.rules.specs.Step.{step, outcome, changed, tables_after, round_after, desk_after, timer_tables, answer, timer_answer}
use Rattle.timers.specs.Promises.{Allocates, Releases}
use Rattle.applets.specs.ByNumber.{by_number, grant_of}
use Rattle.card.specs.declared.Card.{Card}
use Rattle.card.specs.declared.Reply.{Reply}
use Rattle.card.specs.View.{view, stored, Left}
use Rattle.card.specs.Replies.{replied}
use Rattle.rules.specs.Held.{stored_answer}
use Rattle.card.proofs.Left.{left-form}
use Rattle.card.proofs.Marks.{quiet-desk}
use Rattle.card.proofs.Replied.{replies, card-is, roll-form, selectable-form, registered-form, made-form, polls-form, control-form, rows-form, round-form}
use Rattle.card.proofs.Turned.{timers-quiet}
use Rattle.card.proofs.Present.{gone-by, grant-is, low-is, high_is}

-- the card with another bank
abbrev with_bank : Card → Bank → Card
with_bank c b =
    record { roll = c.roll; selectable = c.selectable; registered = c.registered; made = c.made; polls = c.polls; control = c.control; rows = c.rows; bank = b; desk = c.desk; round = c.round }

module _ (c : Card) (l : Left c) where
  abbrev m : Model
  m = view c

  abbrev os : List ℕ
  os = c.bank.owner

  -- timers change nothing that is shown
  with-timers : (k : List ℕ) → with_bank c (record { owner = k }) ≡ stored (record { tables = with_timers m.tables k; desk = marked m.tables (with_timers m.tables k) m.desk; round = m.round })
  with-timers k =
      let u = with_timers m.tables k in
      card-is (record { tables = u; desk = marked m.tables u m.desk; round = m.round }) (round-form c l)
      (roll-form c l) (selectable-form c l) (registered-form c l) (made-form c l) (polls-form c l) (control-form c l) (rows-form c l) refl
      (quiet-desk c l u (timers-quiet m.tables k))

  module _ (n : ℕ) {there : Bool} (found : there ≡ has? c.roll.present n) where
    gone : absent m.tables n ≡ not there
    gone = gone-by c l n found

    -- an applet that is there has a number that owns timers
    owns : there ≡ true → is_owner n ≡ true
    unfolding is_owner
    owns h =
        let here : has? c.roll.present n ≡ true = sym found ∙ h in
        rw (le-leb 1 n (low-is c l n here), le-leb n 8 (high_is c l n here)) refl

    -- ALLOCATE
    module _ {g : Grant} (grant : g ≡ by_number (grant_of nobody) c.roll.grants n) where
      limit_is : g.timers ≡ (applet m.tables n).limits.timers
      unfolding grant_of
      limit_is = ap (λ (x : Grant). x.timers) (grant ∙ grant-is c l n)

      by-bank : (b : Bool) → there ≡ b → bank_allocate os (if b then n else 0) g.timers ≡ allocate_by (refusal m (timer (allocate n))) os n
      unfolding bank_allocate refusal lines timer_lines first_holding view
      by-bank true h = rw (owns h, gone, h, limit_is) refl
      by-bank false h = unfold is_owner allocate_by in rw (gone, h) refl

      by-refusal : (k : ℕ) → with_bank c (record { owner = (allocate_by k os n).owners }) ≡ stored (outcome k m (timer (allocate n))).after
      unfolding allocate_by outcome changed tables_after desk_after round_after timer_tables view
      by-refusal zero = with-timers (with_allocated os n)
      by-refusal (suc k) = left-form c l

      answered : (k : ℕ) → (allocate_by k os n).answer ≡ (outcome k m (timer (allocate n))).answer
      unfolding allocate_by outcome answer timer_answer view
      answered zero = refl
      answered (suc k) = refl

      pub allocates : {owner : ℕ} {a : Answer} {b : Bank} → owner ≡ (if there then n else 0) → Allocates c.bank owner g.timers a b
          → ◌≡◌ {A = Reply} (record { card = with_bank c b; answer = a }) (replied (step m (timer (allocate n))))
      unfolding step
      allocates {owner} {a} {b} o e =
          let k = refusal m (timer (allocate n)) in
          let same : bank_allocate os owner g.timers ≡ allocate_by k os n = ap (λ (z : ℕ). bank_allocate os z g.timers) o ∙ by-bank there refl in
          replies (step m (timer (allocate n)))
          (ap (with_bank c) (e.1 ∙ ap (λ (x : BankOutcome). record { owner = x.owners }) same) ∙ by-refusal k)
          (e.0 ∙ ap (λ (x : BankOutcome). stored_answer x.answer) same ∙ ap stored_answer (answered k))

    -- RELEASE
    module _ (i : ℕ) where
      freed-by-bank : (b : Bool) → there ≡ b → bank_release os (if b then n else 0) 0 i ≡ release_by (refusal m (timer (release n i))) os i
      unfolding bank_release refusal lines timer_lines first_holding view
      freed-by-bank true h = rw (owns h, gone, h) refl
      freed-by-bank false h = unfold is_owner release_by in rw (gone, h) refl

      freed-by-refusal : (k : ℕ) → with_bank c (record { owner = (release_by k os i).owners }) ≡ stored (outcome k m (timer (release n i))).after
      unfolding release_by outcome changed tables_after desk_after round_after timer_tables view
      freed-by-refusal zero = with-timers (with_released os i)
      freed-by-refusal (suc k) = left-form c l

      freed-answered : (k : ℕ) → (release_by k os i).answer ≡ (outcome k m (timer (release n i))).answer
      unfolding release_by outcome answer timer_answer
      freed-answered zero = refl
      freed-answered (suc k) = refl

      pub releases : {owner : ℕ} {a : Answer} {b : Bank} → owner ≡ (if there then n else 0) → Releases c.bank owner i a b
          → ◌≡◌ {A = Reply} (record { card = with_bank c b; answer = a }) (replied (step m (timer (release n i))))
      unfolding step
      releases {owner} {a} {b} o e =
          let k = refusal m (timer (release n i)) in
          let same : bank_release os owner 0 i ≡ release_by k os i = ap (λ (z : ℕ). bank_release os z 0 i) o ∙ freed-by-bank there refl in
          replies (step m (timer (release n i)))
          (ap (with_bank c) ((e 0).1 ∙ ap (λ (x : BankOutcome). record { owner = x.owners }) same) ∙ freed-by-refusal k)
          ((e 0).0 ∙ ap (λ (x : BankOutcome). stored_answer x.answer) same ∙ ap stored_answer (freed-answered k))
