-- Who is registered for an event, by the sets of a card that calls have left; and when what a call makes of the sets changes the shown events.
-- Assumes nothing.
use Prim.Native.Nat.{ℕ, ◌≤◌, ◌<◌}
use native.Mathlib.Omega.{arith}
use mathlib.Core.Path.{◌≡◌, refl, sym, ap, ap₂, ◌∙◌}
use mathlib.Core.Bool.{Bool, true, false, not, beq, ◌&&◌}
use mathlib.Core.List.{List}
use lib.Dec.{eqb, leb, ltb}
use lib.ListN.{get_or}
use borrow.Author.Tests.{eqb-true, eqb-false}
use Rattle.std.specs.Prelude.{◌==◌}
use Rattle.lists.proofs.Tables.{table_at}
use Rattle.lists.proofs.Truth.{and-false, and-true, and-swap, beq-self}
use Rattle.sets.specs.Sets.{meets}
use Rattle.rules.specs.Holds.{Tables, document}
use Rattle.rules.specs.Commands.{listened}
use Rattle.rules.specs.Desk.{events_change}
use Rattle.runs.specs.Sound.{SoundTables}
use Rattle.applets.specs.ByNumber.{selectable_set, registered_set}
use Rattle.events_shown.specs.Turns.{any_code, is_download, events_turn, code_turns}
use Rattle.events_shown.proofs.Shown.{changes-at, found_from, listened-meets}
use Rattle.card.specs.declared.Card.{Card}
use Rattle.card.specs.View.{view, Left}
use Rattle.card.proofs.Left.{left-sound, left-bounds}
use Rattle.card.proofs.Replied.{selectable-form, registered-form}

module _ (c : Card) (left : Left c) where
  abbrev t : Tables
  t = (view c).tables

  abbrev set-of : (event : ℕ) → ℕ
  set-of e = get_or c.registered e 0

  pub set_is : (e : ℕ) → e < 20 → set-of e ≡ registered_set t.applets e
  set_is e h = ap (λ (k : List ℕ). get_or k e 0) (registered-form c left) ∙ table_at 20 (registered_set t.applets) e 0 h

  listened-before : (e : ℕ) → 5 ≤ e → e < 18 → listened t e ≡ meets (set-of e) c.selectable
  listened-before e a b =
      listened-meets t (left-sound c left).tables (left-bounds c left) e a
      ∙ ap₂ meets (sym (set_is e (omega arith))) (sym (selectable-form c left))

  -- what a call leaves
  module _ (u : Tables) (sound : SoundTables u) (bounds : u.bounds ≡ document) where
    abbrev differs : (event : ℕ) → Bool
    differs e = not (beq (listened t e) (listened u e))

    -- a call that turns the set of the selectable applets
    pub codes-by : (is : ℕ) → ((e : ℕ) → e < 18 → meets (registered_set u.applets e) (selectable_set u.applets) ≡ meets (set-of e) is)
        → any_code (code_turns c.registered c.selectable is) ≡ events_change t u
    codes-by is after =
        sym
        (changes-at t u true (code_turns c.registered c.selectable is)
        (λ e a b. ap₂ (λ (x y : Bool). not (beq x y)) (listened-before e a b) (listened-meets u sound bounds e a ∙ after e b)))

    -- a call that turns the set of one event
    module _ (p is : ℕ) (within : p < 20) (selectable : selectable_set u.applets ≡ c.selectable) (own : registered_set u.applets p ≡ is)
        (others : (e : ℕ) → (e ≡ p → ⊥) → registered_set u.applets e ≡ registered_set t.applets e) where
      abbrev turns : Bool
      turns = not (beq (meets (set-of p) c.selectable) (meets is c.selectable))

      listened-after : (e : ℕ) → 5 ≤ e → {s : ℕ} → registered_set u.applets e ≡ s → listened u e ≡ meets s c.selectable
      listened-after e a h = listened-meets u sound bounds e a ∙ ap₂ meets h selectable

      one : (e : ℕ) → 5 ≤ e → e < 18 → (b : Bool) → (e == p) ≡ b → differs e ≡ (turns && b)
      one e a b true q =
          let is-p : e ≡ p = eqb-true e p q in
          ap₂ (λ (x y : Bool). not (beq x y))
          (listened-before e a b ∙ ap (λ (k : ℕ). meets (set-of k) c.selectable) is-p)
          (listened-after e a (ap (registered_set u.applets) is-p ∙ own))
          ∙ sym (and-true turns)
      one e a b false q =
          ap₂ (λ (x y : Bool). not (beq x y)) (listened-before e a b) (listened-after e a (others e (eqb-false e p q) ∙ sym (set_is e (omega arith))))
          ∙ ap not (beq-self (meets (set-of e) c.selectable))
          ∙ sym (and-false turns)

      pub event-by : events_turn p (set-of p) is c.selectable ≡ events_change t u
      unfolding is_download
      event-by =
          sym
          (changes-at t u turns (λ (e : ℕ). eqb e p) (λ e a b. one e a b (e == p) refl)
          ∙ ap (λ (x : Bool). turns && x) (found_from p 13 5)
          ∙ and-swap turns (leb 5 p && ltb p 18))
