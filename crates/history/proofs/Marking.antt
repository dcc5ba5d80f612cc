-- What a call marks of polling: as a session begins, and where the system interval becomes another.
-- Assumes nothing.
use Prim.Native.Nat.{ℕ}
use mathlib.Core.Path.{◌≡◌, refl, sym, ap, subst, ◌∙◌}
use mathlib.Core.Bool.{Bool, true, false, not, ◌||◌}
use mathlib.Core.List.{List, ◌∷◌}
use borrow.Author.Tests.{ne_eqb}
use Rattle.std.specs.Prelude.{◌==◌}
use Rattle.lists.specs.Lists.{some?}
use Rattle.lists.proofs.Truth.{not-not, or-true}
use Rattle.rules.specs.Holds.{Tables, Desk, Model, document}
use Rattle.rules.specs.Commands.{interval}
use Rattle.rules.specs.Desk.{interval_changes, is_polled, due_after, marked, due_at_first, with_profile}
use Rattle.rules.specs.Calls.{Call, arrival, profile}
use Rattle.rules.specs.Refusals.{refusal}
use Rattle.rules.specs.Step.{tables_after, arrival_desk, desk_after, changed, answer, outcome, step}
use Rattle.rules.specs.Runs.{card_after}
use Rattle.rules.proofs.DueMarks.{marked-same}
use Rattle.history.specs.Histories.{did, History}
use Rattle.history.specs.Deeds.{profiles}
use Rattle.history.specs.Named.{in_session}
use Rattle.history.specs.Runs.{history_of}
use Rattle.history.specs.Handed.{interval_named}
use Rattle.history.specs.OnScreen.{OfPolling}
use Rattle.history.proofs.Agree.{AgreeDesk}
use Rattle.history.proofs.DeskKept.{session-after}
use Rattle.history.proofs.Agrees.{accepted-more}
use Rattle.history.proofs.Answered.{passes}
use Rattle.history.proofs.Promises.{past, agree, sound, from-1-to-8}
use Rattle.history.proofs.Shown.{interval-shown}

after_is : (m : Model) (x : Call) → refusal m x ≡ 0 → (step m x).after ≡ changed m x
unfolding step outcome
after_is m x ok = ap (λ (n : ℕ). (outcome n m x).after) ok

-- as a session begins
session-begins : (m : Model) (bytes : List ℕ) → refusal m (arrival (profile bytes)) ≡ 0 → (step m (arrival (profile bytes))).after.desk.due ≡ due_at_first m.tables
unfolding changed tables_after desk_after arrival_desk with_profile
session-begins m bytes ok =
    ap (λ (n : Model). n.desk.due) (after_is m (arrival (profile bytes)) ok) ∙ ap (λ (d : Desk). d.due) (marked-same m.tables (with_profile m.tables bytes m.desk))

-- in a session, which never ends
module _ (m : Model) (h : History) (g : AgreeDesk m.desk h) (x : Call) (begun : in_session h ≡ true) where
  goes_on : (desk_after m x).session ≡ true
  unfolding in_session some?
  goes_on = session-after m h x g ∙ ap (λ (b : Bool). profiles (did x (answer m x)) || b) begun ∙ or-true (profiles (did x (answer m x)))

  abbrev u : Tables
  u = tables_after m x

  turned : (interval m.tables ≡ interval u → ⊥) → OfPolling (marked m.tables u (desk_after m x)).due (not (interval u == 0)) (interval u == 0)
  unfolding marked due_after interval_changes is_polled
  turned other = rw (goes_on, ne_eqb (interval m.tables) (interval u) other) (refl, sym (not-not (interval u == 0)))

  interval-turns : refusal m x ≡ 0 → (interval m.tables ≡ interval (step m x).after.tables → ⊥)
      → OfPolling (step m x).after.desk.due (not (interval (step m x).after.tables == 0)) (interval (step m x).after.tables == 0)
  unfolding changed
  interval-turns ok other =
      let e = after_is m x ok in
      rw e (turned (λ z. other (z ∙ sym (ap (λ (n : Model). interval n.tables) e))))

-- THE SYSTEM INTERVAL is the one that the history names.
pub interval-is-named : (title : List ℕ) (calls : List Call) → interval (card_after document title calls).tables ≡ interval_named (past title calls)
interval-is-named title calls =
    interval-shown (card_after document title calls).tables (past title calls) (sound title calls) (agree title calls).tables (from-1-to-8 title calls)

module _ (title : List ℕ) (calls : List Call) where
  abbrev m : Model
  m = card_after document title calls

  abbrev h : History
  h = past title calls

  -- A SESSION BEGINS with POLL INTERVAL due exactly if there is one, and POLLING OFF not.
  pub begins : (bytes : List ℕ) → (step m (arrival (profile bytes))).answer.refusal ≡ 0
      → OfPolling (step m (arrival (profile bytes))).after.desk.due (not (interval_named h == 0)) false
  unfolding due_at_first is_polled
  begins bytes ok = rw (session-begins m bytes (passes m (arrival (profile bytes)) ok), interval-is-named title calls) (refl, refl)

  -- A CHANGE OF THE INTERVAL marks POLL INTERVAL due if there is one now, else POLLING OFF, and the other not.
  pub turns : (x : Call) → in_session h ≡ true → (step m x).answer.refusal ≡ 0 → let n = interval_named (did x (step m x).answer ∷ h) in
      (interval_named h ≡ n → ⊥) → OfPolling (step m x).after.desk.due (not (n == 0)) (n == 0)
  unfolding history_of card_after
  turns x begun ok other =
      let next : interval (step m x).after.tables ≡ interval_named (did x (step m x).answer ∷ h) =
      interval-is-named title (x ∷ calls) ∙ ap interval_named (accepted-more x (step m x).answer (history_of title calls) ok)
      in
      subst (λ (n : ℕ). OfPolling (step m x).after.desk.due (not (n == 0)) (n == 0)) next
      (interval-turns m h (agree title calls).desk x begun (passes m x ok) (λ z. other (sym (interval-is-named title calls) ∙ z ∙ next)))
