-- The sets of those whom arrivals are for, by the rules.
-- Assumes nothing.
use Prim.Native.Nat.{ℕ, zero, suc, ◌≤◌, ◌<◌}
use native.Mathlib.Omega.{arith}
use mathlib.Core.Path.{◌≡◌, refl, sym, ap, ◌∙◌}
use mathlib.Core.Bool.{Bool, true, false, not}
use mathlib.Core.List.{List}
use lib.ListN.{length, get_or, get_or-eq_default}
use borrow.Author.Tests.{ne_eqb}
use Rattle.std.specs.Prelude.{Ok, ◌==◌}
use Rattle.lists.specs.Tables.{table}
use Rattle.lists.proofs.Decided.{turned}
use Rattle.lists.proofs.Tables.{table_at}
use Rattle.sets.specs.Sets.{has?, set_of, single}
use Rattle.sets.proofs.Bits.{has-set, has-empty}
use Rattle.rules.specs.declared.Envelope.TheVariants.{Menu}
use Rattle.rules.specs.Holds.{Applet, Row, Tables, Arrival, event, choice, help, expiry, status, nothing}
use Rattle.rules.specs.Events.{call_control}
use Rattle.rules.specs.Applets.{applet, present, registered}
use Rattle.rules.specs.Timers.{owner_of}
use Rattle.rules.specs.Arrivals.{arrival_of, wants}
use Rattle.runs.specs.Sound.{SoundTables}
use Rattle.runs.proofs.Looked.{sound-applet, absent-nobody}
use Rattle.applets.specs.ByNumber.{at, by_number, registered_set, poll_table}
use Rattle.menu_shown.specs.Chosen.{chosen_owner}
use Rattle.menu_shown.proofs.Promise.{choice-calls, help-calls}
use Rattle.polling.specs.Polls.{polling_set}
use Rattle.arrivals.specs.Whom.{IsFor, Registered}

-- what a table by number holds of one of 1 to 8
by-table : (l : List Applet) (f : Applet → ℕ) (k : ℕ) → 1 ≤ k → k ≤ 8 → by_number 0 (table 8 (λ i. f (at l (suc i)))) k ≡ f (at l k)
by-table l f zero low high = absurd (omega arith)
by-table l f (suc i) low high = table_at 8 (λ i. f (at l (suc i))) i 0 (omega arith)

module _ (t : Tables) where
  abbrev l : List Applet
  l = t.applets

  -- by the arrival that another name is for
  pub for_as : {a b : Arrival} {s : ℕ} → a ≡ b → IsFor t b s → IsFor t a s
  for_as e h = rw e h

  -- nobody
  for-nobody : (a : Arrival) → ((x : Applet) → wants t a x ≡ false) → IsFor t a 0
  for-nobody a h = record { each = λ k low high there. has-empty k ∙ sym (h (at l k)) }

  -- one applet
  for-one : (a : Arrival) (n : ℕ) → ((x : Applet) → 1 ≤ x.number → wants t a x ≡ (n == x.number)) → IsFor t a (single n)
  unfolding single
  for-one a n h = record { each = one }
    where
      one : (k : ℕ) → 1 ≤ k → k ≤ 8 → (at l k).number ≡ k → has? (set_of (λ j. j == n)) k ≡ wants t a (at l k)
      one k low high there =
          let from : 1 ≤ (at l k).number = omega arith in
          has-set (λ j. j == n) k low high ∙ turned k n ∙ ap (λ (j : ℕ). n == j) (sym there) ∙ sym (h (at l k) from)

  -- those registered for an event that is not call control
  pub for-event : {g : List ℕ} → g ≡ table 20 (registered_set l) → (e : ℕ) → e < 20 → (e ≡ call_control → ⊥) → IsFor t (event e) (get_or g e 0)
  unfolding registered_set wants registered
  for-event {g} q e within other = record { each = one }
    where
      one : (k : ℕ) → 1 ≤ k → k ≤ 8 → (at l k).number ≡ k → has? (get_or g e 0) k ≡ wants t (event e) (at l k)
      one k low high there =
          ap (λ (s : ℕ). has? s k) (ap (λ (x : List ℕ). get_or x e 0) q ∙ table_at 20 (registered_set l) e 0 within)
          ∙ has-set (λ n. get_or (at l n).events e false) k low high
          ∙ rw (ne_eqb e call_control other) refl

  -- a number that is found is there
  found : (k : ℕ) → 1 ≤ k → (at l k).number ≡ k → present t k ≡ true
  found k low there = go (present t k) refl
    where
      go : (b : Bool) → present t k ≡ b → b ≡ true
      go true e = refl
      go false e =
          let none : (at l k).number ≡ 0 = unfold applet in ap (λ (x : Applet). x.number) (absent-nobody t k e) in
          absurd (omega arith)

  -- an event that there is none of
  far-for : SoundTables t → (e : ℕ) → 20 ≤ e → IsFor t (event e) 0
  unfolding wants registered
  far-for sound e past = record { each = one }
    where
      one : (k : ℕ) → 1 ≤ k → k ≤ 8 → (at l k).number ≡ k → has? 0 k ≡ wants t (event e) (at l k)
      one k low high there =
          let long : length (at l k).events ≡ 20 = unfold applet in (sound-applet t sound k (found k low there)).events in
          has-empty k
          ∙ sym (get_or-eq_default (at l k).events false {n = e} (omega (arith, long)))
          ∙ rw (ne_eqb e call_control (λ z. omega arith)) refl

-- THOSE REGISTERED for an event
module _ (g : List ℕ) (control e : ℕ) where
  pub control-for : e ≡ call_control → {s : ℕ} → s ≡ single control → Registered g control e s
  unfolding wants registered
  control-for z f t sound q o = rw (z, f, ← o) (for-one t (event call_control) t.control (λ x k. refl))

  pub place-for : (e ≡ call_control → ⊥) → e < 20 → Registered g control e (get_or g e 0)
  place-for other within t sound q o = for-event t q e within other

  pub past-for : 20 ≤ e → Registered g control e 0
  past-for past t sound q o = far-for t sound e past

-- ANY ARRIVAL, by what it is kept as
module _ (t : Tables) where
  pub row-for
      : SoundTables t → {rows : List Row} → t.rows ≡ rows → (item : ℕ) (h : Bool) {o s : ℕ}
      → o ≡ chosen_owner item h rows
      → s ≡ single o
      → IsFor t (arrival_of (Ok (Menu item h))) s
  unfolding arrival_of
  row-for sound q item false e f =
      rw (f, e, ← q) (for-one t (choice item) (chosen_owner item false t.rows) (λ x k. choice-calls t item x sound.identifiers-apart k))
  row-for sound q item true e f =
      rw (f, e, ← q) (for-one t (help item) (chosen_owner item true t.rows) (λ x k. help-calls t item x sound.identifiers-apart k))

  pub expiry-for : {owners : List ℕ} → t.timers ≡ owners → (timer : ℕ) {o s : ℕ} → o ≡ owner_of owners timer → s ≡ single o → IsFor t (expiry timer) s
  unfolding wants
  expiry-for q timer e f = rw (f, e, ← q) (for-one t (expiry timer) (owner_of t.timers timer) (λ x k. refl))

  pub status-for : {polls : List ℕ} → polls ≡ poll_table t.applets → {s : ℕ} → s ≡ polling_set polls → IsFor t status s
  status-for {polls} q {s} e = record { each = one }
    where
      one : (k : ℕ) → 1 ≤ k → k ≤ 8 → (at t.applets k).number ≡ k → has? s k ≡ wants t status (at t.applets k)
      one k low high there =
          unfold polling_set poll_table wants in
          (ap (λ (j : ℕ). has? j k) e
          ∙ has-set (λ n. not (by_number 0 polls n == 0)) k low high
          ∙ ap (λ (p : List ℕ). not (by_number 0 p k == 0)) q
          ∙ ap (λ (j : ℕ). not (j == 0)) (by-table t.applets (λ (x : Applet). x.poll) k low high))

  pub nothing_for : IsFor t nothing 0
  unfolding wants
  nothing_for = for-nobody t nothing (λ x. refl)
