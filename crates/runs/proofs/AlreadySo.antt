-- TO LOCK, ENABLE OR SET WHAT IS SO ALREADY, or the reverse, is accepted and changes nothing: of every card, its marks included.
-- Assumes nothing.
use Prim.Native.Nat.{ℕ}
use mathlib.Core.Path.{◌≡◌, refl, sym, ap, ◌∙◌}
use mathlib.Core.Bool.{Bool, true, false, not, ◌&&◌}
use mathlib.Core.List.{List, [], ◌∷◌}
use lib.ListN.{get_or, set}
use lib.Seq.{set-get_or}
use lib.IntN.{ℤ}
use borrow.Author.Tests.{eqb-true}
use Rattle.std.specs.Prelude.{if◌then◌else◌, ◌==◌}
use Rattle.lists.specs.Lists.{first, change}
use Rattle.lists.proofs.Decided.{clashing}
use Rattle.lists.proofs.Truth.{and-false}
use Rattle.rules.specs.declared.Kind.{Kind}
use Rattle.rules.specs.declared.Kind.TheVariants.{Event, Issuer, Reserved, Unsupported}
use Rattle.rules.specs.Holds.{Applet, Tables, Model, with_applets, with_control, with_rows, with_state, with_selectable, with_event}
use Rattle.rules.specs.Events.{call_control, kind_of, not_supported, not_to_set, is_control}
use Rattle.rules.specs.Applets.{has_number, present, applet, nobody, registered, is_registered, owned_by_another, forget, with_registration, register}
use Rattle.rules.specs.Rows.{its_row, not_its_row, with_enabled}
use Rattle.rules.specs.Held.{no_row}
use Rattle.rules.specs.Desk.{marked}
use Rattle.rules.specs.Calls.{Outcome, accepted, admin, event, entry, lock, unlock, set_event, clear_event, enable_entry, disable_entry}
use Rattle.rules.specs.Refusals.{first_holding, absent, admin_lines, event_lines, entry_lines, lines, refusal}
use Rattle.rules.specs.Step.{admin_tables, event_tables, entry_tables, tables_after, admin_round, round_after, desk_after, changed, event_answer, entry_answer, answer, written, outcome, step}
use Rattle.rules.proofs.DueMarks.{marked-same}
use Rattle.runs.proofs.Filled.{is-here}
use Rattle.runs.proofs.Looked.{has-its-number}

-- accepted, with no answer but that, and the card as it was
abbrev pub nothing_done : Model → Outcome
nothing_done m = record { after = m; answer = accepted; buffer = [] }

-- where f leaves the first that passes, the change leaves the list
change-still : {A : Type 0} (p : A → Bool) (f : A → A) (d : A) (l : List A) → f (first p d l) ≡ first p d l → change p f l ≡ l
unfolding first change
change-still p f d [] e = refl
change-still {A} p f d (x ∷ l) e = go (p x) e (change-still p f d l)
  where
    go : (b : Bool) → f (if b then x else first p d l) ≡ (if b then x else first p d l) → (f (first p d l) ≡ first p d l → change p f l ≡ l)
        → (if b then f x ∷ l else x ∷ change p f l) ≡ x ∷ l
    go true q r = ap (λ (y : A). y ∷ l) q
    go false q r = ap (λ (k : List A). x ∷ k) (r q)

-- an accepted call that leaves the tables as they are marks nothing due
tables-same : (m : Model) (t : Tables) → t ≡ m.tables → ◌≡◌ {A = Model} (record { tables = t; desk = marked m.tables t m.desk; round = m.round }) m
tables-same m t e = ap (λ (u : Tables). record { tables = u; desk = marked m.tables u m.desk; round = m.round }) e ∙ ap (λ d. record { tables = m.tables; desk = d; round = m.round }) (marked-same m.tables m.desk)

module _ (m : Model) (n : ℕ) (found : absent m.tables n ≡ false) where
  here : present m.tables n ≡ true
  here = is-here m.tables n found

  -- the applet looked up, written again as it is
  still : (f : Applet → Applet) → f (applet m.tables n) ≡ applet m.tables n
      → with_applets m.tables (change (has_number n) f m.tables.applets) ≡ m.tables
  unfolding applet
  still f e = ap (with_applets m.tables) (change-still (has_number n) f nobody m.tables.applets e)

  selectable-still : (b : Bool) → (applet m.tables n).selectable ≡ b
      → with_applets m.tables (change (has_number n) (with_selectable b) m.tables.applets) ≡ m.tables
  selectable-still b e = still (with_selectable b) (ap (λ (c : Bool). with_selectable c (applet m.tables n)) (sym e))

  -- TO LOCK a locked applet, and TO UNLOCK a selectable one, is accepted and changes nothing.
  pub lock-a-locked-one : (applet m.tables n).selectable ≡ false → step m (admin (lock n)) ≡ nothing_done m
  unfolding step outcome changed tables_after admin_tables desk_after round_after admin_round answer written refusal lines admin_lines first_holding
  lock-a-locked-one e = rw found (ap (λ (k : Model). nothing_done k) (tables-same m _ (selectable-still false e)))

  pub unlock-a-selectable-one : (applet m.tables n).selectable ≡ true → step m (admin (unlock n)) ≡ nothing_done m
  unfolding step outcome changed tables_after admin_tables desk_after round_after admin_round answer written refusal lines admin_lines first_holding
  unlock-a-selectable-one e = rw found (ap (λ (k : Model). nothing_done k) (tables-same m _ (selectable-still true e)))

  -- a registration as it is
  register-still : (k : Kind) (b : Bool) → is_registered m.tables n k ≡ b → register m.tables n k b ≡ m.tables
  unfolding is_registered registered register with_registration
  register-still (Event e) b q = go (e == call_control) b q
    where
      go : (c b : Bool) → (if c then m.tables.control == (applet m.tables n).number else get_or (applet m.tables n).events e false) ≡ b
          → (if c then with_control m.tables (if b then n else forget n m.tables.control) else with_applets m.tables (change (has_number n) (with_event e b) m.tables.applets)) ≡ m.tables
      go true true q = ap (with_control m.tables) (sym (has-its-number m.tables n here) ∙ sym (eqb-true _ _ q))
      go true false q = ap (λ (c : Bool). with_control m.tables (if c then 0 else m.tables.control)) (ap (λ (k : ℕ). m.tables.control == k) (sym (has-its-number m.tables n here)) ∙ q)
      go false b q = still (with_event e b) (ap (λ l. with_state (applet m.tables n) (applet m.tables n).made (applet m.tables n).selectable l (applet m.tables n).poll) (ap (set (applet m.tables n).events e) (sym q) ∙ set-get_or (applet m.tables n).events e false))
  register-still Issuer b q = refl
  register-still Reserved b q = refl
  register-still Unsupported b q = refl

  registered-supported : (k : Kind) → is_registered m.tables n k ≡ true → not_supported k ≡ false
  unfolding is_registered not_supported
  registered-supported (Event e) q = refl
  registered-supported Issuer q = clashing q refl
  registered-supported Reserved q = clashing q refl
  registered-supported Unsupported q = clashing q refl

  -- call control that is its own is not another's
  own-control : (k : Kind) → is_registered m.tables n k ≡ true → (is_control k && owned_by_another m.tables n) ≡ false
  unfolding is_registered registered is_control owned_by_another
  own-control (Event e) q = go (e == call_control) q
    where
      go : (c : Bool) → (if c then m.tables.control == (applet m.tables n).number else get_or (applet m.tables n).events e false) ≡ true
          → (c && (not (m.tables.control == 0) && not (m.tables.control == n))) ≡ false
      go true q =
          let own : (m.tables.control == n) ≡ true = ap (λ (k : ℕ). m.tables.control == k) (sym (has-its-number m.tables n here)) ∙ q in
          rw own (and-false (not (m.tables.control == 0)))
      go false q = refl
  own-control Issuer q = refl
  own-control Reserved q = refl
  own-control Unsupported q = refl

  -- TO SET an event that is registered, and TO CLEAR one that is not, is accepted and changes nothing.
  module _ (v : ℤ) (may : not_to_set (kind_of v) ≡ false) where
    pub set-a-registered-one : is_registered m.tables n (kind_of v) ≡ true → step m (event (set_event n v)) ≡ nothing_done m
    unfolding step outcome changed tables_after event_tables desk_after round_after answer event_answer written refusal lines event_lines first_holding
    set-a-registered-one e =
        rw (found, registered-supported (kind_of v) e, may, own-control (kind_of v) e)
        (ap (λ (k : Model). nothing_done k) (tables-same m _ (register-still (kind_of v) true e)))

    pub clear-an-unregistered-one : not_supported (kind_of v) ≡ false → is_registered m.tables n (kind_of v) ≡ false
        → step m (event (clear_event n v)) ≡ nothing_done m
    unfolding step outcome changed tables_after event_tables desk_after round_after answer event_answer written refusal lines event_lines first_holding
    clear-an-unregistered-one known e = rw (found, known, may) (ap (λ (k : Model). nothing_done k) (tables-same m _ (register-still (kind_of v) false e)))

  -- TO ENABLE an enabled row of the applet, and TO DISABLE a disabled one, is accepted and changes nothing.
  module _ (i : ℕ) (its : not_its_row n i m.tables.rows ≡ false) where
    enabled-still : (b : Bool) → (first (its_row n i) no_row m.tables.rows).enabled ≡ b → with_rows m.tables (with_enabled n i b m.tables.rows) ≡ m.tables
    unfolding with_enabled
    enabled-still b e =
        let r = first (its_row n i) no_row m.tables.rows in
        ap (with_rows m.tables)
        (change-still (its_row n i) _ no_row m.tables.rows
        (ap (λ (c : Bool). record { identifier = r.identifier; owner = r.owner; text = r.text; help = r.help; enabled = c }) (sym e)))

    pub enable-an-enabled-row : (first (its_row n i) no_row m.tables.rows).enabled ≡ true → step m (entry (enable_entry n i)) ≡ nothing_done m
    unfolding step outcome changed tables_after entry_tables desk_after round_after answer entry_answer written refusal lines entry_lines first_holding
    enable-an-enabled-row e = rw (found, its) (ap (λ (k : Model). nothing_done k) (tables-same m _ (enabled-still true e)))

    pub disable-a-disabled-row : (first (its_row n i) no_row m.tables.rows).enabled ≡ false → step m (entry (disable_entry n i)) ≡ nothing_done m
    unfolding step outcome changed tables_after entry_tables desk_after round_after answer entry_answer written refusal lines entry_lines first_holding
    disable-a-disabled-row e = rw (found, its) (ap (λ (k : Model). nothing_done k) (tables-same m _ (enabled-still false e)))
