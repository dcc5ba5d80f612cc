-- The card agrees with what the history of accepted calls names: one law a field.
-- Assumes nothing.
use Prim.Native.Nat.{ℕ, ◌≤◌}
use mathlib.Core.Path.{◌≡◌}
use mathlib.Core.Bool.{Bool, true, false}
use mathlib.Core.List.{◌∷◌, map}
use lib.ListN.{get_or}
use Rattle.std.specs.Prelude.{◌==◌}
use Rattle.lists.specs.Lists.{Every, Ordered, count, in?}
use Rattle.rules.specs.Holds.{Applet, Row, Tables, Desk, Round, Model, document}
use Rattle.rules.specs.Events.{call_control}
use Rattle.rules.specs.Applets.{present, applet}
use Rattle.rules.specs.Timers.{owner_of}
use Rattle.rules.specs.Calls.{Call}
use Rattle.rules.specs.Refusals.{refusal}
use Rattle.rules.specs.Step.{tables_after, answer}
use Rattle.runs.specs.Sound.{Sound}
use Rattle.history.specs.Histories.{did, History}
use Rattle.history.specs.Named.{is_present, is_selectable, priority_of, is_later, is_registered, poll_of, owns_timer, rows_named, in_session, is_outstanding}
use Rattle.history.specs.Called.{arrived, is_open, waits}

-- the number of an applet
abbrev pub number_of : Applet → ℕ
number_of x = x.number

-- The tables.
pub record AgreeTables (t : Tables) (h : History) : Type 0 where
  pub presence : (n : ℕ) → present t n ≡ is_present n h
  pub selectability : (n : ℕ) → (applet t n).selectable ≡ is_selectable n h
  pub priorities : Every (λ (x : Applet). x.priority ≡ priority_of x.number h) t.applets
  -- an applet stands before those that were installed later
  pub order : Ordered (λ n m. is_later m n h ≡ true) (map number_of t.applets)
  pub events : (n e : ℕ) → (e == call_control) ≡ false → get_or (applet t n).events e false ≡ is_registered n e h
  pub control : (n : ℕ) → 1 ≤ n → (t.control == n) ≡ is_registered n call_control h
  pub poll : (n : ℕ) → (applet t n).poll ≡ poll_of n h
  pub timers : (k n : ℕ) → 1 ≤ n → (owner_of t.timers k == n) ≡ owns_timer k n h
  -- as many rows pass any test as the history names
  pub rows : (p : Row → Bool) → count p t.rows ≡ count p (rows_named h)

-- The desk.
pub record AgreeDesk (d : Desk) (h : History) : Type 0 where
  pub session : d.session ≡ in_session h
  pub outstanding : d.outstanding ≡ is_outstanding h

-- The round, while one is open.
pub record AgreeRound (r : Round) (h : History) : Type 0 where
  pub openness : r.is_open ≡ is_open h
  pub arrival : r.is_open ≡ true → r.arrived ≡ arrived h
  pub waiting : r.is_open ≡ true → (n : ℕ) → 1 ≤ n → in? n r.waiting ≡ waits n h

pub record Agree (m : Model) (h : History) : Type 0 where
  pub tables : AgreeTables m.tables h
  pub desk : AgreeDesk m.desk h
  pub round : AgreeRound m.round h

-- what is known of every card that calls have left
pub record Ground (m : Model) : Type 0 where
  pub bounds : m.tables.bounds ≡ document
  pub sound : Sound m

-- P holds of the tables after an accepted call
abbrev pub Kept : (Tables → History → Type 0) → Type 0
Kept P = (m : Model) (h : History) (c : Call) → refusal m c ≡ 0 → Ground m → AgreeTables m.tables h → P (tables_after m c) (did c (answer m c) ∷ h)
