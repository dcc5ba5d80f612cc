-- What arrived, by its kind and number; and what arrivals and turns make of the round's struct.
-- Assumes nothing.
use Prim.Native.Nat.{ℕ, ◌≤◌}
use native.Mathlib.Omega.{arith}
use mathlib.Core.Path.{◌≡◌, refl, sym, ap, ◌∙◌}
use mathlib.Core.Bool.{Bool, true, false, ◌||◌}
use borrow.Author.Tests.{eqb-true, eq-eqb, ne_eqb}
use Rattle.std.specs.Prelude.{Result, Ok, Err, if◌then◌else◌, ◌==◌}
use Rattle.lists.proofs.Decided.{clashing, neither}
use Rattle.rules.specs.declared.Envelope.{Envelope}
use Rattle.rules.specs.declared.Envelope.TheVariants.{Menu, Call, Download, Expiry, Unrecognized}
use Rattle.rules.specs.declared.Malformed.{Malformed}
use Rattle.rules.specs.declared.Kind.{Kind}
use Rattle.rules.specs.declared.Kind.TheVariants.{Event, Issuer, Reserved, Unsupported}
use Rattle.rules.specs.declared.Round as held
use Rattle.rules.specs.declared.Arrived.{Arrived}
use Rattle.rules.specs.Holds.{Arrival, event, choice, help, expiry, status, nothing}
use Rattle.rules.specs.Events.{handler_available, kind_of_code}
use Rattle.rules.specs.Arrivals.{download, arrival_of}
use Rattle.rules.specs.Rounds.{by_settled}
use Rattle.rules.specs.Held.{view_arrival, stored_arrival}
use Rattle.sets.specs.Sets.{single, set_both, switched_set}
use Rattle.arrivals.specs.Rounds.{leaving}

-- WHAT ARRIVED, by its kind
module _ (a : Arrived) where
  pub event-view : a.kind ≡ 1 → view_arrival a ≡ event a.number
  unfolding view_arrival
  event-view e = rw e refl

  pub row-view : (a.kind ≡ 1 → ⊥) → (a.kind == 3 || a.kind == 2) ≡ true → view_arrival a ≡ arrival_of (Ok (Menu a.number (a.kind == 3)))
  unfolding view_arrival arrival_of
  row-view other e = rw (ne_eqb a.kind 1 other) (go (a.kind == 3) (a.kind == 2) refl refl e)
    where
      go : (x y : Bool) → (a.kind == 3) ≡ x → (a.kind == 2) ≡ y → (x || y) ≡ true
          → (if y then choice a.number else if x then help a.number else if a.kind == 4 then expiry a.number else if a.kind == 5 then status else nothing) ≡ arrival_of (Ok (Menu a.number x))
      go true true p q r = absurd (omega (arith, eqb-true a.kind 3 p, eqb-true a.kind 2 q))
      go true false p q r = refl
      go false true p q r = refl
      go false false p q r = clashing r refl

  pub expiry-view : a.kind ≡ 4 → view_arrival a ≡ expiry a.number
  unfolding view_arrival
  expiry-view e = rw e refl

  pub status-view : a.kind ≡ 5 → view_arrival a ≡ status
  unfolding view_arrival
  status-view e = rw e refl

  pub nothing-view : (a.kind ≡ 1 → ⊥) → (a.kind == 3 || a.kind == 2) ≡ false → (a.kind ≡ 4 → ⊥) → (a.kind ≡ 5 → ⊥) → view_arrival a ≡ nothing
  unfolding view_arrival
  nothing-view p q r s =
      let none = neither (a.kind == 3) (a.kind == 2) q in
      rw (ne_eqb a.kind 1 p, none.0, none.1, ne_eqb a.kind 4 r, ne_eqb a.kind 5 s) refl

  -- the one whose one-shot is used up
  module _ (n : ℕ) where
    pub spends : a.kind ≡ 1 → a.number ≡ handler_available → {s : ℕ} → s ≡ single n → s ≡ (if by_settled (view_arrival a) then single n else 0)
    unfolding by_settled
    spends e f g = g ∙ rw (event-view e, eq-eqb a.number handler_available f) refl

    pub spends-not : a.kind ≡ 1 → (a.number ≡ handler_available → ⊥) → 0 ≡ (if by_settled (view_arrival a) then single n else 0)
    unfolding by_settled
    spends-not e f = rw (event-view e, ne_eqb a.number handler_available f) refl

    pub spends-never : (a.kind ≡ 1 → ⊥) → 0 ≡ (if by_settled (view_arrival a) then single n else 0)
    unfolding view_arrival by_settled
    spends-never p = rw (ne_eqb a.kind 1 p) (go (a.kind == 2) (a.kind == 3) (a.kind == 4) (a.kind == 5))
      where
        go : (w x y z : Bool) → 0 ≡ (if by_settled (if w then choice a.number else if x then help a.number else if y then expiry a.number else if z then status else nothing) then single n else 0)
        go true x y z = refl
        go false true y z = refl
        go false false true z = refl
        go false false false true = refl
        go false false false false = refl

-- kept and looked up again, it is as it arrived
pub arrival-back : (a : Arrival) → view_arrival (stored_arrival a) ≡ a
unfolding view_arrival stored_arrival
arrival-back (event e) = refl
arrival-back (choice i) = refl
arrival-back (help i) = refl
arrival-back (expiry k) = refl
arrival-back status = refl
arrival-back nothing = refl

-- with an envelope no STATUS arrives
few-kinds : (e : Result Envelope Malformed) → (stored_arrival (arrival_of e)).kind ≤ 4
unfolding stored_arrival arrival_of download
few-kinds (Ok (Menu item false)) = omega arith
few-kinds (Ok (Menu item true)) = omega arith
few-kinds (Ok Call) = omega arith
few-kinds (Ok (Download code)) = go (kind_of_code code)
  where
    go : (k : Kind) → (stored_arrival (download k)).kind ≤ 4
    go (Event place) = omega arith
    go Issuer = omega arith
    go Reserved = omega arith
    go Unsupported = omega arith
few-kinds (Ok (Expiry timer)) = omega arith
few-kinds (Ok Unrecognized) = omega arith
few-kinds (Err r) = omega arith

module _ (a : Arrived) (e : Result Envelope Malformed) (is : a ≡ stored_arrival (arrival_of e)) where
  pub arrives : {b : Arrival} → view_arrival a ≡ b → arrival_of e ≡ b
  arrives v = sym (arrival-back (arrival_of e)) ∙ ap view_arrival (sym is) ∙ v

  pub no-status : a.kind ≡ 5 → ⊥
  no-status five =
      let kind : a.kind ≡ (stored_arrival (arrival_of e)).kind = ap (λ (b : Arrived). b.kind) is in
      omega (arith, few-kinds e)

-- the round after an accepted arrival, and after a turn of one that was named
pub opens
    : (a : Arrived) (r : held.Round) (whom present : ℕ) {refusal w : ℕ} → refusal ≡ 0 → w ≡ set_both whom present
    → ◌≡◌ {A = held.Round} (record { «open» = true; arrived = a; waiting = w }) (if refusal == 0 then record { «open» = true; arrived = a; waiting = set_both whom present } else r)
opens a r whom present e f = rw (e, f) refl

pub turns
    : (r : held.Round) (n : ℕ) (none : held.Round) {w : ℕ} → (n ≡ 0 → ⊥) → w ≡ switched_set r.waiting n false
    → ◌≡◌ {A = held.Round} (record { «open» = r.«open»; arrived = r.arrived; waiting = w }) (if n == 0 then none else leaving r n)
turns r n none some f = rw (ne_eqb n 0 some, f) refl
