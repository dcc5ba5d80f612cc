-- A SETTLED MOMENT: no other call arrives as the event of the one-shot, so settled opened the round exactly if that is what arrived last.
-- Assumes nothing.
use Prim.Native.Nat.{ℕ, suc, ◌+◌, ◌<◌}
use native.Mathlib.Omega.{arith}
use mathlib.Core.Path.{◌≡◌, refl, ap}
use mathlib.Core.Bool.{Bool, true, false, not, ◌&&◌}
use mathlib.Core.List.{List, [], ◌∷◌}
use lib.ListN.{length}
use borrow.Author.Tests.{eqb-true, ne_eqb}
use Rattle.std.specs.Prelude.{Result, Ok, Err, if◌then◌else◌, ◌==◌}
use Rattle.lists.proofs.Decided.{clashing}
use Rattle.rules.specs.declared.Kind.{Kind}
use Rattle.rules.specs.declared.Kind.TheVariants.{Event, Issuer, Reserved, Unsupported}
use Rattle.rules.specs.declared.Envelope.{Envelope}
use Rattle.rules.specs.declared.Envelope.TheVariants.{Menu, Call as CallControl, Download, Expiry, Unrecognized}
use Rattle.rules.specs.declared.Malformed.{Malformed}
use Rattle.rules.specs.Holds.{Arrival, event, choice, help, expiry, status, nothing}
use Rattle.rules.specs.Events.{codes, named, kind_of_code, handler_available}
use Rattle.rules.specs.Envelopes.{envelope_of}
use Rattle.rules.specs.Arrivals.{download, arrival_of, settled_arrival}
use Rattle.rules.specs.Calls.{Call, ArrivalCall, admin, event as event_call, entry, timer, arrival, next, proactive, system_command, envelope, profile, status as status_call, settled}
use Rattle.rules.specs.Rounds.{arrived_with, by_settled}
use Rattle.history.specs.Histories.{History}
use Rattle.history.specs.Deeds.{of_arrival}
use Rattle.history.specs.Rounds.{is_settled}
use Rattle.history.specs.Named.{settled_opened}
use Rattle.history.specs.Called.{arrived}
use Rattle.history.proofs.Open.{reading}

-- an event that is found in a list has a place there
pub named-below : {A : Type 0} (p : A → Bool) (e : ℕ) (l : List A) (f : ℕ) → named p e l ≡ Event f → f < e + length l
unfolding named
named-below p e [] f q = let z : ◌≡◌ {A = ℕ} 0 1 = cc in absurd (omega arith)
named-below p e (x ∷ l) f q = go (p x) q (λ r. named-below p (suc e) l f r)
  where
    go : (b : Bool) → (if b then Event e else named p (suc e) l) ≡ Event f → (named p (suc e) l ≡ Event f → f < suc e + length l)
        → f < e + suc (length l)
    go true r i = let z : e ≡ f = cc in omega arith
    go false r i = omega (arith, i r)

-- the place of an event that arrives; 0 for what is no event
abbrev place_of : Arrival → ℕ
place_of (event e) = e
place_of (choice i) = 0
place_of (help i) = 0
place_of (expiry k) = 0
place_of status = 0
place_of nothing = 0

download-below : (code : ℕ) (k : Kind) → kind_of_code code ≡ k → place_of (download k) < 19
unfolding download kind_of_code codes named
download-below code (Event e) q = omega (arith, named-below (λ k. code == k) 5 codes e q)
download-below code Issuer q = omega arith
download-below code Reserved q = omega arith
download-below code Unsupported q = omega arith

envelope-below : (x : Result Envelope Malformed) → place_of (arrival_of x) < 19
unfolding arrival_of
envelope-below (Ok (Menu item false)) = omega arith
envelope-below (Ok (Menu item true)) = omega arith
envelope-below (Ok CallControl) = omega arith
envelope-below (Ok (Download code)) = download-below code (kind_of_code code) refl
envelope-below (Ok (Expiry k)) = omega arith
envelope-below (Ok Unrecognized) = omega arith
envelope-below (Err m) = omega arith

-- ONLY A SETTLED MOMENT ARRIVES AS THAT EVENT: no envelope does, whatever its bytes, no profile and no STATUS.
pub only-settled-arrives-so : (c : ArrivalCall) → arrived_with c ≡ settled_arrival → c ≡ settled
unfolding arrived_with
only-settled-arrives-so (envelope bytes) e = absurd (omega (arith, ap place_of e, envelope-below (envelope_of bytes)))
only-settled-arrives-so (profile bytes) e = absurd (omega (arith, ap place_of e))
only-settled-arrives-so status_call e = absurd (omega (arith, ap place_of e))
only-settled-arrives-so settled e = refl

-- a round that settled opened is one of that event
pub settled-arrived : (a : Arrival) → by_settled a ≡ true → a ≡ settled_arrival
unfolding by_settled
settled-arrived (event e) q = ap event (eqb-true e handler_available q)
settled-arrived (choice i) q = clashing q refl
settled-arrived (help i) q = clashing q refl
settled-arrived (expiry k) q = clashing q refl
settled-arrived status q = clashing q refl
settled-arrived nothing q = clashing q refl

other-arrived : (a : Arrival) → place_of a < 19 → by_settled a ≡ false
unfolding by_settled
other-arrived (event e) h = ne_eqb e handler_available (λ z. omega arith)
other-arrived (choice i) h = refl
other-arrived (help i) h = refl
other-arrived (expiry k) h = refl
other-arrived status h = refl
other-arrived nothing h = refl

-- SETTLED OPENED THE ROUND exactly if what arrived last is that event.
pub by-settled : (h : History) → by_settled (arrived h) ≡ settled_opened h
unfolding arrived settled_opened by_settled reading
by-settled [] = refl
by-settled (x ∷ h) = go x.call (by-settled h)
  where
    go : (c : Call) → by_settled (arrived h) ≡ settled_opened h
        → by_settled (if of_arrival false (λ a. true) c then of_arrival nothing arrived_with c else arrived h)
        ≡ (if of_arrival false (λ a. true) c && not (of_arrival false is_settled c) then false else if of_arrival false is_settled c then true else settled_opened h)
    go (admin c) i = i
    go (event_call c) i = i
    go (entry c) i = i
    go (timer c) i = i
    go (arrival (envelope bytes)) i = unfold arrived_with in other-arrived (arrival_of (envelope_of bytes)) (envelope-below (envelope_of bytes))
    go (arrival (profile bytes)) i = unfold arrived_with in refl
    go (arrival status_call) i = unfold arrived_with in refl
    go (arrival settled) i = unfold arrived_with in refl
    go next i = i
    go (proactive c) i = i
    go (system_command buffer) i = i
