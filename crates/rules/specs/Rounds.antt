-- Rounds (document 02, Ask 2): an arrival opens one, and each next names one of those who were registered on arrival.
use Rattle.std.specs.Prelude.{ℕ, Bool, true, false, not, ◌&&◌, List, [], ◌∷◌, map, take}
use Rattle.std.specs.Prelude.{if◌then◌else◌, ◌==◌}
use Rattle.lists.specs.Lists.{keep, in?}
use Rattle.rules.specs.Holds.{Applet, Tables, Round, no_round, Arrival, event, choice, help, expiry, status, nothing}
use Rattle.rules.specs.Events.{handler_available}
use Rattle.rules.specs.Envelopes.{envelope_of}
use Rattle.rules.specs.Applets.{numbers, present, applet, in_order, with_registration}
use Rattle.rules.specs.Arrivals.{arrival_of, profile_arrival, settled_arrival, wants}
use Rattle.rules.specs.Calls.{ArrivalCall, envelope, profile, status as status_call, settled}

-- what arrives with a call
unfoldable pub arrived_with : ArrivalCall → Arrival
arrived_with (envelope bytes) = arrival_of (envelope_of bytes)
arrived_with (profile bytes) = profile_arrival
arrived_with status_call = status
arrived_with settled = settled_arrival

-- The round that an arrival opens: all whom it is for wait, whatever the lock.
unfoldable pub opened : Tables → Arrival → Round
opened t a =
    record { is_open = true; arrived = a; waiting = keep (λ n. present t n && wants t a (applet t n)) (numbers t.bounds) }

-- a number leaves the round: it is named, or its applet deleted
abbrev pub without : (number : ℕ) → Round → Round
without n r = record { is_open = r.is_open; arrived = r.arrived; waiting = keep (λ k. not (k == n)) r.waiting }

-- Those whose turn is to come, in order: registered on arrival and not yet named, registered still, and selectable.
unfoldable pub turns : Tables → Round → List ℕ
turns t r =
    map (λ (x : Applet). x.number)
    (in_order (keep (λ (x : Applet). (x.selectable && wants t r.arrived x) && in? x.number r.waiting) t.applets))

-- Whom next names: the first of them, or nobody.
unfoldable pub named : Tables → Round → List ℕ
named t r = take 1 (turns t r)

-- The round after that: one was named, or it ends.
unfoldable pub round_with : (named : List ℕ) → Round → Round
round_with [] r = no_round
round_with (n ∷ l) r = without n r

-- settled opened the round
unfoldable pub by_settled : Arrival → Bool
by_settled (event e) = e == handler_available
by_settled (choice i) = false
by_settled (help i) = false
by_settled (expiry k) = false
by_settled status = false
by_settled nothing = false

-- A one-shot is used up at the first turn that it gets in a round that settled opened, and only there.
unfoldable pub used_up : Arrival → (named : List ℕ) → Tables → Tables
used_up a [] t = t
used_up a (n ∷ l) t = if by_settled a then with_registration t n handler_available false else t
