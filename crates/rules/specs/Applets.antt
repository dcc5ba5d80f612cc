-- Applets: the look-up by number, what an install asks for, registrations, requests for polling, and the order in which applets are called.
use Rattle.std.specs.Prelude.{ℕ, suc, ◌+◌, Bool, true, false, not, ◌&&◌, ◌||◌, List, [], ◌∷◌, map, length, take, get_or, replicate, ℤ, pos, negsuc}
use Rattle.std.specs.Int.Signed.{lt_z}
use Rattle.lists.specs.Tests.{◌<?◌, ◌≤?◌}
use Rattle.std.specs.Prelude.{if◌then◌else◌, ◌==◌}
use Rattle.lists.specs.Lists.{some?, keep, first, change, insert_before, sum, gather, repeats?}
use Rattle.lists.specs.Tables.{table}
use Rattle.rules.specs.declared.Pair.{Pair}
use Rattle.rules.specs.declared.Request.{Request}
use Rattle.rules.specs.declared.Kind.{Kind}
use Rattle.rules.specs.declared.Kind.TheVariants.{Event, Issuer, Reserved, Unsupported}
use Rattle.rules.specs.Holds.{Applet, Bounds, Tables, with_applets, with_control, with_event}
use Rattle.rules.specs.Events.{minus, supported, call_control}

-- The look-up.
-- an applet number: 1 to 8
unfoldable pub is_number : Bounds → (number : ℕ) → Bool
is_number b n = 1 ≤? n && n ≤? b.applets

-- all of them, ascending
abbrev pub numbers : Bounds → List ℕ
numbers b = table b.applets suc

-- the applet has this number
abbrev pub has_number : (number : ℕ) → Applet → Bool
has_number n x = x.number == n

-- there is such an applet; for a number outside 1..8 there never is
unfoldable pub present : Tables → (number : ℕ) → Bool
present t n = some? (has_number n) t.applets

-- registered for nothing
abbrev pub no_events : List Bool
no_events = replicate (length supported) false

abbrev pub nobody : Applet
nobody =
    record {
      number = 0;
      priority = 0;
      limits = record { timers = 0; text = 0; pairs = [] };
      made = 0;
      selectable = false;
      events = no_events;
      poll = 0;
    }

-- the applet with a number, or nobody
unfoldable pub applet : Tables → (number : ℕ) → Applet
applet t n = first (has_number n) nobody t.applets

-- What an install asks for.
-- only the first pairs, as many as the entry limit, are looked at
unfoldable pub looked_at : Request → List Pair
looked_at r = take r.entries r.pairs

-- refusal 4: priority 0, limit too large, identifier over 127
unfoldable pub out_of_range : Bounds → Request → Bool
out_of_range b r =
    r.priority == 0
    || b.timers <? r.timers
    || b.entries <? r.entries
    || b.text <? r.text
    || some? (λ (p : Pair). 127 <? p.identifier) (looked_at r)

-- an applet's entry limit
abbrev pub entries : Applet → ℕ
entries x = length x.limits.pairs

-- refusal 5: the entry limits of all applets, this one included, exceed the rows
unfoldable pub too_many : Tables → Request → Bool
too_many t r = t.bounds.rows <? sum entries t.applets + r.entries

-- the non-zero identifiers that pairs request
unfoldable pub requested : List Pair → List ℕ
requested pairs = keep (λ i. not (i == 0)) (map (λ (p : Pair). p.identifier) pairs)

-- refusal 6: a non-zero identifier is requested twice, here or by an applet present
unfoldable pub clash : Tables → Request → Bool
clash t r = repeats? (requested (looked_at r)) (gather (λ (x : Applet). requested x.limits.pairs) t.applets)

-- the applet that an accepted install makes: selectable, with no entry made, registered for nothing and with no request for polling
unfoldable pub newcomer : (number : ℕ) → Request → Applet
newcomer n r =
    record {
      number = n;
      priority = r.priority;
      limits = record { timers = r.timers; text = r.text; pairs = looked_at r };
      made = 0;
      selectable = true;
      events = no_events;
      poll = 0;
    }

-- Registrations. Call control has one owner; any other event is kept applet by applet.
unfoldable pub registered : Tables → (event : ℕ) → Applet → Bool
registered t e x = if e == call_control then t.control == x.number else get_or x.events e false

-- whether applet n is registered for what a value names
unfoldable pub is_registered : Tables → (number : ℕ) → Kind → Bool
is_registered t n (Event e) = registered t e (applet t n)
is_registered t n Issuer = false
is_registered t n Reserved = false
is_registered t n Unsupported = false

-- refusal 9: another applet owns call control
unfoldable pub owned_by_another : Tables → (number : ℕ) → Bool
owned_by_another t n = not (t.control == 0) && not (t.control == n)

-- what was n's is nobody's
abbrev pub forget : (number owner : ℕ) → ℕ
forget n owner = if owner == n then 0 else owner

-- applet n is registered for the event (true), or no longer (false)
unfoldable pub with_registration : Tables → (number event : ℕ) → Bool → Tables
with_registration t n e b =
    if e == call_control
    then with_control t (if b then n else forget n t.control)
    else with_applets t (change (has_number n) (with_event e b) t.applets)

-- the same for what a value names
unfoldable pub register : Tables → (number : ℕ) → Kind → Bool → Tables
register t n (Event e) b = with_registration t n e b
register t n Issuer b = t
register t n Reserved b = t
register t n Unsupported b = t

-- Poll intervals (document 02, Ask 1): an applet requests 1 to 15300 seconds, 0 for none, or -1 for the card's choice, which is none.
abbrev pub longest_poll : ℕ
longest_poll = 15300

-- refusal 20: any other duration
unfoldable pub bad_duration : (duration : ℤ) → Bool
bad_duration d = lt_z d (minus 1) || lt_z (pos longest_poll) d

-- the seconds that an accepted duration requests
unfoldable pub seconds_of : (duration : ℤ) → ℕ
seconds_of (pos n) = n
seconds_of (negsuc n) = 0

-- the applet requests an interval
abbrev pub polls : Applet → Bool
polls x = not (x.poll == 0)

-- The order of call: smaller priority number first, and of equal priority the later installed first. The list is in order of
-- installation, so its first is the oldest: it stands before the first of the others that has a larger number.
unfoldable pub in_order : List Applet → List Applet
in_order [] = []
in_order (x ∷ l) = insert_before (λ (y : Applet). x.priority <? y.priority) x (in_order l)
