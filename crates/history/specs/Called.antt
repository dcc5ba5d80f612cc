-- Whom a history calls: at each next the first, in order, of those whom it registers for what arrived, on arrival and still.
use Rattle.std.specs.Prelude.{ℕ, ◌≡◌, Bool, true, false, not, ◌&&◌, ◌||◌, List, [], ◌∷◌}
use Rattle.lists.specs.Tests.{◌<?◌}
use Rattle.std.specs.Prelude.{if◌then◌else◌, ◌==◌}
use Rattle.lists.specs.Lists.{some?, every?}
use Rattle.rules.specs.Holds.{Row, Arrival, event, choice, help, expiry, status, nothing}
use Rattle.rules.specs.Rounds.{arrived_with}
use Rattle.history.specs.Histories.{History, stands}
use Rattle.history.specs.Deeds.{of_arrival}
use Rattle.history.specs.Rounds.{opens, finds_nobody, leaves}
use Rattle.history.specs.Named.{is_selectable, priority_of, is_later, is_registered, poll_of, owns_timer, rows_named, one_to_eight}

-- row i is applet n's and enabled; it also offers help
unfoldable pub is_chosen : (identifier applet : ℕ) → Row → Bool
is_chosen i n r = r.identifier == i && r.owner == n && r.enabled

unfoldable pub is_helped : (identifier applet : ℕ) → Row → Bool
is_helped i n r = r.identifier == i && r.owner == n && r.enabled && r.help

-- The history registers applet n for what arrives: an event that it set, a choice of its enabled row, help on that row, the end
-- of its timer, a STATUS while it requests a poll interval.
unfoldable pub is_named : History → Arrival → (applet : ℕ) → Bool
is_named h (event e) n = is_registered n e h
is_named h (choice i) n = some? (is_chosen i n) (rows_named h)
is_named h (help i) n = some? (is_helped i n) (rows_named h)
is_named h (expiry k) n = owns_timer k n h
is_named h status n = not (poll_of n h == 0)
is_named h nothing n = false

-- applet n is registered for what arrives, and selectable
unfoldable pub is_callable : History → Arrival → (applet : ℕ) → Bool
is_callable h a n = is_selectable n h && is_named h a n

-- What arrived last; what was done since; and the history at that moment.
unfoldable pub arrived : History → Arrival
arrived [] = nothing
arrived (e ∷ h) = if opens e then of_arrival nothing arrived_with e.call else arrived h

unfoldable pub since : History → History
since [] = []
since (e ∷ h) = if opens e then [] else e ∷ since h

unfoldable pub on_arrival : History → History
on_arrival [] = []
on_arrival (e ∷ h) = if opens e then h else on_arrival h

-- A round is open: something arrived, and no next found nobody since.
unfoldable pub is_open : History → Bool
is_open h = stands opens finds_nobody h

-- Applet n waits for its turn: it was registered on arrival, and neither named nor deleted since.
unfoldable pub waits : (applet : ℕ) → History → Bool
waits n h = is_named (on_arrival h) (arrived h) n && not (some? (leaves n) (since h))

-- Applet n is to be named: it is registered still, selectable, and waits.
unfoldable pub is_due : History → (applet : ℕ) → Bool
is_due h n = is_callable h (arrived h) n && waits n h

-- Smaller priority number first, and of equal priority the later installed first.
unfoldable pub is_before : History → (applet other : ℕ) → Bool
is_before h n m = priority_of n h <? priority_of m h || priority_of n h == priority_of m h && is_later n m h

-- Applet n gets the next turn: a round is open, it is to be named, and it comes before every other that is.
unfoldable pub gets_turn : (applet : ℕ) → History → Bool
gets_turn n h = is_open h && is_due h n && every? (λ m. m == n || not (is_due h m) || is_before h n m) one_to_eight

-- WHOM A NEXT NAMES: nobody, if nobody is to be named; else the one that comes before every other.
pub data Names (h : History) : List ℕ → Type 0 where
  nobody : ((n : ℕ) → is_due h n ≡ false) → Names h []
  first : (n : ℕ) → is_due h n ≡ true → ((m : ℕ) → is_due h m ≡ true → (m == n) ≡ false → is_before h n m ≡ true) → Names h (n ∷ [])
