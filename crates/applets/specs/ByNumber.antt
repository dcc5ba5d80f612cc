-- The applets by number and set: what installs fix of them as a roll, and what calls change as sets and tables.
use Rattle.std.specs.Prelude.{ℕ, suc, Bool, false, List, ◌∷◌, map, length, take, get_or}
use Rattle.std.specs.Prelude.{if◌then◌else◌, ◌==◌}
use Rattle.lists.specs.Lists.{some?, first, padded}
use Rattle.lists.specs.Tables.{table}
use Rattle.sets.specs.Sets.{set_of}
use Rattle.rules.specs.declared.Grant.{Grant}
use Rattle.rules.specs.declared.Roll.{Roll}
use Rattle.rules.specs.Holds.{Applet, document, with_state}
use Rattle.rules.specs.Applets.{has_number, nobody, no_events, in_order}
use Rattle.rules.specs.Rows.{no_pair}

-- the applet with a number, or nobody
abbrev pub at : List Applet → (number : ℕ) → Applet
at l n = first (has_number n) nobody l

-- what a table by number holds of a number; the default outside 1..8
abbrev pub by_number : {A : Type 0} → (default : A) → List A → (number : ℕ) → A
by_number d l n = get_or (d ∷ l) n d

-- an applet as it was installed
abbrev pub bare : Applet → Applet
bare x = with_state x 0 false no_events 0

-- what an applet was installed with
unfoldable pub grant_of : Applet → Grant
grant_of x =
    record {
      priority = x.priority;
      timers = x.limits.timers;
      text = x.limits.text;
      entries = length x.limits.pairs;
      pairs = padded document.entries no_pair x.limits.pairs;
    }

-- the roll of a list of applets
unfoldable pub roll_of : List Applet → Roll
roll_of l =
    record {
      present = set_of (λ n. some? (has_number n) l);
      count = length l;
      age = padded document.applets 0 (map (λ (x : Applet). x.number) l);
      order = padded document.applets 0 (map (λ (x : Applet). x.number) (in_order l));
      grants = table document.applets (λ i. grant_of (at l (suc i)));
    }

-- what a call may change of the applets: the selectable ones, those registered for each event, how many entries each has made, and the
-- poll interval that each requests
unfoldable pub selectable_set : List Applet → ℕ
selectable_set l = set_of (λ n. (at l n).selectable)

unfoldable pub registered_set : List Applet → (event : ℕ) → ℕ
registered_set l e = set_of (λ n. get_or (at l n).events e false)

unfoldable pub made_table : List Applet → List ℕ
made_table l = table document.applets (λ i. (at l (suc i)).made)

unfoldable pub poll_table : List Applet → List ℕ
poll_table l = table document.applets (λ i. (at l (suc i)).poll)

-- a table by number, with another value for a number; as it was outside 1..8
unfoldable pub table_with : {A : Type 0} → (default : A) → List A → (number : ℕ) → (value : A) → List A
table_with d l n k = table document.applets (λ i. if suc i == n then k else get_or l i d)

-- the applet with a number and what it was installed with, in a state
unfoldable pub applet_by : (number : ℕ) → Grant → (made : ℕ) (selectable : Bool) (events : List Bool) (poll : ℕ) → Applet
applet_by n g made selectable events poll =
    record {
      number = n;
      priority = g.priority;
      limits = record { timers = g.timers; text = g.text; pairs = take g.entries g.pairs };
      made = made;
      selectable = selectable;
      events = events;
      poll = poll;
    }
