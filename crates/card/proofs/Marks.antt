-- The desk that a call leaves, by what it turns of what is shown: nothing, the menu, the event list, the system interval, or all. Every
-- other mark stays. Assumes nothing.
use mathlib.Core.Path.{◌≡◌, refl}
use mathlib.Core.Bool.{Bool, true, false, not, ◌&&◌, ◌||◌}
use Rattle.std.specs.Prelude.{if◌then◌else◌, ◌==◌}
use Rattle.rules.specs.declared.Desk as held
use Rattle.rules.specs.declared.Due.{Due}
use Rattle.rules.specs.Holds.{Tables, Desk}
use Rattle.rules.specs.Held.{stored_desk}
use Rattle.rules.specs.Commands.{interval}
use Rattle.rules.specs.Desk.{menu_changes, events_change, interval_changes, is_polled, due_after, marked, with_marks}
use Rattle.polling.specs.declared.Polling.{Polling}
use Rattle.polling.specs.Polls.{polling_after}
use Rattle.card.specs.declared.Card.{Card}
use Rattle.card.specs.View.{view, Left}
use Rattle.card.specs.Turns.{polling_of}
use Rattle.card.proofs.Replied.{desk-form}

-- a call that leaves the tables u turns the menu, or the event list, or does not, and leaves the interval
pub record Turns (t u : Tables) (menu events : Bool) : Type 0 where
  pub menu-turns : menu_changes t u ≡ menu
  pub events-turn : events_change t u ≡ events
  pub interval-stays : interval_changes t u ≡ false

-- the desk as it is held, with these marks
abbrev pub with_due : held.Desk → Due → held.Desk
with_due d due = record { due = due; session = d.session; outstanding = d.outstanding; title_len = d.title_len; title = d.title; profile = d.profile }

abbrev pub with_menu_due : held.Desk → Bool → held.Desk
with_menu_due d b = with_due d (record { menu = b; events = d.due.events; interval = d.due.interval; off = d.due.off })

abbrev pub with_events_due : held.Desk → Bool → held.Desk
with_events_due d b = with_due d (record { menu = d.due.menu; events = b; interval = d.due.interval; off = d.due.off })

abbrev pub with_polling_due : held.Desk → Polling → held.Desk
with_polling_due d p = with_due d (record { menu = d.due.menu; events = d.due.events; interval = p.interval; off = p.off })

-- the mark after a call that turns what it is for, or does not
abbrev pub MenuMark : held.Desk → (turns due : Bool) → Type 0
MenuMark d turns due = due ≡ (d.session && turns || d.due.menu)

abbrev pub EventsMark : held.Desk → (turns due : Bool) → Type 0
EventsMark d turns due = due ≡ (d.session && turns || d.due.events)

-- the marks of polling after a call that leaves the tables u
abbrev pub PollingMarks : held.Desk → (t u : Tables) → Polling → Type 0
PollingMarks d t u p = p ≡ polling_after d.session d.due.interval d.due.off (interval t) (interval u)

or_turned : (a b : Bool) → (a || b) ≡ (b || a)
or_turned true true = refl
or_turned true false = refl
or_turned false true = refl
or_turned false false = refl

-- what turns nothing leaves a mark
unmarked : (session due : Bool) → due ≡ (session && false || due)
unmarked true b = refl
unmarked false b = refl

-- and what leaves the interval leaves those of polling
unpolled : (t u : Tables) (d : held.Desk) → interval_changes t u ≡ false → PollingMarks d t u (record { interval = d.due.interval; off = d.due.off })
unfolding interval_changes
unpolled t u d stays = go d.session (not (interval t == interval u)) stays
  where
    go : (s b : Bool) → b ≡ false
        → ◌≡◌ {A = Polling} (record { interval = d.due.interval; off = d.due.off })
        (if s && b then record { interval = not (interval u == 0); off = interval u == 0 } else record { interval = d.due.interval; off = d.due.off })
    go true b e = rw e refl
    go false b e = refl

-- the marks by whether the interval is the same, and whether there is none
abbrev polling_by : Desk → (session same none : Bool) → Polling
polling_by d s same none = if s && not same then record { interval = not none; off = none } else record { interval = d.due.interval; off = d.due.off }

abbrev due_by : Desk → (menu events same none : Bool) → Due
due_by d menu events same none =
    record {
      menu = d.due.menu || menu;
      events = d.due.events || events;
      interval = if not same then not none else d.due.interval;
      off = if not same then not (not none) else d.due.off;
    }

due-desk
    : (t u : Tables) (d : Desk) {k : held.Desk} {menu events x y : Bool} {p : Polling}
    → k ≡ stored_desk d
    → menu_changes t u ≡ menu
    → events_change t u ≡ events
    → MenuMark k menu x
    → EventsMark k events y
    → PollingMarks k t u p
    → with_due k (record { menu = x; events = y; interval = p.interval; off = p.off }) ≡ stored_desk (marked t u d)
unfolding stored_desk marked due_after interval_changes is_polled
due-desk t u d {menu = menu} {events = events} e turns-menu turns-events x y z =
    rw (x, y, z, e, turns-menu, turns-events) (go d.session (interval t == interval u) (interval u == 0))
  where
    go : (s same none : Bool)
        → with_due (stored_desk d) (record { menu = s && menu || d.due.menu; events = s && events || d.due.events; interval = (polling_by d s same none).interval; off = (polling_by d s same none).off })
        ≡ stored_desk (if s then with_marks d d.outstanding (due_by d menu events same none) else d)
    go true true none = rw (or_turned menu d.due.menu, or_turned events d.due.events) refl
    go true false true = rw (or_turned menu d.due.menu, or_turned events d.due.events) refl
    go true false false = rw (or_turned menu d.due.menu, or_turned events d.due.events) refl
    go false same none = refl

-- THE DESK AFTER A CALL that leaves these tables
module _ (c : Card) (left : Left c) (u : Tables) where
  abbrev t : Tables
  t = (view c).tables

  abbrev Marked : held.Desk → Type 0
  Marked k = k ≡ stored_desk (marked t u (view c).desk)

  pub all-desk
      : {menu events : Bool} {due : Due}
      → menu_changes t u ≡ menu
      → events_change t u ≡ events
      → MenuMark c.desk menu due.menu
      → EventsMark c.desk events due.events
      → PollingMarks c.desk t u (polling_of due)
      → Marked (with_due c.desk due)
  all-desk = due-desk t u (view c).desk (desk-form c left)

  pub menu-desk : {menu x : Bool} → Turns t u menu false → MenuMark c.desk menu x → Marked (with_menu_due c.desk x)
  menu-desk turns x = all-desk turns.menu-turns turns.events-turn x (unmarked c.desk.session c.desk.due.events) (unpolled t u c.desk turns.interval-stays)

  pub events-desk : {events y : Bool} → Turns t u false events → EventsMark c.desk events y → Marked (with_events_due c.desk y)
  events-desk turns y = all-desk turns.menu-turns turns.events-turn (unmarked c.desk.session c.desk.due.menu) y (unpolled t u c.desk turns.interval-stays)

  pub polling-desk : {p : Polling} → menu_changes t u ≡ false → events_change t u ≡ false → PollingMarks c.desk t u p → Marked (with_polling_due c.desk p)
  polling-desk menu events p = all-desk menu events (unmarked c.desk.session c.desk.due.menu) (unmarked c.desk.session c.desk.due.events) p

  pub quiet-desk : Turns t u false false → Marked c.desk
  quiet-desk turns = menu-desk turns (unmarked c.desk.session c.desk.due.menu)
