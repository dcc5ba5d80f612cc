-- What calls that leave the system interval turn of what is shown: nothing, the menu only, or the event list only.
-- Assumes nothing.
use Prim.Native.Nat.{ℕ}
use mathlib.Core.Path.{◌≡◌, refl}
use mathlib.Core.Bool.{Bool, true, false}
use mathlib.Core.List.{List, [], ◌∷◌}
use Rattle.lists.proofs.Ifs.{if-holds}
use Rattle.rules.specs.declared.Kind.TheVariants.{Event}
use Rattle.rules.specs.declared.Request.{Request}
use Rattle.rules.specs.Holds.{Row, Tables, Arrival, with_rows, with_timers}
use Rattle.rules.specs.Applets.{present, applet, register, with_registration}
use Rattle.rules.specs.Events.{handler_available}
use Rattle.rules.specs.Rows.{with_entry}
use Rattle.rules.specs.Calls.{install, new_entry}
use Rattle.rules.specs.Commands.{selectable}
use Rattle.rules.specs.Desk.{menu_changes, events_change}
use Rattle.rules.specs.Rounds.{by_settled, used_up}
use Rattle.rules.specs.Step.{admin_tables, entry_tables}
use Rattle.rules.proofs.DueMarks.{menu-same, events-same, interval-same}
use Rattle.menu_shown.specs.Chosen.{has_enabled_row}
use Rattle.menu_shown.proofs.MenuByApplets.{NumbersApart, kept-menu, entry-menu, install-menu, register-menu}
use Rattle.events_shown.proofs.Quiet.{install-events, one-shot-events, rows-events, timers-events, entry-events}
use Rattle.polling.proofs.Quiet.{timers-interval, install-interval, rows-interval, entry-interval, register-interval}
use Rattle.card.proofs.Marks.{Turns}

module _ (t : Tables) where
  -- NOTHING: allocate and release, install, a one-shot used up
  pub timers-quiet : (k : List ℕ) → Turns t (with_timers t k) false false
  unfolding selectable
  timers-quiet k = record { menu-turns = kept-menu t (with_timers t k) refl (λ o. refl); events-turn = timers-events t k; interval-stays = timers-interval t k }

  pub install-quiet : NumbersApart t → (n : ℕ) (q : Request) → has_enabled_row n t.rows ≡ false → Turns t (admin_tables t (install n q)) false false
  unfolding admin_tables
  install-quiet apart n q none = record { menu-turns = install-menu t apart n q none; events-turn = install-events t n q; interval-stays = install-interval t n q }

  pub nothing-turns : Turns t t false false
  nothing-turns = record { menu-turns = menu-same t; events-turn = events-same t; interval-stays = interval-same t }

  pub turn-quiet : (a : Arrival) (l : List ℕ) → Turns t (used_up a l t) false false
  unfolding used_up register
  turn-quiet a [] = nothing-turns
  turn-quiet a (n ∷ l) = if-holds (λ u. Turns t u false false) (by_settled a) (λ h. spent) (λ h. nothing-turns)
    where
      spent : Turns t (with_registration t n handler_available false) false false
      spent =
          record {
            menu-turns = register-menu t n (Event handler_available) false;
            events-turn = one-shot-events t n;
            interval-stays = register-interval t n (Event handler_available) false;
          }

  -- THE MENU ONLY: calls about entries
  pub rows-turn-menu : (rows : List Row) → Turns t (with_rows t rows) (menu_changes t (with_rows t rows)) false
  rows-turn-menu rows = record { menu-turns = refl; events-turn = rows-events t rows; interval-stays = rows-interval t rows }

  pub new-entry-turns-menu : NumbersApart t → (n : ℕ) → present t n ≡ true → (help : Bool) (text : List ℕ) → Turns t (entry_tables t (new_entry n help text)) (applet t n).selectable false
  unfolding entry_tables
  new-entry-turns-menu apart n here help text =
      let rows = with_entry (applet t n) help text t.rows in
      record { menu-turns = entry-menu t apart n here help text; events-turn = entry-events t n rows; interval-stays = entry-interval t n rows }

  -- THE EVENT LIST ONLY: set and clear event
  pub registration-turns-events : (n p : ℕ) (on : Bool) → Turns t (with_registration t n p on) false (events_change t (with_registration t n p on))
  unfolding register
  registration-turns-events n p on = record { menu-turns = register-menu t n (Event p) on; events-turn = refl; interval-stays = register-interval t n (Event p) on }
