-- A call that changes no table marks nothing due; and what is handed out: the menu, then the event list, then POLL INTERVAL or POLLING OFF.
-- Assumes nothing.
use Prim.Native.Nat.{ℕ}
use mathlib.Core.Path.{◌≡◌, refl, ap, ◌∙◌}
use mathlib.Core.Bool.{Bool, true, false}
use mathlib.Core.List.{List, [], ◌∷◌}
use lib.ListN.{length}
use lib.Dec.{eqb-suc-zero}
use borrow.Author.Tests.{eq-eqb}
use Rattle.std.specs.Prelude.{if◌then◌else◌, ◌==◌}
use Rattle.lists.specs.Lists.{keep}
use Rattle.lists.proofs.Truth.{or-false, beq-self}
use Rattle.lists.proofs.Alike.{alike_self, same_self}
use Rattle.rules.specs.declared.Due.{Due}
use Rattle.rules.specs.Holds.{Row, Tables, Desk}
use Rattle.rules.specs.Commands.{shown_menu, shown_events, interval, menu_of, menu_bytes, event_bytes, interval_bytes, off_bytes, command_bytes}
use Rattle.rules.specs.Desk.{same_row?, menu_changes, events_change, interval_changes, due_after, marked, with_marks}
use Rattle.rules.specs.Desk.{Matter, menu, event_list, poll_interval, polling_off, is_due, handed_out, command_for, due_matters, first_command, due_command, with_first, with_handed_out}

pub row-self : (r : Row) → same_row? r r ≡ true
unfolding same_row?
row-self r = rw (eq-eqb r.identifier r.identifier refl, eq-eqb r.owner r.owner refl, same_self r.text, beq-self r.help, beq-self r.enabled) refl

pub menu-same : (t : Tables) → menu_changes t t ≡ false
unfolding menu_changes
menu-same t = rw (alike_self same_row? row-self (shown_menu t)) refl

pub events-same : (t : Tables) → events_change t t ≡ false
unfolding events_change
events-same t = rw (same_self (shown_events t)) refl

pub interval-same : (t : Tables) → interval_changes t t ≡ false
unfolding interval_changes
interval-same t = rw (eq-eqb (interval t) (interval t) refl) refl

due-same : (t : Tables) (d : Due) → due_after t t d ≡ d
unfolding due_after
due-same t d = rw (menu-same t, events-same t, interval-same t, or-false d.menu, or-false d.events) refl

pub marked-same : (t : Tables) (d : Desk) → marked t t d ≡ d
unfolding marked
marked-same t d = rw (due-same t d.due) (go d.session)
  where
    go : (s : Bool) → (if s then d else d) ≡ d
    go true = refl
    go false = refl

-- whatever is due, its command is no empty one
pub command-some : (t : Tables) (title : List ℕ) (x : Matter) → (length (command_for t title x) == 0) ≡ false
unfolding command_for menu_bytes event_bytes interval_bytes off_bytes command_bytes
command-some t title menu = rw (eqb-suc-zero _) refl
command-some t title event_list = rw (eqb-suc-zero _) refl
command-some t title poll_interval = rw (eqb-suc-zero _) refl
command-some t title polling_off = rw (eqb-suc-zero _) refl

-- what is handed out, case by case
module _ (p : Matter → Bool) (x : Matter) (l : List Matter) where
  command-of : (t : Tables) (title : List ℕ) → first_command t title (keep p (x ∷ l)) ≡ (if p x then command_for t title x else first_command t title (keep p l))
  unfolding keep first_command
  command-of t title = go (p x)
    where
      go : (b : Bool) → first_command t title (if b then x ∷ keep p l else keep p l) ≡ (if b then command_for t title x else first_command t title (keep p l))
      go true = refl
      go false = refl

  desk-of : (d : Desk) → with_first d (keep p (x ∷ l)) ≡ (if p x then with_marks d true (handed_out x d.due) else with_first d (keep p l))
  unfolding keep with_first
  desk-of d = go (p x)
    where
      go : (b : Bool) → with_first d (if b then x ∷ keep p l else keep p l) ≡ (if b then with_marks d true (handed_out x d.due) else with_first d (keep p l))
      go true = refl
      go false = refl

module _ (d : Desk) where
  abbrev due : Due
  due = d.due

  abbrev p : Matter → Bool
  p = is_due due

  pub first-due : (t : Tables)
      → due_command t d
      ≡ (if due.menu then menu_bytes (menu_of d.title (shown_menu t)) else if due.events then event_bytes (shown_events t) else
      if due.interval then interval_bytes (interval t) else if due.off then off_bytes else [])
  unfolding due_command due_matters is_due command_for keep first_command
  first-due t =
      command-of p menu (event_list ∷ poll_interval ∷ polling_off ∷ []) t d.title
      ∙ ap (λ (k : List ℕ). if due.menu then command_for t d.title menu else k)
      (command-of p event_list (poll_interval ∷ polling_off ∷ []) t d.title
      ∙ ap (λ (k : List ℕ). if due.events then command_for t d.title event_list else k)
      (command-of p poll_interval (polling_off ∷ []) t d.title
      ∙ ap (λ (k : List ℕ). if due.interval then command_for t d.title poll_interval else k)
      (command-of p polling_off [] t d.title)))

  pub first-handed :
      with_handed_out d
      ≡ (if due.menu then with_marks d true (handed_out menu due) else if due.events then with_marks d true (handed_out event_list due) else
      if due.interval then with_marks d true (handed_out poll_interval due) else if due.off then with_marks d true (handed_out polling_off due) else d)
  unfolding with_handed_out due_matters is_due keep with_first
  first-handed =
      desk-of p menu (event_list ∷ poll_interval ∷ polling_off ∷ []) d
      ∙ ap (λ (k : Desk). if due.menu then with_marks d true (handed_out menu due) else k)
      (desk-of p event_list (poll_interval ∷ polling_off ∷ []) d
      ∙ ap (λ (k : Desk). if due.events then with_marks d true (handed_out event_list due) else k)
      (desk-of p poll_interval (polling_off ∷ []) d
      ∙ ap (λ (k : Desk). if due.interval then with_marks d true (handed_out poll_interval due) else k)
      (desk-of p polling_off [] d)))
