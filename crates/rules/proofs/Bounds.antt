-- No call changes the bounds.
-- Assumes nothing.
use Prim.Native.Nat.{ℕ, zero, suc}
use mathlib.Core.Path.{◌≡◌, refl, ◌∙◌}
use mathlib.Core.Bool.{Bool, true, false}
use mathlib.Core.List.{List, [], ◌∷◌}
use Rattle.std.specs.Prelude.{if◌then◌else◌, ◌==◌}
use Rattle.rules.specs.declared.Kind.{Kind}
use Rattle.rules.specs.declared.Kind.TheVariants.{Event, Issuer, Reserved, Unsupported}
use Rattle.rules.specs.Holds.{Bounds, Tables, Arrival, Model}
use Rattle.rules.specs.Events.{call_control, kind_of}
use Rattle.rules.specs.Applets.{register, with_registration}
use Rattle.rules.specs.Calls.{Call, admin, event, entry, timer, arrival, next, proactive, system_command}
use Rattle.rules.specs.Calls.{install, delete, lock, unlock, set_event, clear_event, ask_event, request_poll, new_entry, change_entry, enable_entry, disable_entry, allocate, release}
use Rattle.rules.specs.Refusals.{refusal}
use Rattle.rules.specs.Rounds.{by_settled, used_up}
use Rattle.rules.specs.Step.{admin_tables, event_tables, entry_tables, timer_tables, tables_after, changed, outcome, step}
use Rattle.rules.specs.Beside.{fresh_by, fresh_card}
use Rattle.rules.specs.Runs.{card_after}

either : (c : Bool) (x y : Tables) {b : Bounds} → x.bounds ≡ b → y.bounds ≡ b → (if c then x else y).bounds ≡ b
either true x y p q = p
either false x y p q = q

register-keeps : (t : Tables) (n : ℕ) (k : Kind) (b : Bool) → (register t n k b).bounds ≡ t.bounds
unfolding register with_registration
register-keeps t n (Event e) b = either (e == call_control) _ _ refl refl
register-keeps t n Issuer b = refl
register-keeps t n Reserved b = refl
register-keeps t n Unsupported b = refl

used-keeps : (a : Arrival) (l : List ℕ) (t : Tables) → (used_up a l t).bounds ≡ t.bounds
unfolding used_up with_registration
used-keeps a [] t = refl
used-keeps a (n ∷ l) t = either (by_settled a) _ _ refl refl

tables-keep : (m : Model) (c : Call) → (tables_after m c).bounds ≡ m.tables.bounds
unfolding tables_after admin_tables event_tables entry_tables timer_tables
tables-keep m (admin (install n r)) = refl
tables-keep m (admin (delete n)) = refl
tables-keep m (admin (lock n)) = refl
tables-keep m (admin (unlock n)) = refl
tables-keep m (event (set_event n v)) = register-keeps m.tables n (kind_of v) true
tables-keep m (event (clear_event n v)) = register-keeps m.tables n (kind_of v) false
tables-keep m (event (ask_event n v)) = refl
tables-keep m (event (request_poll n d)) = refl
tables-keep m (entry (new_entry n h x)) = refl
tables-keep m (entry (change_entry n i h x)) = refl
tables-keep m (entry (enable_entry n i)) = refl
tables-keep m (entry (disable_entry n i)) = refl
tables-keep m (timer (allocate n)) = refl
tables-keep m (timer (release n k)) = refl
tables-keep m (arrival c) = refl
tables-keep m next = used-keeps m.round.arrived _ m.tables
tables-keep m (proactive c) = refl
tables-keep m (system_command buffer) = refl

outcome-keeps : (n : ℕ) (m : Model) (c : Call) → (outcome n m c).after.tables.bounds ≡ m.tables.bounds
unfolding outcome changed
outcome-keeps zero m c = tables-keep m c
outcome-keeps (suc n) m c = refl

pub step_keeps : (m : Model) (c : Call) → (step m c).after.tables.bounds ≡ m.tables.bounds
unfolding step
step_keeps m c = outcome-keeps (refusal m c) m c

fresh-has : (n : ℕ) (b : Bounds) (title : List ℕ) → (fresh_by n b title).card.tables.bounds ≡ b
unfolding fresh_by
fresh-has zero b title = refl
fresh-has (suc n) b title = refl

pub after-keeps : (b : Bounds) (title : List ℕ) (calls : List Call) → (card_after b title calls).tables.bounds ≡ b
unfolding card_after fresh_card
after-keeps b title [] = fresh-has _ b title
after-keeps b title (c ∷ calls) = step_keeps (card_after b title calls) c ∙ after-keeps b title calls
