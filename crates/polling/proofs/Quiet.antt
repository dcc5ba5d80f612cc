-- Calls that leave the system interval: timers, rows, an install, a new entry, and any change of a registration.
-- Assumes nothing.
use Prim.Native.Nat.{ℕ}
use mathlib.Core.Path.{◌≡◌, refl, sym, ap, ◌∙◌}
use mathlib.Core.Bool.{Bool, true, false, not}
use mathlib.Core.List.{List, [], ◌∷◌, ◌++◌, map, append-nil}
use borrow.Author.Tests.{eq-eqb}
use Rattle.std.specs.Prelude.{if◌then◌else◌, ◌==◌}
use Rattle.lists.specs.Lists.{keep, change, smallest}
use Rattle.lists.proofs.Keep.{keep_snoc}
use Rattle.lists.proofs.Keyed.{keys-change}
use Rattle.lists.proofs.Least.{least_of, kept-given}
use Rattle.lists.proofs.Mapped.{map-append}
use Rattle.rules.specs.declared.Request.{Request}
use Rattle.rules.specs.declared.Kind.{Kind}
use Rattle.rules.specs.declared.Kind.TheVariants.{Event, Issuer, Reserved, Unsupported}
use Rattle.rules.specs.Holds.{Applet, Row, Tables, with_applets, with_rows, with_control, with_timers, with_event, with_one_more}
use Rattle.rules.specs.Events.{call_control}
use Rattle.rules.specs.Applets.{has_number, nobody, newcomer, forget, register, with_registration}
use Rattle.rules.specs.Commands.{interval}
use Rattle.rules.specs.Desk.{interval_changes}

-- what counts of an applet
abbrev request : Applet → ℕ
request x = if x.selectable then x.poll else 0

abbrev requests : Tables → List ℕ
requests t = map request t.applets

interval-is : (t : Tables) → interval t ≡ least_of (requests t)
unfolding interval
interval-is t = sym (ap smallest (kept-given (λ (x : Applet). x.selectable) (λ (x : Applet). x.poll) t.applets))

-- the same requests have the same interval
kept-interval : (t u : Tables) → least_of (requests u) ≡ least_of (requests t) → interval_changes t u ≡ false
unfolding interval_changes
kept-interval t u e = ap not (eq-eqb (interval t) (interval u) (interval-is t ∙ sym e ∙ sym (interval-is u)))

module _ (t : Tables) where
  pub timers-interval : (timers : List ℕ) → interval_changes t (with_timers t timers) ≡ false
  timers-interval timers = kept-interval t (with_timers t timers) refl

  pub rows-interval : (rows : List Row) → interval_changes t (with_rows t rows) ≡ false
  rows-interval rows = kept-interval t (with_rows t rows) refl

  -- a newcomer requests nothing
  pub install-interval : (n : ℕ) (r : Request) → interval_changes t (with_applets t (t.applets ++ newcomer n r ∷ [])) ≡ false
  unfolding newcomer
  install-interval n r =
      kept-interval t (with_applets t (t.applets ++ newcomer n r ∷ []))
      (ap least_of (map-append request t.applets (newcomer n r ∷ []))
      ∙ ap smallest (keep_snoc (λ s. not (s == 0)) (requests t) 0 ∙ append-nil (keep (λ s. not (s == 0)) (requests t))))

  -- one applet changed, in neither its request nor its lock
  changed-interval : (rows : List Row) (n : ℕ) (f : Applet → Applet) → ((x : Applet) → request (f x) ≡ request x) → interval_changes t (with_applets (with_rows t rows) (change (has_number n) f t.applets)) ≡ false
  changed-interval rows n f same = kept-interval t _ (ap least_of (keys-change request nobody f same (has_number n) t.applets))

  pub entry-interval : (n : ℕ) (rows : List Row) → interval_changes t (with_applets (with_rows t rows) (change (has_number n) with_one_more t.applets)) ≡ false
  entry-interval n rows = changed-interval rows n with_one_more (λ x. refl)

  pub register-interval : (n : ℕ) (k : Kind) (b : Bool) → interval_changes t (register t n k b) ≡ false
  unfolding register with_registration
  register-interval n (Event e) b = go (e == call_control)
    where
      go : (c : Bool) → interval_changes t (if c then with_control t (if b then n else forget n t.control) else with_applets t (change (has_number n) (with_event e b) t.applets)) ≡ false
      go true = kept-interval t _ refl
      go false = changed-interval t.rows n (with_event e b) (λ x. refl)
  register-interval n Issuer b = kept-interval t t refl
  register-interval n Reserved b = kept-interval t t refl
  register-interval n Unsupported b = kept-interval t t refl
