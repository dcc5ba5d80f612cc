-- Calls that leave the shown events: an install, a new entry, a request for polling, a one-shot used up, call control, rows and timers.
-- Assumes nothing.
use Prim.Native.Nat.{ℕ, zero, suc}
use native.Mathlib.Omega.{arith}
use mathlib.Core.Path.{◌≡◌, refl, sym, ap, ◌∙◌}
use mathlib.Core.Bool.{Bool, false, ◌||◌}
use mathlib.Core.List.{List, [], ◌∷◌, ◌++◌}
use lib.ListN.{get_or, replicate}
use lib.Seq.{get_or-set_other}
use Rattle.lists.specs.Lists.{some?, change}
use Rattle.lists.proofs.Changes.{some-change}
use Rattle.rules.specs.declared.Request.{Request}
use Rattle.rules.specs.Holds.{Applet, Row, Tables, with_applets, with_rows, with_control, with_timers, with_event, with_one_more, with_poll}
use Rattle.rules.specs.Events.{handler_available}
use Rattle.rules.specs.Applets.{has_number, newcomer, registered, with_registration}
use Rattle.rules.specs.Commands.{listened}
use Rattle.rules.specs.Desk.{events_change}
use Rattle.events_shown.specs.Turns.{listens}
use Rattle.events_shown.proofs.Shown.{events-same, listened-is}

-- INSTALL: one more applet, registered for nothing, that no row names
some-snoc : {A : Type 0} (p : A → Bool) (l : List A) (x : A) → p x ≡ false → some? p (l ++ x ∷ []) ≡ some? p l
unfolding some?
some-snoc p [] x h = rw h refl
some-snoc p (y ∷ l) x h = ap (λ (b : Bool). p y || b) (some-snoc p l x h)

get_or-blank : (k e : ℕ) → get_or (replicate k false) e false ≡ false
get_or-blank zero e = refl
get_or-blank (suc k) zero = refl
get_or-blank (suc k) (suc e) = get_or-blank k e

module _ (t : Tables) (n : ℕ) (r : Request) where
  abbrev grown : Tables
  grown = with_applets t (t.applets ++ newcomer n r ∷ [])

  deaf : (e : ℕ) → listens e (newcomer n r) ≡ false
  unfolding newcomer
  deaf e = get_or-blank 20 e

  pub install-events : events_change t grown ≡ false
  install-events = events-same t grown (λ e h k. listened-is grown e h ∙ some-snoc _ t.applets (newcomer n r) (deaf e) ∙ sym (listened-is t e h))

-- A ONE-SHOT USED UP: its event is no download
pub one-shot-events : (t : Tables) (n : ℕ) → events_change t (with_registration t n handler_available false) ≡ false
unfolding with_registration
one-shot-events t n =
    events-same t spent
    (λ e h k. listened-is spent e h ∙ some-change _ (has_number n) (with_event handler_available false) (λ x. hears e x (λ z. absurd (omega arith))) t.applets ∙ sym (listened-is t e h))
  where
    spent : Tables
    spent = with_applets t (change (has_number n) (with_event handler_available false) t.applets)

    hears : (e : ℕ) (x : Applet) → (e ≡ handler_available → ⊥) → listens e (with_event handler_available false x) ≡ listens e x
    hears e x h = rw (get_or-set_other x.events handler_available e false false h) refl

-- CALL CONTROL, ROWS AND TIMERS are no matter of the shown events
pub control-events : (t : Tables) (o : ℕ) → events_change t (with_control t o) ≡ false
control-events t o = events-same t (with_control t o) (λ e h k. listened-is (with_control t o) e h ∙ sym (listened-is t e h))

pub rows-events : (t : Tables) (rows : List Row) → events_change t (with_rows t rows) ≡ false
rows-events t rows = events-same t (with_rows t rows) (λ e h k. unfold listened registered in refl)

pub timers-events : (t : Tables) (timers : List ℕ) → events_change t (with_timers t timers) ≡ false
timers-events t timers = events-same t (with_timers t timers) (λ e h k. unfold listened registered in refl)

-- A NEW ENTRY changes of its applet only how many entries it has made, A REQUEST only the interval that it requests
module _ (t : Tables) (n : ℕ) where
  pub entry-events : (rows : List Row) → events_change t (with_applets (with_rows t rows) (change (has_number n) with_one_more t.applets)) ≡ false
  entry-events rows =
      events-same t (with_applets (with_rows t rows) (change (has_number n) with_one_more t.applets))
      (λ e h k. unfold listened registered in some-change _ (has_number n) with_one_more (λ x. refl) t.applets)

  pub request-events : (s : ℕ) → events_change t (with_applets t (change (has_number n) (with_poll s) t.applets)) ≡ false
  request-events s =
      events-same t (with_applets t (change (has_number n) (with_poll s) t.applets))
      (λ e h k. unfold listened registered in some-change _ (has_number n) (with_poll s) (λ x. refl) t.applets)
