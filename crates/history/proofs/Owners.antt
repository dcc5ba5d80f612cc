-- Timers: each one's owner is the applet that the history names.
-- Assumes nothing.
use Prim.Native.Nat.{ℕ, zero, suc, ◌-◌, ◌≤◌, ◌<◌}
use native.Mathlib.Omega.{arith}
use mathlib.Core.Path.{◌≡◌, refl, sym, ap, ◌∙◌}
use mathlib.Core.Bool.{Bool, true, false, ◌&&◌, ◌||◌}
use mathlib.Core.Logic.{inl, inr}
use mathlib.Core.List.{List, map}
use native.Mathlib.Numerals.{sub-one}
use lib.Dec.{eqb-suc-suc, eqb-suc-zero}
use lib.ListN.{length, get_or, set, get_or-map}
use borrow.Author.Tests.{eqb-true, ne_eqb, le-leb}
use Rattle.std.specs.Prelude.{if◌then◌else◌, ◌==◌}
use Rattle.lists.specs.Lists.{leading}
use Rattle.lists.proofs.Decided.{clashing}
use Rattle.lists.proofs.Every.{every-get_or}
use Rattle.lists.proofs.Firsts.{leading-ends}
use Rattle.lists.proofs.Places.{get_d_set, get_or-clear}
use Rattle.lists.proofs.Times.{if-same}
use Rattle.rules.specs.Holds.{Bounds, Tables, document}
use Rattle.rules.specs.Applets.{forget}
use Rattle.rules.specs.Timers.{is_owner, lowest_free, owner_of, with_allocated, with_released, without_timers}
use Rattle.rules.specs.Calls.{admin, event, entry, timer, arrival, next, proactive, system_command, install, delete, lock, unlock, new_entry, change_entry, enable_entry, disable_entry, allocate, release}
use Rattle.rules.specs.Step.{admin_tables, event_tables, entry_tables, timer_tables, tables_after, timer_answer, answer}
use Rattle.runs.specs.Sound.{SoundTables, NobodyOrPresent}
use Rattle.runs.proofs.Filled.{allocates}
use Rattle.runs.proofs.Filled as filled
use Rattle.runs.proofs.Looked.{number-from, number-to}
use Rattle.history.specs.Named.{owns_timer}
use Rattle.history.proofs.Open.{reading}
use Rattle.history.proofs.Agree.{Kept}
use Rattle.history.proofs.Applets.{event-timers, turn-timers}
use Rattle.history.proofs.Calling.{timer-owner}
use Rattle.history.proofs.Registered.{forgotten}

module _ (t : Tables) (b : t.bounds ≡ document) (s : SoundTables t) where
  -- who owns something has such a number, or is nobody
  pub within : (o : ℕ) → NobodyOrPresent t o → o ≤ 8
  within o (inl e) = omega arith
  within o (inr e) = omega (arith, number-to t s o e, ap (λ (z : Bounds). z.applets) b)

  pub timer-within : (k : ℕ) → owner_of t.timers k ≤ 8
  timer-within k = within _ (timer-owner t s k)

  -- a number that is no owner's is nobody's
  free : (o : ℕ) → NobodyOrPresent t o → is_owner o ≡ false → o ≡ 0
  unfolding is_owner
  free o (inl e) h = e
  free o (inr e) h = clashing (rw (le-leb 1 o (number-from t s o e), le-leb o 8 (within o (inr e))) refl) h

  -- the lowest free timer is nobody's
  unowned : leading is_owner t.timers < length t.timers → get_or t.timers (leading is_owner t.timers) 0 ≡ 0
  unowned h =
      free _
      (every-get_or (NobodyOrPresent t) 0 (inl refl) t.timers (leading is_owner t.timers) s.each-timer)
      (leading-ends is_owner 0 t.timers h)

-- the owner of a timer after one was given, or released, or freed with its applet
at_suc : (l : List ℕ) (k : ℕ) → owner_of l (suc k) ≡ get_or l k 0
unfolding owner_of
at_suc l k = rw (eqb-suc-zero k, sub-one (suc k)) refl

given : (l : List ℕ) (r k n : ℕ) → r < length l → owner_of (set l (suc r - 1) n) k ≡ (if suc r == k then n else owner_of l k)
unfolding owner_of
given l r zero n h = rw (eqb-suc-zero r) refl
given l r (suc k) n h = at_suc (set l (suc r - 1) n) k ∙ rw (sub-one (suc r), eqb-suc-suc r k, at_suc l k) (get_d_set 0 l r k n h)

released : (l : List ℕ) (r k : ℕ) → owner_of (set l (suc r - 1) 0) k ≡ (if suc r == k then 0 else owner_of l k)
unfolding owner_of
released l r zero = rw (eqb-suc-zero r) refl
released l r (suc k) = at_suc (set l (suc r - 1) 0) k ∙ rw (sub-one (suc r), eqb-suc-suc r k, at_suc l k) (get_or-clear 0 l r k)

freed : (l : List ℕ) (b k : ℕ) → owner_of (map (forget b) l) k ≡ forget b (owner_of l k)
unfolding owner_of
freed l b zero = sym (if-same (0 == b) 0)
freed l b (suc k) =
    at_suc (map (forget b) l) k
    ∙ ap (λ (z : ℕ). get_or (map (forget b) l) k z) (sym (if-same (0 == b) 0))
    ∙ get_or-map (forget b) l k 0
    ∙ ap (forget b) (sym (at_suc l k))

-- a timer that is released is one of the eight
timer-there : (l : List ℕ) (b k : ℕ) → 1 ≤ b → (owner_of l k == b) ≡ true → 1 ≤ k
unfolding owner_of
timer-there l b zero h e = absurd (omega (arith, eqb-true 0 b e))
timer-there l b (suc k) h e = omega arith

pub timers-kept : Kept (λ t h. (k n : ℕ) → 1 ≤ n → (owner_of t.timers k == n) ≡ owns_timer k n h)
unfolding tables_after admin_tables event_tables entry_tables timer_tables with_allocated with_released without_timers lowest_free timer_answer answer owns_timer reading
timers-kept m h (admin (install b r)) ok s g k n o = g.timers k n o
timers-kept m h (admin (delete b)) ok s g k n o =
    ap (λ (z : ℕ). z == n) (freed m.tables.timers b k)
    ∙ forgotten (owner_of m.tables.timers k) b n o
    ∙ ap (λ (z : Bool). if b == n then false else z) (g.timers k n o)
timers-kept m h (admin (lock b)) ok s g k n o = g.timers k n o
timers-kept m h (admin (unlock b)) ok s g k n o = g.timers k n o
timers-kept m h (event c) ok s g k n o = ap (λ (l : List ℕ). owner_of l k == n) (event-timers m.tables c) ∙ g.timers k n o
timers-kept m h (entry (new_entry b help text)) ok s g k n o = g.timers k n o
timers-kept m h (entry (change_entry b i help text)) ok s g k n o = g.timers k n o
timers-kept m h (entry (enable_entry b i)) ok s g k n o = g.timers k n o
timers-kept m h (entry (disable_entry b i)) ok s g k n o = g.timers k n o
timers-kept m h (timer (allocate b)) ok s g k n o =
    ap (λ (z : ℕ). z == n) (given m.tables.timers lowest k b some-free)
    ∙ go (suc lowest == k) (b == n) refl refl
  where
    lowest : ℕ
    lowest = leading is_owner m.tables.timers

    some-free : lowest < length m.tables.timers
    some-free = (allocates m b ok).free

    go : (x y : Bool) → (suc lowest == k) ≡ x → (b == n) ≡ y
        → ((if x then b else owner_of m.tables.timers k) == n) ≡ (if y && x then true else owns_timer k n h)
    go true true p q = q
    go true false p q =
        q
        ∙ sym (ne_eqb 0 n (λ z. absurd (omega arith)))
        ∙ ap (λ (z : ℕ). z == n) (sym (at_suc m.tables.timers lowest ∙ unowned m.tables s.bounds s.sound.tables some-free) ∙ ap (owner_of m.tables.timers) (eqb-true (suc lowest) k p))
        ∙ g.timers k n o
    go false true p q = g.timers k n o
    go false false p q = g.timers k n o
timers-kept m h (timer (release b zero)) ok s g k n o = absurd (omega (arith, timer-there m.tables.timers b zero (number-from m.tables s.sound.tables b (filled.releases m b zero ok).here) (filled.releases m b zero ok).its))
timers-kept m h (timer (release b (suc j))) ok s g k n o =
    ap (λ (z : ℕ). z == n) (released m.tables.timers j k)
    ∙ go (suc j == k)
  where
    go : (x : Bool) → ((if x then 0 else owner_of m.tables.timers k) == n) ≡ (if x || false then false else owns_timer k n h)
    go true = ne_eqb 0 n (λ z. absurd (omega arith))
    go false = g.timers k n o
timers-kept m h (arrival c) ok s g k n o = g.timers k n o
timers-kept m h next ok s g k n o = ap (λ (l : List ℕ). owner_of l k == n) (turn-timers m.tables m.round) ∙ g.timers k n o
timers-kept m h (proactive c) ok s g k n o = g.timers k n o
timers-kept m h (system_command buffer) ok s g k n o = g.timers k n o
