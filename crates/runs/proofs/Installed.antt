-- An accepted install keeps the tables sound, and there is a place for it.
-- Assumes nothing.
use Prim.Native.Nat.{ℕ, ◌+◌, ◌≤◌, ◌<◌}
use native.Mathlib.Omega.{arith}
use mathlib.Core.Path.{◌≡◌, refl, sym, ap, ◌∙◌}
use mathlib.Core.Bool.{Bool, true, false}
use mathlib.Core.List.{List, [], ◌∷◌, ◌++◌}
use lib.ListN.{length, length-append, length-take, length-replicate}
use borrow.Author.Tests.{eqb-true}
use Rattle.std.specs.Prelude.{if◌then◌else◌, ◌==◌}
use Rattle.lists.specs.Lists.{Every, some?, first, count, sum}
use Rattle.lists.proofs.Decided.{or-either}
use Rattle.lists.proofs.Every.{every-so, every_append}
use Rattle.lists.proofs.Firsts.{some-append, first-append}
use Rattle.lists.proofs.Counts.{count-append, count-missed, count-fresh}
use Rattle.lists.proofs.Sums.{sum-append, count-gather}
use Rattle.rules.specs.declared.Request.{Request}
use Rattle.rules.specs.Holds.{Applet, Tables}
use Rattle.rules.specs.Applets.{has_number, present, applet, nobody, looked_at, entries, requested, clash, newcomer}
use Rattle.rules.specs.Calls.{install}
use Rattle.rules.specs.Step.{admin_tables}
use Rattle.runs.specs.Sound.{SoundApplet, SoundRow, SoundTables, NobodyOrPresent, requests}
use Rattle.runs.proofs.Filled.{Installs}
use Rattle.runs.proofs.Looked.{absent-nobody}
use Rattle.runs.proofs.Room.{few-numbers}
use Rattle.runs.proofs.Frames.{row_moved, owner-moved}

-- Who is present afterwards, and as what.
module _ (t : Tables) (n : ℕ) (r : Request) where
  abbrev more : List Applet
  more = t.applets ++ newcomer n r ∷ []

  abbrev installed : Tables
  installed = admin_tables t (install n r)

  pub install-present : (k : ℕ) → present t k ≡ true → present installed k ≡ true
  unfolding present admin_tables
  install-present k e = some-append (has_number k) t.applets (newcomer n r ∷ []) ∙ or-either (some? (has_number k) t.applets) _ e

  pub install-applet : (k : ℕ) → present t k ≡ true → applet installed k ≡ applet t k
  unfolding present applet admin_tables
  install-applet k e = first-append (has_number k) nobody t.applets (newcomer n r ∷ []) ∙ rw e refl

  pub install-newcomer : (k : ℕ) → present t k ≡ false → applet installed k ≡ (if n == k then newcomer n r else nobody)
  unfolding present applet first newcomer admin_tables
  install-newcomer k e = first-append (has_number k) nobody t.applets (newcomer n r ∷ []) ∙ rw e refl

module _ (t : Tables) (g : SoundTables t) (n : ℕ) (r : Request) (a : Installs t n r) where
  -- a newcomer has made no entry
  none_made : (k : ℕ) → present t k ≡ false → (applet (installed t n r) k).made ≡ 0
  unfolding newcomer
  none_made k e = ap (λ (x : Applet). x.made) (install-newcomer t n r k e) ∙ go (n == k)
    where
      go : (b : Bool) → (if b then newcomer n r else nobody).made ≡ 0
      go true = refl
      go false = refl

  newcomer-sound : SoundApplet t.bounds (newcomer n r)
  unfolding newcomer looked_at
  newcomer-sound =
      record {
        number-from = a.number-from;
        number-to = a.number-to;
        priority = a.priority;
        timers = a.timers;
        entries = omega (arith, a.limit, length-take r.entries r.pairs);
        text = a.text;
        identifiers = a.identifiers;
        made = omega arith;
        events = length-replicate 20 false;
        poll = omega arith;
      }

  each : Every (SoundApplet t.bounds) (more t n r)
  unfolding Every
  each = every_append (SoundApplet t.bounds) t.applets (newcomer n r ∷ []) g.each-applet (newcomer-sound, tt)

  apart : (k : ℕ) → count (has_number k) (more t n r) ≤ 1
  unfolding count newcomer present
  apart k = rw (count-append (has_number k) t.applets (newcomer n r ∷ [])) (go (n == k) refl)
    where
      go : (b : Bool) → (n == k) ≡ b → count (has_number k) t.applets + (if b then 1 else 0) ≤ 1
      go true e = rw (← eqb-true n k e) (omega (arith, count-missed (has_number n) t.applets a.new))
      go false e = omega (arith, g.numbers_apart k)

  total-after : sum entries (more t n r) ≤ t.bounds.rows
  unfolding sum newcomer looked_at
  total-after = omega (arith, sum-append entries t.applets (newcomer n r ∷ []), a.fits, length-take r.entries r.pairs)

  requests-after : (i : ℕ) → count (λ k. k == i) (requests (installed t n r)) ≤ 1
  unfolding requests sum newcomer clash admin_tables
  requests-after i =
      let wanted : Applet → List ℕ = λ x. requested x.limits.pairs in
      let here : Applet → ℕ = λ x. count (λ k. k == i) (wanted x) in
      omega (
        arith,
        count-gather (λ k. k == i) wanted (more t n r),
        count-gather (λ k. k == i) wanted t.applets,
        sum-append here t.applets (newcomer n r ∷ []),
        count-fresh (requested (looked_at r)) (requests t) a.unlike i (g.requests-apart i),
      )

  -- what is said of each number's applet, where it is 0 for nobody
  either : (k : ℕ) (b : Bool) → present t k ≡ b → (applet t k).made ≡ (applet (installed t n r) k).made
  either k true e = ap (λ (x : Applet). x.made) (sym (install-applet t n r k e))
  either k false e = ap (λ (x : Applet). x.made) (absent-nobody t k e) ∙ sym (none_made k e)

  timers-after : (k : ℕ) → 1 ≤ k → (b : Bool) → present t k ≡ b → count (λ o. o == k) t.timers ≤ (applet (installed t n r) k).limits.timers
  timers-after k h true e = rw (install-applet t n r k e) (g.timer-limits k h)
  timers-after k h false e = omega (arith, g.timer-limits k h, ap (λ (x : Applet). x.limits.timers) (absent-nobody t k e))

  pub install-sound : SoundTables (installed t n r)
  unfolding admin_tables
  install-sound =
      record {
        few-applets = few-numbers t.bounds (more t n r) each apart;
        each-applet = each;
        numbers_apart = apart;
        total = total-after;
        room = g.room;
        requests-apart = requests-after;
        few-rows = g.few-rows;
        each_row = every-so (SoundRow t) (SoundRow (installed t n r)) (λ q s. row_moved t (installed t n r) q refl (install-present t n r q.owner) (ap (λ (x : Applet). x.limits) (install-applet t n r q.owner s.owner)) (λ e. rw (install-applet t n r q.owner s.owner) e) s) t.rows g.each_row;
        identifiers-apart = g.identifiers-apart;
        rows_made = λ k. g.rows_made k ∙ either k (present t k) refl;
        all-timers = g.all-timers;
        each-timer = every-so (NobodyOrPresent t) (NobodyOrPresent (installed t n r)) (λ o q. owner-moved t (installed t n r) o (install-present t n r o) q) t.timers g.each-timer;
        timer-limits = λ k h. timers-after k h (present t k) refl;
        control = owner-moved t (installed t n r) t.control (install-present t n r t.control) g.control;
      }

  -- there were fewer applets than the card holds
  pub install-room : length t.applets < t.bounds.applets
  install-room = omega (arith, few-numbers t.bounds (more t n r) each apart, length-append t.applets (newcomer n r ∷ []))
