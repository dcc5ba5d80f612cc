-- A delete keeps the tables sound.
-- Assumes nothing.
use Prim.Native.Nat.{ℕ, ◌≤◌}
use native.Mathlib.Omega.{arith}
use mathlib.Core.Path.{◌≡◌, refl, sym, ap, ◌∙◌}
use mathlib.Core.Bool.{Bool, true, false, not, ◌&&◌, and-false, not-and_self}
use mathlib.Core.List.{List}
use lib.ListN.{length-map}
use borrow.Author.Tests.{eqb-true, eq-eqb, ne_eqb, not-true}
use Rattle.std.specs.Prelude.{if◌then◌else◌, ◌==◌}
use Rattle.lists.specs.Lists.{count, keep}
use Rattle.lists.proofs.Decided.{clashing, turned, one_only}
use Rattle.lists.proofs.Every.{every-so, every-keep, every_map}
use Rattle.lists.proofs.Firsts.{some-keep, first-keep, some-gone}
use Rattle.lists.proofs.Keep.{length-keep}
use Rattle.lists.proofs.Counts.{count-keep, count_kept, count_map, count_none, count-alike, count-within}
use Rattle.lists.proofs.Sums.{sum-keep, count-gather}
use Rattle.rules.specs.Holds.{Applet, Row, Tables}
use Rattle.rules.specs.Applets.{has_number, present, applet, nobody, entries, requested, forget}
use Rattle.rules.specs.Rows.{has_identifier, without_rows}
use Rattle.rules.specs.Timers.{without_timers}
use Rattle.rules.specs.Calls.{delete}
use Rattle.rules.specs.Step.{admin_tables}
use Rattle.runs.specs.Sound.{SoundApplet, SoundRow, SoundTables, NobodyOrPresent, requests}
use Rattle.runs.proofs.Looked.{absent-nobody}
use Rattle.runs.proofs.Frames.{row_moved, forgotten}

-- Who is present afterwards, and as what.
module _ (t : Tables) (n : ℕ) where
  abbrev others : Applet → Bool
  others x = not (has_number n x)

  abbrev left : Tables
  left = admin_tables t (delete n)

  stays : (k : ℕ) → (n == k) ≡ false → (x : Applet) → has_number k x ≡ true → others x ≡ true
  stays k e x h = ap not (one_only x.number k n h (turned k n ∙ e))

  pub delete-present : (k : ℕ) → (n == k) ≡ false → present left k ≡ present t k
  unfolding present admin_tables
  delete-present k e = some-keep (has_number k) others (stays k e) t.applets

  pub delete-applet : (k : ℕ) → (n == k) ≡ false → applet left k ≡ applet t k
  unfolding applet admin_tables
  delete-applet k e = first-keep (has_number k) others (stays k e) nobody t.applets

  pub delete-absent : present left n ≡ false
  unfolding present admin_tables
  delete-absent = some-gone (has_number n) others (λ x h. not-true (has_number n x) h) t.applets

module _ (t : Tables) (g : SoundTables t) (n : ℕ) where
  requests-left : (i : ℕ) → count (λ k. k == i) (requests (left t n)) ≤ 1
  unfolding requests admin_tables
  requests-left i =
      let wanted : Applet → List ℕ = λ x. requested x.limits.pairs in
      omega (
        arith,
        count-gather (λ k. k == i) wanted (keep (others t n) t.applets),
        count-gather (λ k. k == i) wanted t.applets,
        sum-keep (λ x. count (λ k. k == i) (wanted x)) (others t n) t.applets,
        g.requests-apart i,
      )

  -- a row of another
  row-left : (r : Row) → SoundRow t r × (not (r.owner == n) ≡ true) → SoundRow (left t n) r
  unfolding admin_tables
  row-left r q =
      let e : (n == r.owner) ≡ false = turned n r.owner ∙ not-true (r.owner == n) q.1 in
      row_moved t (left t n) r refl (λ h. delete-present t n r.owner e ∙ h) (ap (λ (x : Applet). x.limits) (delete-applet t n r.owner e)) (λ h. rw (delete-applet t n r.owner e) h) q.0

  made-left : (k : ℕ) (b : Bool) → (n == k) ≡ b → count (λ (r : Row). r.owner == k) (without_rows n t.rows) ≡ (applet (left t n) k).made
  unfolding without_rows
  made-left k true e =
      rw (← eqb-true n k e) (
      count-keep (λ (r : Row). r.owner == n) (λ (r : Row). not (r.owner == n)) t.rows
      ∙ count_none _ (λ r. not-and_self (r.owner == n)) t.rows
      ∙ ap (λ (x : Applet). x.made) (sym (absent-nobody (left t n) n (delete-absent t n)))
      )
  made-left k false e =
      count-keep (λ (r : Row). r.owner == k) (λ (r : Row). not (r.owner == n)) t.rows
      ∙ count-alike _ (λ (r : Row). r.owner == k) (λ r. same_count r.owner (r.owner == k) refl) t.rows
      ∙ g.rows_made k
      ∙ ap (λ (x : Applet). x.made) (sym (delete-applet t n k e))
    where
      same_count : (o : ℕ) (b : Bool) → (o == k) ≡ b → (not (o == n) && (o == k)) ≡ (o == k)
      same_count o true h = rw (one_only o k n h (turned k n ∙ e)) refl
      same_count o false h = rw h (and-false (not (o == n)))

  -- an owner that was forgotten is nobody; another is present still
  owner-left : (o : ℕ) → NobodyOrPresent t o → NobodyOrPresent (left t n) (forget n o)
  owner-left o h = forgotten t (left t n) n o (λ e q. delete-present t n o (turned n o ∙ e) ∙ q) h

  timers-left : (k : ℕ) → 1 ≤ k → count (λ o. o == k) (without_timers n t.timers) ≤ (applet (left t n) k).limits.timers
  unfolding without_timers
  timers-left k h = rw (count_map (λ o. o == k) (forget n) t.timers) (go (n == k) refl)
    where
      freed : (o : ℕ) (b : Bool) → (o == n) ≡ b → ((if b then 0 else o) == k) ≡ true → (o == k) ≡ true
      freed o true q z = absurd (omega (arith, eqb-true 0 k z))
      freed o false q z = z

      never : (o : ℕ) (b : Bool) → (o == n) ≡ b → (n == k) ≡ true → ((if b then 0 else o) == k) ≡ false
      never o true q z = ne_eqb 0 k (λ y. omega arith)
      never o false q z = ne_eqb o k (λ y. clashing (eq-eqb o n (y ∙ sym (eqb-true n k z))) q)

      go : (b : Bool) → (n == k) ≡ b → count (λ o. forget n o == k) t.timers ≤ (applet (left t n) k).limits.timers
      go true e = omega (arith, count_none (λ o. forget n o == k) (λ o. never o (o == n) refl e) t.timers)
      go false e = rw (delete-applet t n k e) (omega (arith, g.timer-limits k h, count-within (λ o. forget n o == k) (λ o. o == k) (λ o q. freed o (o == n) refl q) t.timers))

  pub delete-sound : SoundTables (left t n)
  unfolding admin_tables without_rows without_timers
  delete-sound =
      record {
        few-applets = omega (arith, length-keep (others t n) t.applets, g.few-applets);
        each-applet = every-so _ (SoundApplet t.bounds) (λ x q. q.0) (keep (others t n) t.applets) (every-keep (SoundApplet t.bounds) (others t n) t.applets g.each-applet);
        numbers_apart = λ k. omega (arith, count_kept (has_number k) (others t n) t.applets, g.numbers_apart k);
        total = omega (arith, sum-keep entries (others t n) t.applets, g.total);
        room = g.room;
        requests-apart = requests-left;
        few-rows = omega (arith, length-keep (λ (r : Row). not (r.owner == n)) t.rows, g.few-rows);
        each_row = every-so _ (SoundRow (left t n)) row-left (without_rows n t.rows) (every-keep (SoundRow t) (λ (r : Row). not (r.owner == n)) t.rows g.each_row);
        identifiers-apart = λ i. omega (arith, count_kept (has_identifier i) (λ (r : Row). not (r.owner == n)) t.rows, g.identifiers-apart i);
        rows_made = λ k. made-left k (n == k) refl;
        all-timers = length-map t.timers (forget n) ∙ g.all-timers;
        each-timer = every_map (NobodyOrPresent (left t n)) (forget n) t.timers (every-so (NobodyOrPresent t) (λ o. NobodyOrPresent (left t n) (forget n o)) owner-left t.timers g.each-timer);
        timer-limits = timers-left;
        control = owner-left t.control g.control;
      }
