-- Calls that leave the tables sound because they leave alone what matters: applets that keep numbers, limits and entries made, rows
-- that keep identifiers and owners; the timers and call control by themselves.
-- Assumes nothing.
use Prim.Native.Nat.{ℕ, ◌+◌, ◌≤◌, ◌<◌}
use native.Mathlib.Omega.{arith}
use mathlib.Core.Path.{◌≡◌, refl, sym, ap, ◌∙◌}
use mathlib.Core.Bool.{Bool, true, false}
use mathlib.Core.Logic.{inl, inr}
use mathlib.Core.List.{List}
use lib.ListN.{length, set, length-set}
use borrow.Author.Tests.{eqb-true}
use Rattle.std.specs.Prelude.{if◌then◌else◌, ◌==◌}
use Rattle.lists.specs.Lists.{Every, count, sum, in?}
use Rattle.lists.proofs.Every.{every-so, every_set}
use Rattle.lists.proofs.Counts.{count_set}
use Rattle.lists.proofs.Matched.{Matched, matched-every, matched-sum, matched-gather, matched-count, matched-some, matched-first, matched-length, matched-so}
use Rattle.rules.specs.Holds.{Applet, Row, Limits, Tables, with_applets, with_rows, with_timers, with_control}
use Rattle.rules.specs.Applets.{has_number, present, applet, nobody, entries, requested, forget, longest_poll}
use Rattle.rules.specs.Rows.{has_identifier}
use Rattle.runs.specs.Sound.{SoundApplet, SoundRow, SoundTables, NobodyOrPresent, served, requests}
use Rattle.runs.proofs.Looked.{sound-applet}

-- an owner, and a row, seen from other tables in which the owner is present still, has its limits, and was served no less
pub owner-moved : (t u : Tables) (o : ℕ) → (present t o ≡ true → present u o ≡ true) → NobodyOrPresent t o → NobodyOrPresent u o
owner-moved t u o f (inl z) = inl z
owner-moved t u o f (inr e) = inr (f e)

-- what was n's is nobody's
pub forgotten : (t u : Tables) (n o : ℕ) → ((o == n) ≡ false → present t o ≡ true → present u o ≡ true) → NobodyOrPresent t o → NobodyOrPresent u (forget n o)
forgotten t u n o f h = go (o == n) refl
  where
    go : (b : Bool) → (o == n) ≡ b → NobodyOrPresent u (if b then 0 else o)
    go true e = inl refl
    go false e = owner-moved t u o (f e) h

pub row_moved : (t u : Tables) (r : Row) → u.bounds ≡ t.bounds → (present t r.owner ≡ true → present u r.owner ≡ true) → (applet u r.owner).limits ≡ (applet t r.owner).limits
    → (in? r.identifier (served (applet t r.owner)) ≡ true → in? r.identifier (served (applet u r.owner)) ≡ true) → SoundRow t r → SoundRow u r
row_moved t u r b f l g q =
    record {
      owner = f q.owner;
      identifier-from = q.identifier-from;
      identifier-to = q.identifier-to;
      served = λ h. g (q.served h);
      text-from = q.text-from;
      text-to = rw b q.text-to;
      text-limit = rw l q.text-limit;
    }

-- two applets with the same number and limits
pub record SameLimits (x y : Applet) : Type 0 where
  pub number : y.number ≡ x.number
  pub limits : y.limits ≡ x.limits

module _ (t : Tables) (l : List Applet) (match : Matched SameLimits t.applets l) where
  numbered : (n : ℕ) (x y : Applet) → SameLimits x y → has_number n y ≡ has_number n x
  numbered n x y q = ap (λ (k : ℕ). k == n) q.number

  pub present-still : (n : ℕ) → present (with_applets t l) n ≡ present t n
  unfolding present
  present-still n = matched-some SameLimits (has_number n) (numbered n) t.applets l match

  pub limits-still : (n : ℕ) → SameLimits (applet t n) (applet (with_applets t l) n)
  unfolding applet
  limits-still n = matched-first SameLimits (has_number n) (numbered n) nobody (record { number = refl; limits = refl }) t.applets l match

  pub numbers-still : (n : ℕ) → count (has_number n) l ≡ count (has_number n) t.applets
  numbers-still n = matched-count SameLimits (has_number n) (numbered n) t.applets l match

  pub total-still : sum entries l ≡ sum entries t.applets
  total-still = matched-sum SameLimits entries (λ x y q. ap (λ (z : Limits). length z.pairs) q.limits) t.applets l match

  pub requests-still : requests (with_applets t l) ≡ requests t
  unfolding requests
  requests-still =
      matched-gather SameLimits (λ (x : Applet). requested x.limits.pairs) (λ x y q. ap (λ (z : Limits). requested z.pairs) q.limits) t.applets l match

-- and with the same priority and entries made besides, as many places for events, and a request that stays in its range
pub record SameApplet (x y : Applet) : Type 0 where
  pub number : y.number ≡ x.number
  pub priority : y.priority ≡ x.priority
  pub limits : y.limits ≡ x.limits
  pub made : y.made ≡ x.made
  pub events : length y.events ≡ length x.events
  pub poll : x.poll ≤ longest_poll → y.poll ≤ longest_poll

pub same_self : (x : Applet) → SameApplet x x
same_self x = record { number = refl; priority = refl; limits = refl; made = refl; events = refl; poll = λ h. h }

module _ (t : Tables) (l : List Applet) (match : Matched SameApplet t.applets l) (g : SoundTables t) where
  abbrev changed : Tables
  changed = with_applets t l

  as-limits : Matched SameLimits t.applets l
  as-limits = matched-so SameApplet SameLimits (λ x y q. record { number = q.number; limits = q.limits }) t.applets l match

  applet-still : (n : ℕ) → SameApplet (applet t n) (applet changed n)
  unfolding applet
  applet-still n = matched-first SameApplet (has_number n) (λ x y q. ap (λ (k : ℕ). k == n) q.number) nobody (same_self nobody) t.applets l match

  sound-still : (x y : Applet) → SameApplet x y → SoundApplet t.bounds x → SoundApplet t.bounds y
  sound-still x y q s =
      record {
        number-from = rw q.number s.number-from;
        number-to = rw q.number s.number-to;
        priority = rw q.priority s.priority;
        timers = rw q.limits s.timers;
        entries = rw q.limits s.entries;
        text = rw q.limits s.text;
        identifiers = rw q.limits s.identifiers;
        made = rw (q.limits, q.made) s.made;
        events = q.events ∙ s.events;
        poll = q.poll s.poll;
      }

  served-still : (n : ℕ) → served (applet changed n) ≡ served (applet t n)
  unfolding served
  served-still n = rw ((applet-still n).limits, (applet-still n).made) refl

  pub applets-frame : SoundTables changed
  applets-frame =
      record {
        few-applets = rw (matched-length SameApplet t.applets l match) g.few-applets;
        each-applet = matched-every SameApplet (SoundApplet t.bounds) (SoundApplet t.bounds) sound-still t.applets l match g.each-applet;
        numbers_apart = λ n. rw (numbers-still t l as-limits n) (g.numbers_apart n);
        total = rw (total-still t l as-limits) g.total;
        room = g.room;
        requests-apart = λ i. rw (requests-still t l as-limits) (g.requests-apart i);
        few-rows = g.few-rows;
        each_row = every-so (SoundRow t) (SoundRow changed) (λ r q. row_moved t changed r refl (λ e. present-still t l as-limits r.owner ∙ e) (applet-still r.owner).limits (λ e. rw (served-still r.owner) e) q) t.rows g.each_row;
        identifiers-apart = g.identifiers-apart;
        rows_made = λ n. g.rows_made n ∙ sym (applet-still n).made;
        all-timers = g.all-timers;
        each-timer = every-so (NobodyOrPresent t) (NobodyOrPresent changed) (λ o q. owner-moved t changed o (λ e. present-still t l as-limits o ∙ e) q) t.timers g.each-timer;
        timer-limits = λ n h. rw (applet-still n).limits (g.timer-limits n h);
        control = owner-moved t changed t.control (λ e. present-still t l as-limits t.control ∙ e) g.control;
      }

-- two rows with the same identifier and owner, the second with a text that is not empty and within a limit if the first has one
pub record SameRow (limit : ℕ → ℕ) (r q : Row) : Type 0 where
  pub identifier : q.identifier ≡ r.identifier
  pub owner : q.owner ≡ r.owner
  pub text-from : 1 ≤ length r.text → 1 ≤ length q.text
  pub text-limit : length r.text ≤ limit r.owner → length q.text ≤ limit r.owner

pub same_row : (limit : ℕ → ℕ) (r : Row) → SameRow limit r r
same_row limit r = record { identifier = refl; owner = refl; text-from = λ h. h; text-limit = λ h. h }

-- an applet's limit for texts
abbrev pub text_limit : Tables → (owner : ℕ) → ℕ
text_limit t o = (applet t o).limits.text

module _ (t : Tables) (l : List Row) (match : Matched (SameRow (text_limit t)) t.rows l) (g : SoundTables t) where
  row-still : (r q : Row) → SameRow (text_limit t) r q → SoundRow t r → SoundRow (with_rows t l) q
  unfolding present applet
  row-still r q z s =
      let within : length q.text ≤ text_limit t r.owner = z.text-limit s.text-limit in
      record {
        owner = rw z.owner s.owner;
        identifier-from = rw z.identifier s.identifier-from;
        identifier-to = rw z.identifier s.identifier-to;
        served = λ h. rw (z.owner, z.identifier) (s.served (rw z.identifier at h));
        text-from = z.text-from s.text-from;
        text-to = omega (arith, within, (sound-applet t g r.owner s.owner).text);
        text-limit = rw z.owner within;
      }

  pub rows_frame : SoundTables (with_rows t l)
  unfolding present applet requests
  rows_frame =
      record {
        few-applets = g.few-applets;
        each-applet = g.each-applet;
        numbers_apart = g.numbers_apart;
        total = g.total;
        room = g.room;
        requests-apart = g.requests-apart;
        few-rows = rw (matched-length (SameRow (text_limit t)) t.rows l match) g.few-rows;
        each_row = matched-every (SameRow (text_limit t)) (SoundRow t) (SoundRow (with_rows t l)) row-still t.rows l match g.each_row;
        identifiers-apart = λ i. rw (matched-count (SameRow (text_limit t)) (has_identifier i) (λ r q z. ap (λ (k : ℕ). k == i) z.identifier) t.rows l match) (g.identifiers-apart i);
        rows_made = λ n. matched-count (SameRow (text_limit t)) (λ (r : Row). r.owner == n) (λ r q z. ap (λ (k : ℕ). k == n) z.owner) t.rows l match ∙ g.rows_made n;
        all-timers = g.all-timers;
        each-timer = g.each-timer;
        timer-limits = g.timer-limits;
        control = g.control;
      }

-- other owners of the timers and of call control
owners-frame : (t : Tables) (l : List ℕ) (o : ℕ) → length l ≡ length t.timers → Every (NobodyOrPresent t) l → ((n : ℕ) → 1 ≤ n → count (λ k. k == n) l ≤ (applet t n).limits.timers)
    → NobodyOrPresent t o → SoundTables t → SoundTables (with_control (with_timers t l) o)
unfolding present applet requests
owners-frame t l o long each limits owner g =
    record {
      few-applets = g.few-applets;
      each-applet = g.each-applet;
      numbers_apart = g.numbers_apart;
      total = g.total;
      room = g.room;
      requests-apart = g.requests-apart;
      few-rows = g.few-rows;
      each_row = every-so (SoundRow t) (SoundRow (with_control (with_timers t l) o)) (λ r q. row_moved t (with_control (with_timers t l) o) r refl (λ e. e) refl (λ e. e) q) t.rows g.each_row;
      identifiers-apart = g.identifiers-apart;
      rows_made = g.rows_made;
      all-timers = long ∙ g.all-timers;
      each-timer = each;
      timer-limits = limits;
      control = owner;
    }

pub control-frame : (t : Tables) (o : ℕ) → NobodyOrPresent t o → SoundTables t → SoundTables (with_control t o)
control-frame t o owner g = owners-frame t t.timers o refl g.each-timer g.timer-limits owner g

-- one timer gets another owner, who held fewer than its limit
pub timer-frame : (t : Tables) (i o : ℕ) → NobodyOrPresent t o → (1 ≤ o → count (λ k. k == o) t.timers < (applet t o).limits.timers) → SoundTables t → SoundTables (with_timers t (set t.timers i o))
timer-frame t i o owner under g =
    owners-frame t (set t.timers i o) t.control (length-set t.timers i o) (every_set (NobodyOrPresent t) t.timers i o owner g.each-timer) (λ n h. limit n h (o == n) refl (count_set (λ k. k == n) t.timers i o)) g.control g
  where
    limit : (n : ℕ) → 1 ≤ n → (b : Bool) → (o == n) ≡ b → count (λ k. k == n) (set t.timers i o) ≤ count (λ k. k == n) t.timers + (if b then 1 else 0)
        → count (λ k. k == n) (set t.timers i o) ≤ (applet t n).limits.timers
    limit n h true e q =
        let z : o ≡ n = eqb-true o n e in
        let u : count (λ k. k == n) t.timers < (applet t n).limits.timers = rw z at (under (omega arith)) in
        omega arith
    limit n h false e q = omega (arith, g.timer-limits n h)
