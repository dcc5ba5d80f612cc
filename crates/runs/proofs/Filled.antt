-- What acceptance says of the calls that fill or change a table, one record a call.
-- Assumes nothing.
use Prim.Native.Nat.{ℕ, ◌+◌, ◌≤◌, ◌<◌, min}
use native.Mathlib.Omega.{arith}
use mathlib.Core.Path.{◌≡◌}
use mathlib.Core.Bool.{Bool, true, false, not}
use mathlib.Core.List.{List}
use lib.ListN.{length}
use borrow.Author.Tests.{eqb-false, ltb-false, leb-true, leb-false, not-false}
use Rattle.lists.specs.Tests.{◌<?◌, ◌≤?◌}
use Rattle.std.specs.Prelude.{◌==◌}
use Rattle.lists.specs.Lists.{Every, some?, count, sum}
use Rattle.lists.proofs.Decided.{neither, both}
use Rattle.lists.proofs.Every.{every-so, every-fails}
use Rattle.rules.specs.declared.Pair.{Pair}
use Rattle.rules.specs.declared.Request.{Request}
use Rattle.rules.specs.Holds.{Applet, Row, Bounds, Tables, Model}
use Rattle.rules.specs.Applets.{is_number, present, applet, looked_at, out_of_range, entries, too_many, clash}
use Rattle.rules.specs.Rows.{all_made, bad_text, its_row, not_its_row}
use Rattle.rules.specs.Timers.{lowest_free, at_limit, none_free, owner_of, not_its_timer}
use Rattle.rules.specs.Calls.{admin, entry, timer, install, new_entry, change_entry, allocate, release}
use Rattle.rules.specs.Refusals.{absent, lines, admin_lines, entry_lines, timer_lines, refusal}
use Rattle.runs.proofs.Accepted.{accepted}

-- a call that names an applet finds it
pub is-here : (t : Tables) (n : ℕ) → absent t n ≡ false → present t n ≡ true
unfolding absent
is-here t n e = not-false (present t n) (neither (not (is_number t.bounds n)) (not (present t n)) e).1

-- .. and its row
pub is-its : (rows : List Row) (n i : ℕ) → not_its_row n i rows ≡ false → some? (its_row n i) rows ≡ true
unfolding not_its_row
is-its rows n i e = not-false (some? (its_row n i) rows) e

-- install
pub record Installs (t : Tables) (n : ℕ) (r : Request) : Type 0 where
  pub number-from : 1 ≤ n
  pub number-to : n ≤ t.bounds.applets
  pub new : present t n ≡ false
  pub priority : 1 ≤ r.priority
  pub timers : r.timers ≤ t.bounds.timers
  pub limit : r.entries ≤ t.bounds.entries
  pub text : r.text ≤ t.bounds.text
  pub identifiers : Every (λ (p : Pair). p.identifier ≤ 127) (looked_at r)
  pub fits : sum entries t.applets + r.entries ≤ t.bounds.rows
  pub unlike : clash t r ≡ false

in-range : (b : Bounds) (r : Request) → out_of_range b r ≡ false
    → ((r.priority == 0) ≡ false) × ((b.timers <? r.timers) ≡ false) × ((b.entries <? r.entries) ≡ false) × ((b.text <? r.text) ≡ false) × (some? (λ (p : Pair). 127 <? p.identifier) (looked_at r) ≡ false)
unfolding out_of_range
in-range b r e =
    let a = neither _ (some? (λ (p : Pair). 127 <? p.identifier) (looked_at r)) e in
    let c = neither _ (b.text <? r.text) a.0 in
    let d = neither _ (b.entries <? r.entries) c.0 in
    let f = neither (r.priority == 0) (b.timers <? r.timers) d.0 in
    (f.0, f.1, d.1, c.1, a.1)

pub installs : (m : Model) (n : ℕ) (r : Request) → refusal m (admin (install n r)) ≡ 0 → Installs m.tables n r
unfolding Every lines admin_lines is_number too_many
installs m n r e =
    let a = accepted m (admin (install n r)) e in
    let b = m.tables.bounds in
    let i = both (1 ≤? n) (n ≤? b.applets) (not-false _ a.0) in
    let o = in-range b r a.1.1.0 in
    record {
      number-from = leb-true 1 n i.0;
      number-to = leb-true n b.applets i.1;
      new = a.1.0;
      priority = omega (arith, eqb-false r.priority 0 o.0);
      timers = ltb-false b.timers r.timers o.1;
      limit = ltb-false b.entries r.entries o.2;
      text = ltb-false b.text r.text o.3;
      identifiers = every-so _ _ (λ (p : Pair) h. ltb-false 127 p.identifier h) (looked_at r) (every-fails (λ (p : Pair). 127 <? p.identifier) (looked_at r) o.4);
      fits = ltb-false b.rows _ a.1.1.1.0;
      unlike = a.1.1.1.1.0;
    }

-- a text that an entry of an applet may have
pub record Fitting (x : Applet) (text : List ℕ) : Type 0 where
  pub from : 1 ≤ length text
  pub to : length text ≤ x.limits.text

fitting : (x : Applet) (text : List ℕ) → bad_text x text ≡ false → Fitting x text
unfolding bad_text
fitting x text e =
    let a = neither (length text == 0) (x.limits.text <? length text) e in
    record { from = omega (arith, eqb-false (length text) 0 a.0); to = ltb-false x.limits.text (length text) a.1 }

-- new entry
pub record NewEntry (t : Tables) (n : ℕ) (text : List ℕ) : Type 0 where
  pub here : present t n ≡ true
  pub more : (applet t n).made < entries (applet t n)
  pub fits : Fitting (applet t n) text

pub new-entry : (m : Model) (n : ℕ) (help : Bool) (text : List ℕ) → refusal m (entry (new_entry n help text)) ≡ 0 → NewEntry m.tables n text
unfolding Every lines entry_lines all_made
new-entry m n help text e =
    let a = accepted m (entry (new_entry n help text)) e in
    record {
      here = is-here m.tables n a.0;
      more = leb-false (entries (applet m.tables n)) (applet m.tables n).made a.1.0;
      fits = fitting (applet m.tables n) text a.1.1.0;
    }

-- change entry
pub record ChangesEntry (t : Tables) (n i : ℕ) (text : List ℕ) : Type 0 where
  pub here : present t n ≡ true
  pub its : some? (its_row n i) t.rows ≡ true
  pub fits : Fitting (applet t n) text

pub changes-entry : (m : Model) (n i : ℕ) (help : Bool) (text : List ℕ) → refusal m (entry (change_entry n i help text)) ≡ 0 → ChangesEntry m.tables n i text
unfolding Every lines entry_lines
changes-entry m n i help text e =
    let a = accepted m (entry (change_entry n i help text)) e in
    record { here = is-here m.tables n a.0; its = is-its m.tables.rows n i a.1.0; fits = fitting (applet m.tables n) text a.1.1.0 }

-- allocate timer
pub record Allocates (t : Tables) (n : ℕ) : Type 0 where
  pub here : present t n ≡ true
  pub under : count (λ o. o == n) t.timers < (applet t n).limits.timers
  pub free : lowest_free t.timers ≤ length t.timers

pub allocates : (m : Model) (n : ℕ) → refusal m (timer (allocate n)) ≡ 0 → Allocates m.tables n
unfolding Every lines timer_lines at_limit none_free
allocates m n e =
    let a = accepted m (timer (allocate n)) e in
    record {
      here = is-here m.tables n a.0;
      under = omega (arith, leb-false (min (applet m.tables n).limits.timers 8) _ a.1.0);
      free = ltb-false (length m.tables.timers) _ a.1.1.0;
    }

-- release timer
pub record Releases (t : Tables) (n k : ℕ) : Type 0 where
  pub here : present t n ≡ true
  pub its : (owner_of t.timers k == n) ≡ true

pub releases : (m : Model) (n k : ℕ) → refusal m (timer (release n k)) ≡ 0 → Releases m.tables n k
unfolding Every lines timer_lines not_its_timer
releases m n k e =
    let a = accepted m (timer (release n k)) e in
    record { here = is-here m.tables n a.0; its = not-false _ a.1.0 }
