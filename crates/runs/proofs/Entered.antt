-- An accepted new entry keeps the tables sound.
-- Assumes nothing.
use Prim.Native.Nat.{ℕ, ◌+◌, ◌≤◌}
use native.Mathlib.Omega.{arith}
use mathlib.Core.Path.{◌≡◌, refl, ap, ◌∙◌}
use mathlib.Core.Bool.{Bool, true, false}
use mathlib.Core.List.{List, [], ◌∷◌}
use lib.ListN.{length}
use borrow.Author.Tests.{eqb-true}
use Rattle.std.specs.Prelude.{if◌then◌else◌, ◌==◌}
use Rattle.lists.specs.Lists.{Every, count, change, in?}
use Rattle.lists.proofs.Decided.{or-either, turned, one_only}
use Rattle.lists.proofs.Every.{every-so, every-insert_at, every-change}
use Rattle.lists.proofs.Firsts.{some-append, first-changed, first-unchanged}
use Rattle.lists.proofs.Search.{length-change}
use Rattle.lists.proofs.Padded.{length-insert_at}
use Rattle.lists.proofs.Counts.{count-insert_at, count-missed}
use Rattle.lists.proofs.Matched.{Matched, matched-change}
use Rattle.rules.specs.Holds.{Applet, Row, Tables, with_one_more}
use Rattle.rules.specs.Applets.{has_number, present, applet, nobody, requested}
use Rattle.rules.specs.Rows.{has_identifier, place, in_use, next_pair, next_identifier, with_entry}
use Rattle.rules.specs.Calls.{new_entry}
use Rattle.rules.specs.Step.{entry_tables}
use Rattle.rules.proofs.Listed.{place-le}
use Rattle.runs.specs.Sound.{SoundApplet, SoundRow, SoundTables, NobodyOrPresent, served, requests}
use Rattle.runs.proofs.Filled.{NewEntry}
use Rattle.runs.proofs.Looked.{has-its-number, sound-applet}
use Rattle.runs.proofs.Room.{entry-room}
use Rattle.runs.proofs.Next.{served-more, next-from, next-to, next-unused, next-served}
use Rattle.runs.proofs.Frames.{SameLimits, present-still, limits-still, numbers-still, total-still, requests-still, row_moved, owner-moved}

-- Who is present afterwards, and as what.
module _ (t : Tables) (n : ℕ) (help : Bool) (text : List ℕ) where
  abbrev made : List Applet
  made = change (has_number n) with_one_more t.applets

  abbrev entered : Tables
  entered = entry_tables t (new_entry n help text)

  match : Matched SameLimits t.applets made
  match = matched-change SameLimits (has_number n) with_one_more nobody (λ y. record { number = refl; limits = refl }) t.applets (record { number = refl; limits = refl })

  pub entry-present : (k : ℕ) → present entered k ≡ present t k
  unfolding present entry_tables
  entry-present k = present-still t made match k

  pub entry-limits : (k : ℕ) → (applet entered k).limits ≡ (applet t k).limits
  unfolding applet entry_tables
  entry-limits k = (limits-still t made match k).limits

  pub entry-its : present t n ≡ true → applet entered n ≡ with_one_more (applet t n)
  unfolding present applet entry_tables
  entry-its here = first-changed (has_number n) with_one_more (λ y e. e) nobody t.applets here

  pub entry_other : (k : ℕ) → (n == k) ≡ false → applet entered k ≡ applet t k
  unfolding applet entry_tables
  entry_other k e = first-unchanged (has_number n) (has_number k) with_one_more (λ y h. one_only y.number k n h (turned k n ∙ e)) (λ y h. one_only y.number n k h e) nobody t.applets

module _ (t : Tables) (g : SoundTables t) (n : ℕ) (help : Bool) (text : List ℕ) (a : NewEntry t n text) where
  abbrev x : Applet
  x = applet t n

  abbrev row : Row
  row = record { identifier = next_identifier x t.rows; owner = x.number; text = text; help = help; enabled = true }

  abbrev after : Tables
  after = entered t n help text

  is-n : x.number ≡ n
  is-n = has-its-number t n a.here

  its : applet after n ≡ with_one_more x
  its = entry-its t n help text a.here

  -- who was served is served still
  served-still : (i k : ℕ) (b : Bool) → (n == k) ≡ b → in? i (served (applet t k)) ≡ true → in? i (served (applet after k)) ≡ true
  unfolding in?
  served-still i k false e h = rw (entry_other t n help text k e) h
  served-still i k true e h = rw (← eqb-true n k e, its) (longer (rw (← eqb-true n k e) at h))
    where
      longer : in? i (served x) ≡ true → in? i (served (with_one_more x)) ≡ true
      longer q = rw (served-more x a.more, some-append (λ k. k == i) (served x) (requested (next_pair x ∷ []))) (or-either (in? i (served x)) _ q)

  text-within : length text ≤ after.bounds.text
  unfolding entry_tables
  text-within = omega (arith, a.fits.to, (sound-applet t g n a.here).text)

  limit-within : length text ≤ (applet after x.number).limits.text
  limit-within = rw (entry-limits t n help text x.number, ap (λ (k : ℕ). (applet t k).limits) is-n) a.fits.to

  row-sound : SoundRow after row
  row-sound =
      record {
        owner = entry-present t n help text x.number ∙ rw is-n a.here;
        identifier-from = next-from t g n a.here a.more;
        identifier-to = next-to t g n a.here a.more;
        served = λ h.
            ap (λ (k : ℕ). in? row.identifier (served (applet after k))) is-n
            ∙ ap (λ (y : Applet). in? row.identifier (served y)) its
            ∙ next-served t g n a.here a.more h;
        text-from = a.fits.from;
        text-to = text-within;
        text-limit = limit-within;
      }

  moved : (r : Row) → SoundRow t r → SoundRow after r
  unfolding entry_tables
  moved r q = row_moved t after r refl (λ e. entry-present t n help text r.owner ∙ e) (entry-limits t n help text r.owner) (served-still r.identifier r.owner (n == r.owner) refl) q

  one-more-sound : SoundApplet t.bounds (with_one_more x)
  one-more-sound =
      let s = sound-applet t g n a.here in
      record {
        number-from = s.number-from;
        number-to = s.number-to;
        priority = s.priority;
        timers = s.timers;
        entries = s.entries;
        text = s.text;
        identifiers = s.identifiers;
        made = a.more;
        events = s.events;
        poll = s.poll;
      }

  each_after : Every (SoundApplet t.bounds) (made t n help text)
  unfolding applet
  each_after = every-change (SoundApplet t.bounds) (has_number n) with_one_more nobody t.applets one-more-sound g.each-applet

  unused : (i : ℕ) → count (has_identifier i) (with_entry x help text t.rows) ≤ 1
  unfolding with_entry in_use
  unused i = rw (count-insert_at (has_identifier i) (place (next_pair x).position (length t.rows)) row t.rows) (go (row.identifier == i) refl)
    where
      go : (b : Bool) → (row.identifier == i) ≡ b → count (has_identifier i) t.rows + (if b then 1 else 0) ≤ 1
      go true e = rw (← eqb-true row.identifier i e) (omega (arith, count-missed (has_identifier row.identifier) t.rows (next-unused t g n a.here a.more)))
      go false e = omega (arith, g.identifiers-apart i)

  made_after : (k : ℕ) → count (λ (r : Row). r.owner == k) (with_entry x help text t.rows) ≡ (applet after k).made
  unfolding with_entry
  made_after k =
      count-insert_at (λ (r : Row). r.owner == k) (place (next_pair x).position (length t.rows)) row t.rows ∙ rw is-n (go (n == k) refl)
    where
      go : (b : Bool) → (n == k) ≡ b → count (λ (r : Row). r.owner == k) t.rows + (if b then 1 else 0) ≡ (applet after k).made
      go true e = rw (← eqb-true n k e, its) (omega (arith, g.rows_made n))
      go false e = rw (entry_other t n help text k e) (omega (arith, g.rows_made k))

  rows-after : Every (SoundRow after) (with_entry x help text t.rows)
  unfolding with_entry
  rows-after =
      every-insert_at (SoundRow after) (place (next_pair x).position (length t.rows)) row t.rows row-sound
      (every-so (SoundRow t) (SoundRow after) moved t.rows g.each_row)

  requests-after : (i : ℕ) → count (λ k. k == i) (requests after) ≤ 1
  unfolding entry_tables requests
  requests-after i = rw (requests-still t (made t n help text) (match t n help text)) (g.requests-apart i)

  few-after : length (with_entry x help text t.rows) ≤ t.bounds.rows
  unfolding with_entry
  few-after = omega (arith, entry-room t g n a.here a.more, length-insert_at (place (next_pair x).position (length t.rows)) row t.rows (place-le (next_pair x).position (length t.rows)))

  pub entry-sound : SoundTables after
  unfolding entry_tables
  entry-sound =
      record {
        few-applets = rw (length-change (has_number n) with_one_more t.applets) g.few-applets;
        each-applet = each_after;
        numbers_apart = λ k. rw (numbers-still t (made t n help text) (match t n help text) k) (g.numbers_apart k);
        total = rw (total-still t (made t n help text) (match t n help text)) g.total;
        room = g.room;
        requests-apart = requests-after;
        few-rows = few-after;
        each_row = rows-after;
        identifiers-apart = unused;
        rows_made = made_after;
        all-timers = g.all-timers;
        each-timer = every-so (NobodyOrPresent t) (NobodyOrPresent after) (λ o q. owner-moved t after o (λ e. entry-present t n help text o ∙ e) q) t.timers g.each-timer;
        timer-limits = λ k h. rw (entry-limits t n help text k) (g.timer-limits k h);
        control = owner-moved t after t.control (λ e. entry-present t n help text t.control ∙ e) g.control;
      }
