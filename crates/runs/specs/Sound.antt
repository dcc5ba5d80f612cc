-- What holds of every card that a fresh card and calls have left.
use Rattle.std.specs.Prelude.{ℕ, ◌≤◌, ◌≡◌, true, false, ◌⊎◌, List, length, take}
use Rattle.std.specs.Prelude.{◌==◌}
use Rattle.lists.specs.Lists.{Every, keep, count, sum, gather, in?}
use Rattle.rules.specs.declared.Pair.{Pair}
use Rattle.rules.specs.Holds.{Applet, Row, Bounds, Tables, Round, Model, no_round}
use Rattle.rules.specs.Events.{supported}
use Rattle.rules.specs.Applets.{numbers, has_number, present, applet, entries, requested, longest_poll}
use Rattle.rules.specs.Rows.{has_identifier}

-- an applet: its number, its limits within the bounds, no more entries made than its limit, and its request
pub record SoundApplet (b : Bounds) (x : Applet) : Type 0 where
  pub number-from : 1 ≤ x.number
  pub number-to : x.number ≤ b.applets
  pub priority : 1 ≤ x.priority
  pub timers : x.limits.timers ≤ b.timers
  pub entries : length x.limits.pairs ≤ b.entries
  pub text : x.limits.text ≤ b.text
  pub identifiers : Every (λ (p : Pair). p.identifier ≤ 127) x.limits.pairs
  pub made : x.made ≤ length x.limits.pairs
  pub events : length x.events ≡ length supported
  pub poll : x.poll ≤ longest_poll

-- the identifiers, other than 0, that an applet requested for the entries it has made
unfoldable pub served : Applet → List ℕ
served x = requested (take x.made x.limits.pairs)

-- the identifiers, other than 0, that the applets present requested
unfoldable pub requests : Tables → List ℕ
requests t = gather (λ (x : Applet). requested x.limits.pairs) t.applets

-- a row: its owner is present and requested its identifier, if that is no more than 127; its text is not empty and within its owner's limit
pub record SoundRow (t : Tables) (r : Row) : Type 0 where
  pub owner : present t r.owner ≡ true
  pub identifier-from : 1 ≤ r.identifier
  pub identifier-to : r.identifier ≤ 255
  pub served : r.identifier ≤ 127 → in? r.identifier (served (applet t r.owner)) ≡ true
  pub text-from : 1 ≤ length r.text
  pub text-to : length r.text ≤ t.bounds.text
  pub text-limit : length r.text ≤ (applet t r.owner).limits.text

-- nobody, or an applet that is present
abbrev pub NobodyOrPresent : Tables → (owner : ℕ) → Type 0
NobodyOrPresent t o = (o ≡ 0) ⊎ (present t o ≡ true)

-- The tables.
pub record SoundTables (t : Tables) : Type 0 where
  -- at most 8 applets, each with a number of its own
  pub few-applets : length t.applets ≤ t.bounds.applets
  pub each-applet : Every (SoundApplet t.bounds) t.applets
  pub numbers_apart : (n : ℕ) → count (has_number n) t.applets ≤ 1
  -- the entry limits sum to at most 12, no more than there are identifiers from 128 to 255, and no identifier is requested twice
  pub total : sum entries t.applets ≤ t.bounds.rows
  pub room : t.bounds.rows ≤ 128
  pub requests-apart : (i : ℕ) → count (λ k. k == i) (requests t) ≤ 1
  -- at most 12 rows, each with an identifier of its own; an applet has as many as the entries it has made
  pub few-rows : length t.rows ≤ t.bounds.rows
  pub each_row : Every (SoundRow t) t.rows
  pub identifiers-apart : (i : ℕ) → count (has_identifier i) t.rows ≤ 1
  pub rows_made : (n : ℕ) → count (λ (r : Row). r.owner == n) t.rows ≡ (applet t n).made
  -- eight timers, free or owned by one present, which holds no more than its limit
  pub all-timers : length t.timers ≡ t.bounds.timers
  pub each-timer : Every (NobodyOrPresent t) t.timers
  pub timer-limits : (n : ℕ) → 1 ≤ n → count (λ o. o == n) t.timers ≤ (applet t n).limits.timers
  -- call control has an owner that is present, or none
  pub control : NobodyOrPresent t t.control

-- The round: with none open nothing is kept of the last one, and those who wait stand in the order of their numbers.
pub record SoundRound (b : Bounds) (r : Round) : Type 0 where
  pub closed : r.is_open ≡ false → r ≡ no_round
  pub waiting : r.waiting ≡ keep (λ n. in? n r.waiting) (numbers b)

-- THE CARD.
pub record Sound (m : Model) : Type 0 where
  pub tables : SoundTables m.tables
  pub round : SoundRound m.tables.bounds m.round
  pub title : length m.desk.title ≤ m.tables.bounds.title
  pub profile : length m.desk.profile ≡ 32
