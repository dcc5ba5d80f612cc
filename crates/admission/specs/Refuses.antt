-- The refusal of an install depends on what installs fixed of the applets present, and on no other part of the card.
use Rattle.std.specs.Prelude.{ℕ, Bool, ◌≡◌, List}
use Rattle.std.specs.Prelude.{◌==◌}
use Rattle.lists.specs.Lists.{some?, gather}
use Rattle.rules.specs.declared.Pair.{Pair}
use Rattle.rules.specs.declared.Request.{Request}
use Rattle.rules.specs.declared.Grant.{Grant}
use Rattle.rules.specs.declared.Roll.{Roll}
use Rattle.rules.specs.Holds.{Tables, document}
use Rattle.rules.specs.Applets.{requested}
use Rattle.rules.specs.Calls.{install}
use Rattle.rules.specs.Refusals.{admin_lines, first_holding}
use Rattle.runs.specs.Sound.{SoundTables}
use Rattle.applets.specs.ByNumber.{roll_of}

-- r is the number that the table of refusals gives for all sound tables with document 01's bounds whose applets have this roll
abbrev pub RefusesInstall : Roll → (number : ℕ) → Request → (r : ℕ) → Type 0
RefusesInstall s n q r =
    (t : Tables) → SoundTables t → t.bounds ≡ document → s ≡ roll_of t.applets → r ≡ first_holding (admin_lines t (install n q))

-- an applet's entry limit, by what it was installed with
abbrev pub limit : Grant → ℕ
limit g = g.entries

-- the non-zero identifiers that the applets present request, by what they were installed with
abbrev pub taken : List Grant → List ℕ
taken l = gather (λ (g : Grant). requested g.pairs) l

-- a pair requests the identifier
abbrev pub asks_for : (identifier : ℕ) → Pair → Bool
asks_for i p = p.identifier == i

-- one who was granted this requests the identifier
abbrev pub has_requested : (identifier : ℕ) → Grant → Bool
has_requested i g = some? (asks_for i) g.pairs
