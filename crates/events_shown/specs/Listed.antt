-- The codes of the shown events, and the struct that holds them.
use Rattle.std.specs.Prelude.{ℕ, suc, Bool, List, [], ◌∷◌, length}
use Rattle.std.specs.Prelude.{if◌then◌else◌}
use Rattle.lists.specs.Lists.{padded}
use Rattle.events_shown.specs.declared.Codes.{Codes}

-- of these codes, whose first has the place e, those whose places pass
unfoldable pub codes_from : (ℕ → Bool) → (event : ℕ) (codes : List ℕ) → List ℕ
codes_from p e [] = []
codes_from p e (c ∷ l) = if p e then c ∷ codes_from p (suc e) l else codes_from p (suc e) l

-- at most 13 codes as a struct
unfoldable pub codes_of : List ℕ → Codes
codes_of l = record { at = padded 13 0 l; count = length l }
