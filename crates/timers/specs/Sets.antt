-- The places of a list that pass a test, as a set of bits.
use Rattle.std.specs.Prelude.{ℕ, ◌+◌, ◌*◌, Bool, ◌&&◌, List, [], ◌∷◌}
use Rattle.lists.specs.Tests.{◌≤?◌}
use Rattle.std.specs.Prelude.{if◌then◌else◌}

abbrev pub bit : Bool → ℕ
bit b = if b then 1 else 0

-- the number is one of first to last
unfoldable pub is_between : (first last : ℕ) → ℕ → Bool
is_between first last n = first ≤? n && n ≤? last

-- the place i has the bit i
unfoldable pub set_of : (ℕ → Bool) → List ℕ → ℕ
set_of p [] = 0
set_of p (n ∷ l) = bit (p n) + set_of p l * 2
