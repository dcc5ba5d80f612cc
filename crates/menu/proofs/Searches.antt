-- What the answer of a search over the array says of the rows.
-- Assumes nothing.
use Prim.Native.Nat.{ℕ, ◌<◌}
use native.Mathlib.Omega.{arith}
use mathlib.Core.Path.{◌≡◌, sym, ◌∙◌}
use mathlib.Core.Bool.{Bool}
use mathlib.Core.List.{map}
use lib.ListN.{length, get_or}
use Rattle.lists.specs.Lists.{first, index_of}
use Rattle.lists.proofs.Search.{found_at}
use Rattle.lists.proofs.Mapped.{map-length, map-index_of}
use Rattle.lists.proofs.Looking.{map_first}
use Rattle.rules.specs.declared.Row as held
use Rattle.rules.specs.declared.Rows.{Rows}
use Rattle.rules.specs.Holds.{Row}
use Rattle.rules.specs.Held.{stored_row, no_row, view_rows, TidyRows}
use Rattle.menu.proofs.Tidy.{blank, at-is, count-is}

-- A search for a row that passes a test came to k.
module _ (s : Rows) (q : held.Row → Bool) (k : ℕ) (t : TidyRows s) (is : k ≡ index_of (λ (r : Row). q (stored_row r)) (view_rows s)) (h : k < s.count) where
  -- the index, among the rows as the array holds them
  pub within : k < length (map stored_row (view_rows s))
  within = omega (arith, map-length stored_row (view_rows s), count-is s t)

  pub held-index : k ≡ index_of q (map stored_row (view_rows s))
  held-index = is ∙ map-index_of stored_row q (view_rows s)

  pub held_first : stored_row (first (λ (r : Row). q (stored_row r)) no_row (view_rows s)) ≡ first q blank (map stored_row (view_rows s))
  held_first = map_first stored_row q no_row (view_rows s)

  pub held_at : (d : held.Row) → get_or s.at k d ≡ stored_row (first (λ (r : Row). q (stored_row r)) no_row (view_rows s))
  held_at d = found_at 12 blank q (map stored_row (view_rows s)) s.at (at-is s t) k d held-index within ∙ sym held_first
