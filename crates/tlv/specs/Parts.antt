-- Parts of bytes, by their place.
use Rattle.std.specs.Prelude.{ℕ, ◌+◌, ◌≤◌, List, length, Option, IfSome}
use Rattle.rules.specs.declared.Span.{Span}

-- the part that a place names ends within the bytes
abbrev pub IsWithin : List ℕ → Option Span → Type 0
IsWithin s place = IfSome place (λ value. value.start + value.len ≤ length s)
