-- Runs of elements as a terminal may write them: each tag in one byte or in three, with or without the comprehension flag (document 02, Ask 3).
use Rattle.std.specs.Prelude.{ℕ, ◌+◌, ◌-◌, ◌/◌, ◌%◌, ◌≤◌, Bool, true, false, List, [], ◌∷◌, ◌++◌, map, length, take, drop}
use Rattle.std.specs.Prelude.{if◌then◌else◌, ◌==◌, Option, Some, None}
use Rattle.lists.specs.Lists.{keep, gather}
use Rattle.rules.specs.declared.Span.{Span}
use Rattle.rules.specs.Bytes.{part_of}
use Rattle.rules.specs.Commands.{length_bytes}

-- An object: its number and its value. An element: an object, and how its tag is written.
pub record Object : Type 0 where
  pub number : ℕ
  pub value : List ℕ

pub record Written : Type 0 where
  pub object : Object
  pub in_three : Bool
  pub flagged : Bool

-- one byte has the numbers 01..7E, three have 0000..7FFF; a value has at most FF bytes
unfoldable pub Has : (in_three : Bool) (number : ℕ) → Type 0
Has false n = (1 ≤ n) × (n ≤ 0x7E)
Has true n = n ≤ 0x7FFF

pub record Writable (e : Written) : Type 0 where
  pub had : Has e.in_three e.object.number
  pub short : length e.object.value ≤ 0xFF

-- the flag is bit 8 of the byte in which the number begins
abbrev pub flag : Bool → ℕ
flag flagged = if flagged then 0x80 else 0x00

unfoldable pub tag_bytes : (in_three flagged : Bool) (number : ℕ) → List ℕ
tag_bytes false f n = (flag f + n) ∷ []
tag_bytes true f n = 0x7F ∷ (flag f + n / 256) ∷ (n % 256) ∷ []

unfoldable pub element_bytes : Written → List ℕ
element_bytes e = tag_bytes e.in_three e.flagged e.object.number ++ length_bytes (length e.object.value) ++ e.object.value

unfoldable pub run_bytes : List Written → List ℕ
run_bytes l = gather element_bytes l

-- an outer tag, and the run behind its length
unfoldable pub outer_bytes : (tag : ℕ) → List Written → List ℕ
outer_bytes tag l = tag ∷ (length_bytes (length (run_bytes l)) ++ run_bytes l)

-- the objects that were written, in whichever form
abbrev pub objects : List Written → List Object
objects l = map (λ (e : Written). e.object) l

-- of objects, the value of the one with this number that occurs so many-th, if there is one; and the value that a search gives
unfoldable pub value_of : (number occurrence : ℕ) → List Object → List (List ℕ)
value_of number occurrence l = map (λ (o : Object). o.value) (take 1 (drop (occurrence - 1) (keep (λ (o : Object). o.number == number) l)))

unfoldable pub value_at : List ℕ → Option Span → List (List ℕ)
value_at s (Some value) = part_of s (Some value) ∷ []
value_at s None = []
