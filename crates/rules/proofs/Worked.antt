-- The worked example of document 01, "The floor program", with the next of document 02, Ask 2: seven records, and the lines that they make.
-- Assumes nothing.
use Prim.Native.Nat.{ℕ}
use Prim.Native.Char.{Char, code}
use mathlib.Core.Path.{◌≡◌, refl}
use mathlib.Core.List.{List, ◌∷◌, ◌++◌}
use lib.ListN.{length}
use Rattle.lists.specs.Lists.{padded}
use Rattle.lists.specs.Text.{ascii, bytes}
use Rattle.rules.specs.Floor.{floor_lines}
use Rattle.rules.proofs.Compute.{compute}

-- a record: letter, applet, how many arguments, the arguments, and 00 in the places that are left
abbrev pub record_of : Char → ℕ → List ℕ → List ℕ
record_of letter applet l = code letter ∷ applet ∷ length l ∷ padded 21 0 l

pub worked :
    floor_lines
    (record_of "I" 1 (bytes "05 01 02 06 00 01 00 00 00 00 00 00")
    ++ record_of "M" 1 (bytes "00 43 68 61 69 72 73")
    ++ record_of "M" 1 (bytes "00 43 68 61 69 72 73")
    ++ record_of "P" 0 (bytes "FF")
    ++ record_of "W" 0 (bytes "")
    ++ record_of "S" 0 (bytes "D3 07 82 02 01 81 90 01 80")
    ++ record_of "N" 0 (bytes ""))
    ≡ ascii "1 I 0 -\n2 M 0 01\n3 M 0 80\n4 P 0 -\n5 W 0 D01D81030125008202818285008F07014368616972738F0780436861697273\n6 S 0 -\n7 N 0 01\n"
unfolding compute
worked = refl
