-- The line of an answer, by the letter of the call that was made.
use Rattle.std.specs.Prelude.{ℕ, List, Option, Some, None, [], ◌∷◌, take}
use Prim.Native.Char.{code}
use Rattle.std.specs.Prelude.{if◌then◌else◌, ◌==◌}
use Rattle.lists.specs.Lists.{in?}
use Rattle.lists.specs.Text.{ascii}
use Rattle.rules.specs.Floor.{decimal, dash, line_of}
use Rattle.rules.specs.declared.Answer.{Answer}

-- the identifier or the timer; the one called, if any; the command, so many bytes at the front of out; of any other call nothing
unfoldable pub shown_by : (call : ℕ) → Answer → (out : List ℕ) → List ℕ
shown_by x a out =
    if in? x (ascii "MT") then a.number ∷ [] else
    if x == code "N" then (if a.called == 0 then [] else a.called ∷ []) else
    if x == code "W" then take a.number out else []

-- a refusal shows nothing; where there was no call, there is a dash for it
unfoldable pub line_by : (number letter : ℕ) (call : Option ℕ) → Answer → (out : List ℕ) → List ℕ
line_by k letter None a out = line_of k letter dash []
line_by k letter (Some x) a out = line_of k letter (decimal a.refusal) (if a.refusal == 0 then shown_by x a out else [])
