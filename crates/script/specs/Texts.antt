-- What a text of many lines means: the records of its lines, one behind the other, up to the first that is bad.
-- A line ends at a line feed or with the text; a carriage return before that does not count, and it has at most 200 bytes.
use Rattle.std.specs.Prelude.{ℕ, zero, suc, ◌+◌, ◌-◌, ◌*◌, ◌≤◌, ◌<◌, ◌≡◌, Bool, true, false, Some, None, Result, Ok, Err, List, [], ◌++◌, length, take, drop, get_or}
use Rattle.lists.specs.Tests.{◌<?◌}
use Rattle.std.specs.Prelude.{if◌then◌else◌, ◌==◌}
use Rattle.std.specs.List.{position_or_len}
use Rattle.script_line.specs.Lines.{Meaning, meaning_of}
use Rattle.script_line.specs.declared.Cause.{Cause}
use Rattle.script_line.specs.declared.Cause.TheVariants.{LongLine}
use Rattle.script.specs.declared.Stop.{Stop}
use Rattle.script.specs.declared.Stop.TheVariants.{End, Full}
use Rattle.script.specs.declared.Progress.{Progress}

-- how many bytes of a line count
unfoldable pub trimmed_of : List ℕ → ℕ
trimmed_of l = if length l == 0 then 0 else if get_or l (length l - 1) 0 == 0x0D then length l - 1 else length l

-- what a line of a text means
unfoldable pub line_meaning : List ℕ → Meaning
line_meaning l = if 200 <? length l then Err LongLine else meaning_of (take (trimmed_of l) l)

-- how many bytes stand before the first line feed of a text, or in all where there is none
unfoldable pub line_length : List ℕ → ℕ
line_length text = position_or_len (λ b. b == 0x0A) text

-- the line that a text starts with, without its line feed
unfoldable pub first_line : List ℕ → List ℕ
first_line text = take (line_length text) text

-- what is left of a text behind so many lines
unfoldable pub behind_lines : ℕ → List ℕ → List ℕ
behind_lines zero text = text
behind_lines (suc n) text = behind_lines n (drop (suc (line_length text)) text)

-- the bytes of the record that a line means, if it means one
unfoldable pub record_in : Meaning → List ℕ
record_in (Ok None) = []
record_in (Ok (Some s)) = s
record_in (Err c) = []

-- the records of the first lines of a text, one behind the other
unfoldable pub records_of : (lines : ℕ) → List ℕ → List ℕ
records_of zero text = []
records_of (suc n) text = record_in (line_meaning (first_line text)) ++ records_of n (drop (suc (line_length text)) text)

-- a line that is not bad
unfoldable pub Good : Meaning → Type 0
Good (Ok None) = Unit
Good (Ok (Some s)) = Unit
Good (Err c) = ⊥

-- a line feed ends the line that is left; the last text may end it too
abbrev pub Ended : (last : Bool) → (left : List ℕ) → Type 0
Ended true left = Unit
Ended false left = line_length left < length left

-- the line behind the first k is read: there is one, it has ended, so many bytes of output have room for a record more, and it is not bad
pub record Reads (last : Bool) (room k : ℕ) (text : List ℕ) : Type 0 where
  pub some : 0 < length (behind_lines k text)
  pub ended : Ended last (behind_lines k text)
  pub roomy : length (records_of k text) + 24 ≤ room
  pub good : Good (line_meaning (first_line (behind_lines k text)))

-- so many lines are read: their records, so many, stand at the front of the output, and the text is read up to the next line
pub record Standing (last : Bool) (at records lines : ℕ) (text out : List ℕ) : Type 0 where
  pub read : at ≤ length text
  pub fits : records * 24 ≤ length out
  pub lined : lines ≤ at
  pub few : records ≤ lines
  pub left : drop at text ≡ behind_lines lines text
  pub reads : (k : ℕ) → k < lines → Reads last (length out) k text
  pub made : take (records * 24) out ≡ records_of lines text

-- nothing is left of the last text; of another, nothing but a line that may still go on
abbrev pub Ends : (last : Bool) → (left : List ℕ) → Type 0
Ends true left = left ≡ []
Ends false left = (line_length left ≡ length left) × (length left ≤ 200)

-- why no further line was read: the text ended; there is no room for a record; or there is, and the next line is bad
abbrev pub Stops : Result Stop Cause → (last : Bool) → (left out : List ℕ) → (records : ℕ) → Type 0
Stops (Ok End) last left out records = Ends last left
Stops (Ok Full) last left out records = (0 < length left) × (length out < records * 24 + 24)
Stops (Err c) last left out records = (line_meaning (first_line left) ≡ Err c) × (records * 24 + 24 ≤ length out)

abbrev pub Composed : Progress → (last : Bool) → (text out : List ℕ) → Type 0
Composed r last text out = Standing last r.at r.records r.lines text out × Stops r.stop last (drop r.at text) out r.records
