-- What a line of a script means: nothing, a record of the floor program, or the cause why it is none.
-- A line is a letter and what follows that letter: an applet's number, bytes in hexadecimal, texts in quotes, an event value.
use Rattle.std.specs.Prelude.{ℕ, ◌/◌, ◌%◌, Option, Some, None, Result, Ok, Err, List, [], ◌∷◌, ◌++◌, length, get_or, if◌then◌else◌, ◌==◌}
use Prim.Native.Char.{code}
use Rattle.lists.specs.Tests.{◌<?◌}
use Rattle.lists.specs.Lists.{empty?, padded}
use Rattle.script_line.specs.Words.{Number, space?, skipped, word, behind, byte_of, decimal_of, signed_of}
use Rattle.script_line.specs.declared.Cause.{Cause}
use Rattle.script_line.specs.declared.Cause.TheVariants.{UnknownLetter, MissingApplet, MissingNumber, LargeNumber, ManyBytes, OpenQuote, MissingSpace, MissingHelp, BadHelp, ExtraWord}
use Rattle.script_line.specs.declared.Kind.{Kind}
use Rattle.script_line.specs.declared.Kind.TheVariants.{Install, Entry, Event, Nothing}
use Rattle.script_line.specs.declared.Form.{Form}
use Rattle.script_line.specs.declared.Form.TheVariants.{Applet, Bytes, Alone}

-- what follows each letter, if it is one
unfoldable pub form_of : ℕ → Option Form
form_of x =
    if x == code "I" then Some (Applet Install) else
    if x == code "M" then Some (Applet Entry) else
    if x == code "E" then Some (Applet Event) else
    if x == code "C" then Some (Applet Event) else
    if x == code "T" then Some (Applet Nothing) else
    if x == code "D" then Some (Applet Nothing) else
    if x == code "L" then Some (Applet Nothing) else
    if x == code "U" then Some (Applet Nothing) else
    if x == code "P" then Some Bytes else
    if x == code "S" then Some Bytes else
    if x == code "O" then Some Alone else
    if x == code "N" then Some Alone else
    if x == code "W" then Some Alone else
    if x == code "R" then Some Alone else None

-- the argument bytes that a part of a line gives, or why it gives none
abbrev pub Said : Type 0
Said = Result (List ℕ) Cause

-- where the reading of bytes and texts is
pub data Place : Type 0 where
  between in_word in_text behind_text : Place

-- one byte more, where there is room for it, and what is read on with it
unfoldable pub with_byte : (limit : ℕ) → (sofar : List ℕ) → ℕ → (List ℕ → Said) → Said
with_byte limit l b more = if length l == limit then Err ManyBytes else more (l ++ b ∷ [])

-- the same with the number that a word gives
unfoldable pub with_number : (limit : ℕ) → (sofar : List ℕ) → Number → (List ℕ → Said) → Said
with_number limit l (Ok v) more = with_byte limit l v more
with_number limit l (Err c) more = Err c

-- bytes of two hexadecimal digits and texts in quotes up to the end of the line, at most so many bytes in all, behind those read so far
unfoldable pub bytes_from : (limit : ℕ) → (sofar : List ℕ) → Place → List ℕ → Said
bytes_from n l between [] = Ok l
bytes_from n l between (b ∷ s) =
    if b == code "#" then Ok l else
    if space? b then bytes_from n l between s else
    if b == code "\"" then bytes_from n l in_text s else
    with_number n l (byte_of (word (b ∷ s))) (λ l. bytes_from n l in_word s)
bytes_from n l in_word [] = Ok l
bytes_from n l in_word (b ∷ s) =
    if b == code "#" then Ok l else
    if space? b then bytes_from n l between s else bytes_from n l in_word s
bytes_from n l in_text [] = Err OpenQuote
bytes_from n l in_text (b ∷ s) =
    if b == code "\"" then bytes_from n l behind_text s else with_byte n l b (λ l. bytes_from n l in_text s)
bytes_from n l behind_text [] = Ok l
bytes_from n l behind_text (b ∷ s) =
    if b == code "#" then Ok l else
    if space? b then bytes_from n l between s else Err MissingSpace

-- bytes and texts, at most so many bytes in all
abbrev pub bytes_of : (limit : ℕ) → List ℕ → Said
bytes_of n s = bytes_from n [] between s

-- nothing but a comment is left, and these are the bytes
unfoldable pub only_if_last : List ℕ → (left : List ℕ) → Said
only_if_last l s = if empty? (skipped s) then Ok l else Err ExtraWord

-- an install has twelve bytes; those that are not written are 0
unfoldable pub installed : Said → Said
installed (Ok l) = Ok (padded 12 0 l)
installed (Err c) = Err c

-- an entry starts with the help byte, 0 or 1
unfoldable pub helped : Said → Said
helped (Ok l) = if length l == 0 then Err MissingHelp else if 1 <? get_or l 0 0 then Err BadHelp else Ok l
helped (Err c) = Err c

-- the two bytes of an event value, high first, with nothing behind it
unfoldable pub event_of : Number → (left : List ℕ) → Said
event_of (Ok v) s = only_if_last (v / 256 % 256 ∷ v % 256 ∷ []) s
event_of (Err c) s = Err c

-- the argument bytes that follow an applet's number
unfoldable pub arguments_of : Kind → List ℕ → Said
arguments_of Install s = installed (bytes_of 12 s)
arguments_of Entry s = helped (bytes_of 20 s)
arguments_of Event s = if empty? (skipped s) then Err MissingNumber else event_of (signed_of (word (skipped s))) (behind (skipped s))
arguments_of Nothing s = only_if_last [] s

-- what a line means: nothing, a record, or the cause why it is none
abbrev pub Meaning : Type 0
Meaning = Result (Option (List ℕ)) Cause

-- the record of a letter, an applet and argument bytes: their count, and 00 behind them up to 24 bytes
unfoldable pub record_of : (letter applet : ℕ) → List ℕ → List ℕ
record_of letter applet l = letter ∷ applet ∷ length l ∷ padded 21 0 l

unfoldable pub record_by : (letter applet : ℕ) → Said → Meaning
record_by letter applet (Ok l) = Ok (Some (record_of letter applet l))
record_by letter applet (Err c) = Err c

-- an applet's number is a byte
unfoldable pub small : Number → Number
small (Ok v) = if 255 <? v then Err LargeNumber else Ok v
small (Err c) = Err c

-- the number of the applet that comes first, in decimal
unfoldable pub applet_of : List ℕ → Number
applet_of s = if empty? (skipped s) then Err MissingApplet else small (decimal_of (word (skipped s)))

unfoldable pub named_by : Kind → (letter : ℕ) → Number → (left : List ℕ) → Meaning
named_by kind letter (Ok applet) s = record_by letter applet (arguments_of kind s)
named_by kind letter (Err c) s = Err c

-- by what follows the letter: the applet and its arguments, bytes alone, or nothing
unfoldable pub lettered : Option Form → (letter : ℕ) → (left : List ℕ) → Meaning
lettered (Some (Applet kind)) letter s = named_by kind letter (applet_of s) (behind (skipped s))
lettered (Some Bytes) letter s = record_by letter 0 (bytes_of 20 s)
lettered (Some Alone) letter s = record_by letter 0 (only_if_last [] s)
lettered None letter s = Err UnknownLetter

-- the first word is the letter
unfoldable pub by_letter : List ℕ → Meaning
by_letter s = if length (word s) == 1 then lettered (form_of (get_or s 0 0)) (get_or s 0 0) (behind s) else Err UnknownLetter

-- a line with no word means nothing
unfoldable pub meaning_of : List ℕ → Meaning
meaning_of line = if empty? (skipped line) then Ok None else by_letter (skipped line)
