-- The words of a line, and the numbers that they stand for: bytes in hexadecimal, numbers in decimal.
-- Spaces and tabs stand between words, and a '#' starts a comment, which ends a word too.
use Rattle.std.specs.Prelude.{ℕ, ◌+◌, ◌-◌, ◌*◌, Bool, true, false, Option, Some, None, Result, Ok, Err, List, [], ◌∷◌, length, drop, get_or, if◌then◌else◌, ◌==◌}
use Prim.Native.Char.{code}
use Rattle.std.specs.List.{prefix_len, take_while}
use Rattle.lists.specs.Tests.{◌<?◌, ◌≤?◌}
use Rattle.script_line.specs.declared.Cause.{Cause}
use Rattle.script_line.specs.declared.Cause.TheVariants.{BadNumber, LargeNumber, BadByte}

-- a space or a tab
unfoldable pub space? : ℕ → Bool
space? b = if b == code " " then true else b == code "\t"

-- neither a space nor a tab, and no '#'
unfoldable pub in_word? : ℕ → Bool
in_word? b = if b == code "#" then false else if space? b then false else true

-- a word ends here
unfoldable pub ended? : List ℕ → Bool
ended? [] = true
ended? (b ∷ s) = if b == code "#" then true else space? b

-- what is left behind spaces and tabs: nothing where a comment starts
unfoldable pub skipped : List ℕ → List ℕ
skipped [] = []
skipped (b ∷ s) = if b == code "#" then [] else if space? b then skipped s else b ∷ s

-- the word that bytes start with
unfoldable pub word : List ℕ → List ℕ
word s = take_while in_word? s

-- what is left behind that word
unfoldable pub behind : List ℕ → List ℕ
behind s = drop (prefix_len in_word? s) s

-- a number, or why there is none
abbrev pub Number : Type 0
Number = Result ℕ Cause

-- the value of a hexadecimal digit of either case
unfoldable pub nibble_of : ℕ → Option ℕ
nibble_of b =
    if b <? code "0" then None else if b ≤? code "9" then Some (b - code "0") else
    if b <? code "A" then None else if b ≤? code "F" then Some (b - code "A" + 10) else
    if b <? code "a" then None else if b ≤? code "f" then Some (b - code "a" + 10) else None

-- the byte of two hexadecimal digits
unfoldable pub joined : (high low : Option ℕ) → Number
joined (Some h) (Some l) = Ok (h * 16 + l)
joined (Some h) None = Err BadByte
joined None (Some l) = Err BadByte
joined None None = Err BadByte

-- the byte that a word of two hexadecimal digits gives
unfoldable pub byte_of : List ℕ → Number
byte_of s = if length s == 2 then joined (nibble_of (get_or s 0 0)) (nibble_of (get_or s 1 0)) else Err BadByte

-- the number that v and the decimal digits behind it give, up to 65535
unfoldable pub digits_from : ℕ → List ℕ → Number
digits_from v [] = Ok v
digits_from v (b ∷ s) =
    if b <? code "0" then Err BadNumber else if code "9" <? b then Err BadNumber else
    if 65535 <? v * 10 + (b - code "0") then Err LargeNumber else digits_from (v * 10 + (b - code "0")) s

-- the number that a word of decimal digits gives
unfoldable pub decimal_of : List ℕ → Number
decimal_of s = if length s == 0 then Err BadNumber else digits_from 0 s

-- the 16 bits of minus a number that is at most 32768
unfoldable pub minus : Number → Number
minus (Ok v) = if 32768 <? v then Err LargeNumber else if v == 0 then Ok 0 else Ok (65536 - v)
minus (Err c) = Err c

-- the 16 bits of a number that is at most 32767
unfoldable pub plus : Number → Number
plus (Ok v) = if 32767 <? v then Err LargeNumber else Ok v
plus (Err c) = Err c

-- the 16 bits of the number, from -32768 to 32767, that a word of decimal digits, with or without a minus, gives
unfoldable pub signed_of : List ℕ → Number
signed_of s = if length s == 0 then Err BadNumber else if get_or s 0 0 == code "-" then minus (decimal_of (drop 1 s)) else plus (decimal_of s)
