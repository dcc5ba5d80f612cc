-- The letter of the call that a record makes, and the arguments of a record.
use Rattle.std.specs.Prelude.{ℕ, Bool, true, false, Option, Some, None, List, length, take, drop}
use Rattle.lists.specs.Tests.{◌<?◌, ◌≤?◌}
use Rattle.std.specs.Prelude.{if◌then◌else◌}
use Rattle.rules.specs.Bytes.{byte}
use Rattle.rules.specs.Floor.{Order, call, no_call, order_of}

-- the arguments of a record
unfoldable pub arguments_of : List ℕ → List ℕ
arguments_of r = take (byte r 2) (drop 3 r)

-- a help mark stands first, 0 or 1
unfoldable pub marks_help : List ℕ → Bool
marks_help l = if 0 <? length l then byte l 0 ≤? 1 else false

unfoldable pub makes_call : Order → Bool
makes_call (call c) = true
makes_call no_call = false

-- the letter of a record that makes a call
unfoldable pub call_letter : List ℕ → Option ℕ
call_letter r = if makes_call (order_of r) then Some (byte r 0) else None
