-- The numbers of the refusals (documents 01 and 02; Refusals says which is given), and the number that tells of a call whether it was refused.
use Rattle.std.specs.Prelude.{ℕ, Result, Ok, Err}
use Rattle.rules.specs.declared.refused.Refused.{Refused}
use Rattle.rules.specs.declared.refused.Refused.TheVariants.{Malformed, NoApplet, NumberInUse, OutOfRange, TooManyEntries, IdentifierTwice}
use Rattle.rules.specs.declared.refused.Refused.TheVariants.{NotSupported, NotToSet, ControlOwned, AllMade, NotItsRow, BadText, TimerLimit, NoTimerFree}
use Rattle.rules.specs.declared.refused.Refused.TheVariants.{NotItsTimer, Outstanding, SystemType, ShortBuffer, NoneOutstanding, BadDuration, NoRound, RoundOpen}

unfoldable pub number_of : Refused → ℕ
number_of Malformed = 1
number_of NoApplet = 2
number_of NumberInUse = 3
number_of OutOfRange = 4
number_of TooManyEntries = 5
number_of IdentifierTwice = 6
number_of NotSupported = 7
number_of NotToSet = 8
number_of ControlOwned = 9
number_of AllMade = 10
number_of NotItsRow = 11
number_of BadText = 12
number_of TimerLimit = 13
number_of NoTimerFree = 14
number_of NotItsTimer = 15
number_of Outstanding = 16
number_of SystemType = 17
number_of ShortBuffer = 18
number_of NoneOutstanding = 19
number_of BadDuration = 20
number_of NoRound = 21
number_of RoundOpen = 22

-- the refusal's number; 0 where the call is accepted
unfoldable pub refusal_number : {A : Type 0} → Result A Refused → ℕ
refusal_number (Ok given) = 0
refusal_number (Err r) = number_of r
