-- The floor program (document 01, "The floor program"): records of 24 bytes, and a line for each.
use Rattle.std.specs.Prelude.{ℕ, zero, suc, ◌+◌, ◌-◌, ◌*◌, ◌/◌, ◌%◌, Bool, ◌&&◌, List, [], ◌∷◌, ◌++◌, length, take, drop, replicate, ℤ, pos, negsuc}
use Prim.Native.Char.{code}
use Rattle.lists.specs.Tests.{◌<?◌, ◌≤?◌}
use Rattle.std.specs.Prelude.{if◌then◌else◌, ◌==◌}
use Rattle.lists.specs.Lists.{every?, gather, in?, empty?}
use Rattle.lists.specs.Text.{ascii}
use Rattle.rules.specs.declared.Pair.{Pair}
use Rattle.rules.specs.declared.Request.{Request}
use Rattle.rules.specs.Holds.{Model, fresh, document}
use Rattle.rules.specs.Bytes.{byte}
use Rattle.rules.specs.Calls.{Outcome, Call, admin, event, entry, timer, arrival, next, proactive, system_command}
use Rattle.rules.specs.Calls.{install, delete, lock, unlock, set_event, clear_event, new_entry, allocate, envelope, profile, settled, response}
use Rattle.rules.specs.Step.{step}

-- The letters that are known.
unfoldable pub letters : List ℕ
letters = ascii "IMECPSONWRTDLU"

-- What a record makes: a call, or none.
pub data Order : Type 0 where
  call : Call → Order
  no_call : Order

-- a call only where the record is filled as the letter takes it
abbrev pub only_if : Bool → Call → Order
only_if b c = if b then call c else no_call

-- the signed number that two bytes give, high first
unfoldable pub signed : (high low : ℕ) → ℤ
signed high low = if high <? 128 then pos (high * 256 + low) else negsuc (65535 - (high * 256 + low))

-- what the arguments of an install ask for: priority, timers, entries, text, four position-identifier pairs
unfoldable pub request_of : List ℕ → Request
request_of l =
    record {
      priority = byte l 0;
      timers = byte l 1;
      entries = byte l 2;
      text = byte l 3;
      pairs = pair_at l 4 ∷ pair_at l 6 ∷ pair_at l 8 ∷ pair_at l 10 ∷ [];
    }
  where
    pair_at : List ℕ → (at : ℕ) → Pair
    pair_at l at = record { position = byte l at; identifier = byte l (at + 1) }

-- the order of a letter, an applet, and the n arguments l
unfoldable pub order_by : (letter applet n : ℕ) → List ℕ → Order
order_by x a n l =
    if x == code "I" then only_if (n == 12) (admin (install a (request_of l))) else
    if x == code "M" then only_if (1 ≤? n && byte l 0 ≤? 1) (entry (new_entry a (byte l 0 == 1) (drop 1 l))) else
    if x == code "E" then only_if (n == 2) (event (set_event a (signed (byte l 0) (byte l 1)))) else
    if x == code "C" then only_if (n == 2) (event (clear_event a (signed (byte l 0) (byte l 1)))) else
    if x == code "P" then only_if (a == 0) (arrival (profile l)) else
    if x == code "S" then only_if (a == 0) (arrival (envelope l)) else
    if x == code "O" then only_if (n == 0 && a == 0) (arrival settled) else
    if x == code "N" then only_if (n == 0 && a == 0) next else
    if x == code "W" then only_if (n == 0 && a == 0) (system_command (replicate 256 0)) else
    if x == code "R" then only_if (n == 0 && a == 0) (proactive response) else
    if x == code "T" then only_if (n == 0) (timer (allocate a)) else
    if x == code "D" then only_if (n == 0) (admin (delete a)) else
    if x == code "L" then only_if (n == 0) (admin (lock a)) else
    if x == code "U" then only_if (n == 0) (admin (unlock a)) else no_call

-- the record is whole, n is at most 20, and the bytes behind the arguments are 00
unfoldable pub filled : List ℕ → Bool
filled r = length r == 24 && byte r 2 ≤? 20 && every? (λ x. x == 0) (drop (byte r 2 + 3) r)

-- A record: letter, applet, count n, 20 argument bytes, 00.
unfoldable pub order_of : List ℕ → Order
order_of r = if filled r then order_by (byte r 0) (byte r 1) (byte r 2) (take (byte r 2) (drop 3 r)) else no_call

-- the answer that is printed after an accepted call: the identifier or timer, the one called, the command
unfoldable pub shown_answer : Call → Outcome → List ℕ
shown_answer (admin c) o = []
shown_answer (event c) o = []
shown_answer (entry c) o = o.answer.number ∷ []
shown_answer (timer c) o = o.answer.number ∷ []
shown_answer (arrival c) o = []
shown_answer next o = o.answer.called
shown_answer (proactive c) o = []
shown_answer (system_command buffer) o = take o.answer.number o.buffer

-- the character of a digit, to F
unfoldable pub digit : ℕ → ℕ
digit n = if n <? 10 then code "0" + n else code "A" + (n - 10)

-- numbers in decimal, by at most so many digits behind the first, and bytes in upper hex
unfoldable pub decimal_by : (most n : ℕ) → List ℕ
decimal_by zero n = digit n ∷ []
decimal_by (suc k) n = if n <? 10 then digit n ∷ [] else decimal_by k (n / 10) ++ digit (n % 10) ∷ []

unfoldable pub decimal : ℕ → List ℕ
decimal n = decimal_by n n

unfoldable pub hex : List ℕ → List ℕ
hex l = gather (λ b. digit (b / 16) ∷ digit (b % 16) ∷ []) l

abbrev pub dash : List ℕ
dash = code "-" ∷ []

-- a line: record number, letter (? if none known), refusal (- if no call), answer in upper hex (- if empty)
unfoldable pub line_of : (number letter : ℕ) (refusal answer : List ℕ) → List ℕ
line_of k letter refusal answer =
    decimal k ++ code " " ∷ (if in? letter letters then letter else code "?")
    ∷ code " " ∷ refusal ++ code " " ∷ (if empty? answer then dash else hex answer) ++ code "\n" ∷ []

-- what a record leaves of the card, and its line
pub record Obeyed : Type 0 where
  pub card : Model
  pub line : List ℕ

unfoldable pub obeyed : (number letter : ℕ) → Call → Outcome → Obeyed
obeyed k letter c o =
    record {
      card = o.after;
      line = line_of k letter (decimal o.answer.refusal) (if o.answer.refusal == 0 then shown_answer c o else []);
    }

unfoldable pub obey : (number letter : ℕ) → Model → Order → Obeyed
obey k letter m (call c) = obeyed k letter c (step m c)
obey k letter m no_call = record { card = m; line = line_of k letter dash [] }

-- The record with number k.
unfoldable pub step_line : (number : ℕ) → Model → (record-bytes : List ℕ) → Obeyed
step_line k m r = obey k (byte r 0) m (order_of r)

-- the lines of the records from number k on, by at most so many; nothing left makes no line
unfoldable pub lines_by : (most number : ℕ) → Model → List ℕ → List ℕ
lines_by zero k m s = []
lines_by (suc n) k m s =
    if empty? s then [] else
    let o = step_line k m (take 24 s) in
    o.line ++ lines_by n (suc k) o.card (drop 24 s)

-- THE FLOOR PROGRAM: what it writes for what it reads. The title is empty.
unfoldable pub floor_lines : List ℕ → List ℕ
floor_lines s = lines_by (length s) 1 (fresh document []) s
