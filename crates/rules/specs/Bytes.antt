-- Runs of elements and outer tags (document 01, "Reading envelopes and commands"; document 02, Ask 3).
use Rattle.std.specs.Prelude.{ℕ, zero, suc, ◌+◌, ◌-◌, ◌*◌, ◌%◌, Bool, true, false, List, [], ◌∷◌, length, get_or, take, drop}
use Rattle.lists.specs.Tests.{◌<?◌, ◌≤?◌}
use Rattle.std.specs.Prelude.{if◌then◌else◌, ◌==◌, Option, Some, None, is_some, Result, Ok, Err}
use Rattle.lists.specs.Lists.{keep, in?}
use Rattle.rules.specs.declared.Malformed.{Malformed}
use Rattle.rules.specs.declared.Length.{Length}
use Rattle.rules.specs.declared.Element.{Element}
use Rattle.rules.specs.declared.Span.{Span}
use Rattle.rules.specs.declared.Outer.{Outer}

-- the one error of the readers
abbrev pub malformed : Malformed
malformed = record {}

-- the byte at a position, counted from 0
abbrev pub byte : List ℕ → (at : ℕ) → ℕ
byte s at = get_or s at 0

-- how many bytes a tag takes, by its first: 00, 80 and FF start none, 7F three, any other one
unfoldable pub tag_size : (first : ℕ) → Result ℕ Malformed
tag_size first = if in? first (0x00 ∷ 0x80 ∷ 0xFF ∷ []) then Err malformed else if first == 0x7F then Ok 3 else Ok 1

-- the number that the tag at a position is compared by, the same object in either form (document 02, Ask 3): the low seven bits of one byte, or
-- the low 15 of the two behind 7F; the bit above them, the comprehension flag, is ignored
unfoldable pub tag_number : List ℕ → (at : ℕ) → ℕ
tag_number s at = if byte s at == 0x7F then (byte s (at + 1) * 256 + byte s (at + 2)) % 0x8000 else byte s at % 0x80

-- the length behind 81 at a position: one byte, 80..FF
unfoldable pub long_length : List ℕ → (at : ℕ) → Result Length Malformed
long_length s at =
    if length s ≤? at + 1 then Err malformed else
    if byte s (at + 1) <? 0x80 then Err malformed else Ok (record { len = byte s (at + 1); next = at + 2 })

-- the length at a position: 00..7F, or 81 followed by 80..FF; all else is malformed
unfoldable pub length_at : List ℕ → (at : ℕ) → Result Length Malformed
length_at s at =
    if length s ≤? at then Err malformed else
    if byte s at <? 0x80 then Ok (record { len = byte s at; next = at + 1 }) else
    if byte s at == 0x81 then long_length s at else Err malformed

-- an element whose value has this length: whole if the value ends within the bytes
abbrev pub element : (number : ℕ) → Length → Element
element number l = record { number = number; start = l.next; len = l.len; next = l.next + l.len }

unfoldable pub valued : List ℕ → (number : ℕ) → Result Length Malformed → Result (Option Element) Malformed
valued s number (Ok l) = if l.next + l.len ≤? length s then Ok (Some (element number l)) else Err malformed
valued s number (Err e) = Err e

-- an element whose tag takes so many bytes: malformed if no tag starts here, or no length follows
unfoldable pub element_by : List ℕ → (at : ℕ) → (size : Result ℕ Malformed) → Result (Option Element) Malformed
element_by s at (Ok size) = valued s (tag_number s at) (length_at s (at + size))
element_by s at (Err e) = Err e

-- the element at a position: a tag, a length, and that many value bytes; none where the bytes have ended
unfoldable pub element_at : List ℕ → (at : ℕ) → Result (Option Element) Malformed
element_at s at = if length s ≤? at then Ok None else element_by s at (tag_size (byte s at))

-- An element that was read: its tag's number, and where its value stands. A run: the elements that can be read, and whether they
-- fill the bytes.
pub record Tagged : Type 0 where
  pub number : ℕ
  pub value : Span

pub record Run : Type 0 where
  pub elements : List Tagged
  pub fills : Bool

-- an element and the run behind it; or the run ends here, and fills the bytes if they end here
abbrev pub tagged : Element → Tagged
tagged e = record { number = e.number; value = record { start = e.start; len = e.len } }

abbrev pub run_on : Result (Option Element) Malformed → (behind : ℕ → Run) → Run
run_on (Ok (Some e)) behind = record { elements = tagged e ∷ (behind e.next).elements; fills = (behind e.next).fills }
run_on (Err e) behind = record { elements = []; fills = false }
run_on (Ok None) behind = record { elements = []; fills = true }

-- the run from a position on, in at most so many steps; one more than there are bytes is always enough (`run_step`, crate tlv)
unfoldable pub run_by : (steps : ℕ) → List ℕ → (at : ℕ) → Run
run_by zero s at = record { elements = []; fills = false }
run_by (suc steps) s at = run_on (element_at s at) (λ next. run_by steps s next)

unfoldable pub run_at : List ℕ → (at : ℕ) → Run
run_at s at = run_by (suc (length s)) s at

-- The bytes are a run of elements that fills them exactly, perhaps none.
unfoldable pub is_run : List ℕ → Bool
is_run s = (run_at s 0).fills

-- where the value of the first of these elements stands
unfoldable pub first_value : List Tagged → Option Span
first_value [] = None
first_value (e ∷ l) = Some e.value

-- of these elements, the one with this tag number that occurs so many-th, counted from 1
unfoldable pub occurring : (tag occurrence : ℕ) → List Tagged → Option Span
occurring tag occurrence l = first_value (drop (occurrence - 1) (keep (λ (e : Tagged). e.number == tag) l))

-- Finding an element by tag number (1..7FFF) and occurrence, among those that can be read; what follows the element found is not judged.
unfoldable pub found : List ℕ → (tag occurrence : ℕ) → Option Span
found s tag occurrence =
    if occurrence == 0 then None else
    if tag == 0 then None else
    if 0x7FFF <? tag then None else occurring tag occurrence (run_at s 0).elements

-- the yes or no of a search
abbrev pub is_found : Option Span → Bool
is_found place = is_some place

-- the part of the bytes that a search gives: the value found, or the empty part
unfoldable pub part_of : List ℕ → Option Span → List ℕ
part_of s (Some value) = take value.len (drop value.start s)
part_of s None = []

-- the bytes from a position to the end
abbrev pub rest : List ℕ → (at : ℕ) → List ℕ
rest s at = drop at s

-- the outer value has this length: it ends where the bytes end, and is a run of elements
unfoldable pub outer_by : List ℕ → Result Length Malformed → Result Outer Malformed
outer_by s (Ok l) =
    if l.next + l.len == length s then
    if is_run (rest s l.next) then Ok (record { tag = byte s 0; start = l.next }) else Err malformed
    else Err malformed
outer_by s (Err e) = Err e

-- Outer: one tag byte, a length, exactly that many value bytes, nothing after.
unfoldable pub outer_of : List ℕ → Result Outer Malformed
outer_of s = if length s == 0 then Err malformed else outer_by s (length_at s 1)
