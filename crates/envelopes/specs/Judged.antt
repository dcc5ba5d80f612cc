-- What decides what an envelope says, and whether it is malformed: its outer tag, the element that it needs, and its help request.
use Rattle.std.specs.Prelude.{ℕ, Bool, true, false, not, List}
use Rattle.std.specs.Prelude.{if◌then◌else◌, ◌==◌, Option, Some, None, Result, Ok}
use Rattle.rules.specs.declared.Malformed.{Malformed}
use Rattle.rules.specs.declared.Span.{Span}
use Rattle.rules.specs.declared.Envelope.{Envelope}
use Rattle.rules.specs.declared.Envelope.TheVariants.{Download, Expiry}
use Rattle.rules.specs.Bytes.{found}
use Rattle.rules.specs.Envelopes.{help_in, selection}

-- D3, D4, D6 and D7 are recognized
unfoldable pub is_recognized : (tag : ℕ) → Bool
is_recognized tag = if tag == 0xD3 then true else if tag == 0xD4 then true else if tag == 0xD6 then true else if tag == 0xD7 then true else false

-- the element of one byte that is needed with D3, D6 and D7
unfoldable pub needed_by : (tag : ℕ) → ℕ
needed_by tag = if tag == 0xD3 then 0x10 else if tag == 0xD6 then 0x19 else 0x24

-- what the byte of that element says
unfoldable pub named_by : (tag : ℕ) → List ℕ → (byte : ℕ) → Result Envelope Malformed
named_by tag s byte = if tag == 0xD3 then selection (help_in (found s 0x15 1)) byte else if tag == 0xD6 then Ok (Download byte) else Ok (Expiry byte)

-- a help request with bytes
unfoldable pub is_bad_help : Option Span → Bool
is_bad_help (Some value) = not (value.len == 0)
is_bad_help None = false
