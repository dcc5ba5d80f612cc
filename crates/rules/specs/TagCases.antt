-- The cases of three-byte tags (document 02, Ask 3), about the bytes read and about `step` on a card that calls have left; proved in proofs/Cases.antt.
use Rattle.std.specs.Prelude.{ℕ, ◌≡◌, true, false, List, [], ◌∷◌, ◌++◌, Option, Some, None, Ok}
use Rattle.lists.specs.Text.{bytes}
use Rattle.rules.specs.declared.Span.{Span}
use Rattle.rules.specs.declared.Envelope.TheVariants.{Menu}
use Rattle.rules.specs.Holds.{document}
use Rattle.rules.specs.Bytes.{is_run, found}
use Rattle.rules.specs.Envelopes.{envelope_of}
use Rattle.rules.specs.Calls.{timer, arrival, proactive, allocate, envelope, send}
use Rattle.rules.specs.Beside.{menu_reader}
use Rattle.rules.specs.Cases.{refusal_after, plain, next_after, one_row}

-- a value found at a position
abbrev pub spot : (start len : ℕ) → Option Span
spot start len = Some (record { start = start; len = len })

-- an item identifier by a three-byte tag, and one by a one-byte tag behind it
abbrev pub long_then_short : List ℕ
long_then_short = bytes "7F 00 10 01 05 10 01 80"

-- an envelope, and a command that applet 1 sends, which owns timer 1
abbrev pub refusal_of : (envelope : List ℕ) → ℕ
refusal_of s = refusal_after [] (arrival (envelope s))

abbrev pub refusal_of_send : (command : List ℕ) → ℕ
refusal_of_send s = refusal_after (plain 1 8 0 ∷ timer (allocate 1) ∷ []) (proactive (send 1 s))

pub record Tags : Type 0 where
  -- 7F 00 10 and 7F 80 10 are the item identifier (10); 7F 01 10 is 0110.
  pub in-three-bytes : found (bytes "7F 00 10 01 05") 0x10 1 ≡ spot 4 1
  pub flag-ignored : found (bytes "7F 80 10 01 05") 0x10 1 ≡ spot 4 1
  pub another : found (bytes "7F 01 10 01 05") 0x10 1 ≡ None
  pub high_bits : found (bytes "7F 81 10 01 05") 0x0110 1 ≡ spot 4 1
  -- The first occurrence, and every further one, is counted over both forms.
  pub long-first : found long_then_short 0x10 1 ≡ spot 4 1
  pub short-second : found long_then_short 0x10 2 ≡ spot 7 1
  pub no_third : found long_then_short 0x10 3 ≡ None
  -- 90, FF and 7F are numbers that only three bytes have; the last is 7FFF.
  pub find-90 : found (bytes "90 01 04 7F 00 90 01 05") 0x90 1 ≡ spot 7 1
  pub find-FF : found (bytes "7F 80 FF 01 05") 0xFF 1 ≡ spot 4 1
  pub find-7F : found (bytes "7F 00 7F 01 05") 0x7F 1 ≡ spot 4 1
  pub find-7FFF : found (bytes "7F 7F FF 01 05") 0x7FFF 1 ≡ spot 4 1
  pub find-8000 : found (bytes "7F 80 00 01 05") 0x8000 1 ≡ None
  -- 7F 00 00 is an element, and matches nothing.
  pub zero-element : is_run (bytes "7F 00 00 01 05") ≡ true
  pub find-0 : found (bytes "7F 00 00 01 05") 0 1 ≡ None
  -- A choice by a three-byte tag, which was malformed; what stands first is chosen.
  pub chosen-long : next_after (one_row ++ arrival (envelope (bytes "D3 09 82 02 01 81 7F 00 10 01 80")) ∷ []) ≡ 1 ∷ []
  pub chosen-first : envelope_of (bytes "D3 0C 82 02 01 81 7F 00 10 01 05 10 01 80") ≡ Ok (Menu 5 false)
  pub not-the-item : refusal_of (bytes "D3 09 82 02 01 81 7F 01 10 01 80") ≡ 1
  -- A choice that was accepted and is malformed: a help request of one byte, an item of none, each by a three-byte tag.
  pub long-help : refusal_of (bytes "D3 0C 82 02 01 81 90 01 80 7F 00 15 01 00") ≡ 1
  pub long-item-empty : refusal_of (bytes "D3 0B 82 02 01 81 7F 00 10 00 90 01 80") ≡ 1
  -- Command details, and a timer identifier, by three-byte tags.
  pub long-details : refusal_of_send (bytes "D0 07 7F 80 01 03 01 21 00") ≡ 0
  pub long-details-of-menu : refusal_of_send (bytes "D0 07 7F 80 01 03 01 25 00") ≡ 17
  pub long-timer : refusal_of_send (bytes "D0 0A 81 03 01 27 00 7F 80 24 01 01") ≡ 0
  pub long-timer-of-another : refusal_of_send (bytes "D0 0A 81 03 01 27 00 7F 80 24 01 02") ≡ 15
  -- The outer tag is one byte, also 7F; and the menu reader takes the one-byte form only, in which commands are written.
  pub outer-7F : refusal_of (bytes "7F 00") ≡ 0
  pub outer-no-longer : refusal_of (bytes "7F 00 53 00") ≡ 1
  pub menu-short : (menu_reader document (bytes "D0 0D 81 03 01 25 00 82 02 81 82 85 00 8F 00")).refusal ≡ 0
  pub menu-long : (menu_reader document (bytes "D0 0F 7F 80 01 03 01 25 00 82 02 81 82 85 00 8F 00")).refusal ≡ 1
