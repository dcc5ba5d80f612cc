-- What an envelope says, and whether it is malformed, step by step.
-- Assumes nothing.
use Prim.Native.Nat.{ℕ}
use native.Mathlib.Omega.{arith}
use mathlib.Core.Path.{◌≡◌, refl, ap, ◌∙◌}
use mathlib.Core.Bool.{Bool, true, false, not}
use mathlib.Core.List.{List}
use borrow.Author.Tests.{eqb-true}
use Rattle.std.specs.Prelude.{if◌then◌else◌, ◌==◌, Option, Some, None, Result, Ok, Err}
use Rattle.rules.specs.declared.Malformed.{Malformed}
use Rattle.rules.specs.declared.Span.{Span}
use Rattle.rules.specs.declared.Envelope.{Envelope}
use Rattle.rules.specs.declared.Envelope.TheVariants.{Call, Download, Expiry, Unrecognized}
use Rattle.rules.specs.Bytes.{malformed, byte, found}
use Rattle.rules.specs.Envelopes.{is_sized, only_byte, one_byte, with_byte, with_devices, help_in, selection, envelope_by, bad_envelope}
use Rattle.envelopes.specs.Judged.{is_recognized, needed_by, named_by, is_bad_help}

bad-byte : (s : List ℕ) (f : Option Span) (says : ℕ → Result Envelope Malformed) (bad : Bool) → ((b : ℕ) → bad_envelope (says b) ≡ bad)
    → bad_envelope (with_byte (only_byte s f) says) ≡ (if is_sized 1 f then bad else true)
unfolding only_byte is_sized with_byte
bad-byte s (Some value) says bad h = go (value.len == 1)
  where
    go : (b : Bool) → bad_envelope (with_byte (if b then Ok (byte s value.start) else Err malformed) says) ≡ (if b then bad else true)
    go true = h (byte s value.start)
    go false = refl
bad-byte s None says bad h = refl

bad-help : (f : Option Span) (item : ℕ) → bad_envelope (selection (help_in f) item) ≡ is_bad_help f
unfolding help_in selection is_bad_help
bad-help (Some value) item = go (value.len == 0)
  where
    go : (b : Bool) → bad_envelope (selection (if b then Ok true else Err malformed) item) ≡ not b
    go true = refl
    go false = refl
bad-help None item = refl

-- STEP BY STEP: recognized; device identities; but for call control the byte that is needed; and for a menu selection the help request
module _ (tag : ℕ) (s : List ℕ) where
  abbrev devices : Bool
  devices = is_sized 2 (found s 0x02 1)

  abbrev help : Option Span
  help = found s 0x15 1

  abbrev said_by : (known call : Bool) (element : ℕ) (says : ℕ → Result Envelope Malformed) → Result Envelope Malformed
  said_by known call element says =
      if known then (if devices then (if call then Ok Call else with_byte (one_byte s element) says) else Err malformed) else Ok Unrecognized

  pub said : envelope_by tag s ≡ said_by (is_recognized tag) (tag == 0xD4) (needed_by tag) (named_by tag s)
  unfolding envelope_by with_devices is_recognized needed_by named_by
  said = go (tag == 0xD3) (tag == 0xD6) (tag == 0xD7) (tag == 0xD4) refl refl refl refl
    where
      go : (a b c d : Bool) → (tag == 0xD3) ≡ a → (tag == 0xD6) ≡ b → (tag == 0xD7) ≡ c → (tag == 0xD4) ≡ d
          → (if a then with_devices s (with_byte (one_byte s 0x10) (selection (help_in help))) else
          if b then with_devices s (with_byte (one_byte s 0x19) (λ code. Ok (Download code))) else
          if c then with_devices s (with_byte (one_byte s 0x24) (λ timer. Ok (Expiry timer))) else
          if d then with_devices s (Ok Call) else Ok Unrecognized)
          ≡ said_by (if a then true else if d then true else if b then true else if c then true else false) d (if a then 0x10 else if b then 0x19 else 0x24)
          (λ byte. if a then selection (help_in help) byte else if b then Ok (Download byte) else Ok (Expiry byte))
      go true b c true e f g h = absurd (omega (arith, eqb-true tag 0xD3 e, eqb-true tag 0xD4 h))
      go true b c false e f g h = refl
      go false true c true e f g h = absurd (omega (arith, eqb-true tag 0xD6 f, eqb-true tag 0xD4 h))
      go false true c false e f g h = refl
      go false false true true e f g h = absurd (omega (arith, eqb-true tag 0xD7 g, eqb-true tag 0xD4 h))
      go false false true false e f g h = refl
      go false false false true e f g h = refl
      go false false false false e f g h = refl

  abbrev behind : (menu call : Bool) (element : ℕ) → Bool
  behind menu call element = if call then false else if is_sized 1 (found s element 1) then (if menu then is_bad_help help else false) else true

  bad-named : (byte : ℕ) → bad_envelope (named_by tag s byte) ≡ (if tag == 0xD3 then is_bad_help help else false)
  unfolding named_by
  bad-named byte = go (tag == 0xD3) (tag == 0xD6)
    where
      go : (a b : Bool) → bad_envelope (if a then selection (help_in help) byte else if b then Ok (Download byte) else Ok (Expiry byte)) ≡ (if a then is_bad_help help else false)
      go true b = bad-help help byte
      go false true = refl
      go false false = refl

  pub judged
      : bad_envelope (envelope_by tag s)
      ≡ (if is_recognized tag then (if devices then behind (tag == 0xD3) (tag == 0xD4) (needed_by tag) else true) else false)
  unfolding one_byte
  judged = ap bad_envelope said ∙ go (is_recognized tag) devices (tag == 0xD4)
    where
      go : (known there call : Bool)
          → bad_envelope (if known then (if there then (if call then Ok Call else with_byte (one_byte s (needed_by tag)) (named_by tag s)) else Err malformed) else Ok Unrecognized)
          ≡ (if known then (if there then behind (tag == 0xD3) call (needed_by tag) else true) else false)
      go false there call = refl
      go true false call = refl
      go true true true = refl
      go true true false = bad-byte s (found s (needed_by tag) 1) (named_by tag s) (if tag == 0xD3 then is_bad_help help else false) bad-named
