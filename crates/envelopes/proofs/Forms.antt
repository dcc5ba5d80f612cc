-- Either form of a tag says the same: the card answers an envelope, and a command given to send, by the objects in it, in whichever form.
-- Assumes nothing.
use Prim.Native.Nat.{ℕ, zero, suc, ◌+◌, ◌≤◌}
use native.Mathlib.Omega.{arith}
use mathlib.Core.Path.{◌≡◌, refl, sym, ap, ap₂, ◌∙◌}
use mathlib.Core.Bool.{Bool, true, false}
use mathlib.Core.List.{List, [], ◌∷◌}
use lib.ListN.{length, get_or, drop, length-drop}
use lib.Seq.{length-take-le, get_or-take, get_or-drop}
use borrow.Author.Tests.{eqb-true}
use Rattle.std.specs.Prelude.{if◌then◌else◌, ◌==◌, Option, Some, None, Result, Ok, Err}
use Rattle.lists.specs.Lists.{Every}
use Rattle.rules.specs.declared.Span.{Span}
use Rattle.rules.specs.declared.Malformed.{Malformed}
use Rattle.rules.specs.declared.Envelope.{Envelope}
use Rattle.rules.specs.declared.Envelope.TheVariants.{Call, Download, Expiry, Unrecognized}
use Rattle.rules.specs.declared.Command.{Command}
use Rattle.rules.specs.declared.Command.TheVariants.{Plain, Timer}
use Rattle.rules.specs.Holds.{Model}
use Rattle.rules.specs.Bytes.{malformed, byte, found, part_of, outer_of}
use Rattle.rules.specs.Envelopes.{is_sized, only_byte, one_byte, with_byte, with_devices, help_in, selection, envelope_by, with_outer, envelope_of, type_in, of_type, command_by, command_of}
use Rattle.rules.specs.Calls.{arrival, proactive, envelope, send}
use Rattle.rules.specs.Refusals.{arrival_lines, proactive_lines, lines, refusal}
use Rattle.rules.specs.Rounds.{arrived_with}
use Rattle.rules.specs.Step.{tables_after, round_after, arrival_desk, proactive_desk, desk_after, changed, arrival_answer, answer, lent, written, outcome, step}
use Rattle.tlv.specs.Written.{Written, Writable, run_bytes, outer_bytes, objects, value_at}
use Rattle.tlv.proofs.Runs.{found_inside}
use Rattle.tlv.proofs.Forms.{either-form-is-the-same-object, outer-here, rest-outer}

-- WHAT A SEARCH SAYS, by the value that it gives
module _ (s : List ℕ) (value : Span) (inside : value.start + value.len ≤ length s) where
  abbrev part : List ℕ
  part = part_of s (Some value)

  part-long : length part ≡ value.len
  unfolding part_of
  part-long = length-take-le value.len (drop value.start s) (omega (arith, length-drop value.start s))

  part-byte : (k : ℕ) → suc k ≤ value.len → get_or part k 0 ≡ byte s (value.start + k)
  unfolding part_of
  part-byte k h = get_or-take value.len (drop value.start s) k 0 h ∙ get_or-drop value.start s k 0

sized_by : (len : ℕ) → List (List ℕ) → Bool
sized_by len [] = false
sized_by len (v ∷ l) = length v == len

byte_by : (size at : ℕ) → List (List ℕ) → Result ℕ Malformed
byte_by size at [] = Err malformed
byte_by size at (v ∷ l) = if length v == size then Ok (get_or v at 0) else Err malformed

help_by : List (List ℕ) → Result Bool Malformed
help_by [] = Ok false
help_by (v ∷ l) = if length v == 0 then Ok true else Err malformed

Inside : List ℕ → Option Span → Type 0
Inside s f = (value : Span) → f ≡ Some value → value.start + value.len ≤ length s

module _ (s : List ℕ) where
  sized-by : (len : ℕ) (f : Option Span) → Inside s f → is_sized len f ≡ sized_by len (value_at s f)
  unfolding is_sized sized_by value_at Inside
  sized-by len (Some value) i = rw (part-long s value (i value refl)) refl
  sized-by len None i = refl

  help-by : (f : Option Span) → Inside s f → help_in f ≡ help_by (value_at s f)
  unfolding help_in help_by value_at Inside
  help-by (Some value) i = rw (part-long s value (i value refl)) refl
  help-by None i = refl

  byte-if : (size at : ℕ) (value : Span) → Inside s (Some value) → suc at ≤ size
      → (if value.len == size then Ok (byte s (value.start + at)) else Err malformed) ≡ byte_by size at (value_at s (Some value))
  unfolding byte_by value_at Inside
  byte-if size at value i h = rw (part-long s value (i value refl)) (go (value.len == size) refl)
    where
      go : (b : Bool) → (value.len == size) ≡ b → (if b then Ok (byte s (value.start + at)) else Err malformed) ≡ (if b then Ok (get_or (part s value (i value refl)) at 0) else Err malformed)
      go true e = ap Ok (sym (part-byte s value (i value refl) at (omega (arith, eqb-true value.len size e))))
      go false e = refl

  only-by : (f : Option Span) → Inside s f → only_byte s f ≡ byte_by 1 0 (value_at s f)
  unfolding only_byte byte_by value_at
  only-by (Some value) i = let z : value.start ≡ value.start + 0 = omega arith in ap (λ n. if value.len == 1 then Ok (byte s n) else Err malformed) z ∙ byte-if 1 0 value i (omega arith)
  only-by None i = refl

  type-by : (f : Option Span) → Inside s f → type_in s f ≡ byte_by 3 1 (value_at s f)
  unfolding type_in byte_by value_at
  type-by (Some value) i = byte-if 3 1 value i (omega arith)
  type-by None i = refl

-- WHAT AN ENVELOPE AND A COMMAND SAY, by the values looked up
abbrev look : List ℕ → (tag : ℕ) → List (List ℕ)
look s tag = value_at s (found s tag 1)

abbrev envelope_from : (tag : ℕ) (devices item help code timer : List (List ℕ)) → Result Envelope Malformed
envelope_from tag devices item help code timer =
    if tag == 0xD3 then (if sized_by 2 devices then with_byte (byte_by 1 0 item) (selection (help_by help)) else Err malformed) else
    if tag == 0xD6 then (if sized_by 2 devices then with_byte (byte_by 1 0 code) (λ code. Ok (Download code)) else Err malformed) else
    if tag == 0xD7 then (if sized_by 2 devices then with_byte (byte_by 1 0 timer) (λ timer. Ok (Expiry timer)) else Err malformed) else
    if tag == 0xD4 then (if sized_by 2 devices then Ok Call else Err malformed) else Ok Unrecognized

abbrev command_from : (tag : ℕ) (type timer : Result ℕ Malformed) → Result Command Malformed
command_from tag type timer =
    if tag == 0xD0 then with_byte type (λ t. if t == 0x27 then with_byte timer (λ timer. Ok (Timer timer)) else Ok (Plain t)) else Err malformed

module _ (s : List ℕ) where
  inside : (tag : ℕ) → Inside s (found s tag 1)
  unfolding Inside
  inside tag value e = found_inside s tag 1 refl e

  envelope-by : (tag : ℕ) → envelope_by tag s ≡ envelope_from tag (look s 0x02) (look s 0x10) (look s 0x15) (look s 0x19) (look s 0x24)
  unfolding envelope_by with_devices one_byte
  envelope-by tag =
      rw (
        sized-by s 2 (found s 0x02 1) (inside 0x02),
        only-by s (found s 0x10 1) (inside 0x10),
        help-by s (found s 0x15 1) (inside 0x15),
        only-by s (found s 0x19 1) (inside 0x19),
        only-by s (found s 0x24 1) (inside 0x24),
      ) refl

  command-by : (tag : ℕ) → command_by tag s ≡ command_from tag (byte_by 3 1 (look s 0x01)) (byte_by 1 0 (look s 0x24))
  unfolding command_by of_type one_byte
  command-by tag = ap₂ (command_from tag) (type-by s (found s 0x01 1) (inside 0x01)) (only-by s (found s 0x24 1) (inside 0x24))

-- IN WHICHEVER FORM: of the same objects under the same outer tag
module _ (l k : List Written) (w : Every Writable l) (v : Every Writable k) (same : objects l ≡ objects k) where
  looks : (tag : ℕ) → look (run_bytes l) tag ≡ look (run_bytes k) tag
  looks tag = either-form-is-the-same-object l k w v same tag 1

  envelope-same : (tag : ℕ) → envelope_by tag (run_bytes l) ≡ envelope_by tag (run_bytes k)
  envelope-same tag =
      envelope-by (run_bytes l) tag
      ∙ rw (looks 0x02, looks 0x10, looks 0x15, looks 0x19, looks 0x24) refl
      ∙ sym (envelope-by (run_bytes k) tag)

  command-same : (tag : ℕ) → command_by tag (run_bytes l) ≡ command_by tag (run_bytes k)
  command-same tag = command-by (run_bytes l) tag ∙ rw (looks 0x01, looks 0x24) refl ∙ sym (command-by (run_bytes k) tag)

outer-says : {A : Type 0} (tag : ℕ) (l : List Written) → Every Writable l → length (run_bytes l) ≤ 0xFF → (says : ℕ → List ℕ → Result A Malformed)
    → with_outer (outer_bytes tag l) (outer_of (outer_bytes tag l)) says ≡ says tag (run_bytes l)
unfolding with_outer
outer-says tag l w h says = rw (outer-here tag l w h, rest-outer tag l) refl

-- THE CARD goes by what the bytes say
module _ (m : Model) (a b : List ℕ) where
  arrives-alike : envelope_of a ≡ envelope_of b → step m (arrival (envelope a)) ≡ step m (arrival (envelope b))
  unfolding step refusal lines arrival_lines outcome changed tables_after desk_after arrival_desk round_after arrived_with answer arrival_answer written lent
  arrives-alike e = rw e (after (refusal m (arrival (envelope b))))
    where
      after : (n : ℕ) → outcome n m (arrival (envelope a)) ≡ outcome n m (arrival (envelope b))
      after zero = rw e refl
      after (suc n) = refl

  sent-alike : (n : ℕ) → command_of a ≡ command_of b → step m (proactive (send n a)) ≡ step m (proactive (send n b))
  unfolding step refusal lines proactive_lines outcome changed tables_after desk_after proactive_desk round_after answer written lent
  sent-alike n e = rw e (after (refusal m (proactive (send n b))))
    where
      after : (r : ℕ) → outcome r m (proactive (send n a)) ≡ outcome r m (proactive (send n b))
      after zero = refl
      after (suc r) = refl

-- EITHER FORM IS ANSWERED ALIKE, whatever the card
module _ (m : Model) (tag : ℕ) (l k : List Written) (w : Every Writable l) (v : Every Writable k) (g : length (run_bytes l) ≤ 0xFF) (h : length (run_bytes k) ≤ 0xFF)
    (same : objects l ≡ objects k) where
  pub envelope-in-either-form : step m (arrival (envelope (outer_bytes tag l))) ≡ step m (arrival (envelope (outer_bytes tag k)))
  unfolding envelope_of
  envelope-in-either-form =
      arrives-alike m (outer_bytes tag l) (outer_bytes tag k)
      (outer-says tag l w g envelope_by ∙ envelope-same l k w v same tag ∙ sym (outer-says tag k v h envelope_by))

  pub send-in-either-form : (n : ℕ) → step m (proactive (send n (outer_bytes tag l))) ≡ step m (proactive (send n (outer_bytes tag k)))
  unfolding command_of
  send-in-either-form n =
      sent-alike m (outer_bytes tag l) (outer_bytes tag k) n
      (outer-says tag l w g command_by ∙ command-same l k w v same tag ∙ sym (outer-says tag k v h command_by))
