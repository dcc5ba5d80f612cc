-- Where the handler's content stands: nowhere in a refused envelope; in an accepted one from a position to the end, and it is a run.
-- Assumes nothing.
use Prim.Native.Nat.{ℕ, ◌+◌, ◌-◌, ◌≤◌}
use native.Mathlib.Omega.{arith}
use mathlib.Core.Path.{◌≡◌, refl, sym, subst, ◌∙◌}
use mathlib.Core.Bool.{Bool, true, false}
use mathlib.Core.List.{List}
use lib.ListN.{length}
use Rattle.std.specs.Prelude.{if◌then◌else◌, Option, Some, None, Result, Ok, Err}
use Rattle.rules.specs.declared.Span.{Span}
use Rattle.rules.specs.declared.Malformed.{Malformed}
use Rattle.rules.specs.declared.Outer.{Outer}
use Rattle.rules.specs.Bytes.{is_run, rest, outer_of}
use Rattle.rules.specs.Envelopes.{envelope_of, bad_envelope, behind_length, content_at}
use Rattle.tlv.specs.Parts.{IsWithin}
use Rattle.tlv.proofs.Wraps.{outer-wrapped}

-- it lies within the envelope
pub record Placed (s : List ℕ) (start len : ℕ) : Type 0 where
  pub within : start ≤ length s
  pub to_the_end : len ≡ length s - start
  pub run : is_run (rest s start) ≡ true

abbrev PlacedAt : List ℕ → Option Span → Type 0
PlacedAt s (Some value) = Placed s value.start value.len
PlacedAt s None = Unit

content-is-placed : (s : List ℕ) → PlacedAt s (content_at s)
unfolding content_at behind_length
content-is-placed s = go (bad_envelope (envelope_of s)) (outer_of s) refl
  where
    go : (bad : Bool) (o : Result Outer Malformed) → outer_of s ≡ o → PlacedAt s (if bad then None else behind_length s o)
    go true o e = unfold behind_length in tt
    go false (Ok o) e = unfold behind_length in let w = outer-wrapped s refl e in record { within = w.within; to_the_end = refl; run = w.run }
    go false (Err m) e = unfold behind_length in tt

pub content-placed : (s : List ℕ) {f : Option Span} {value : Span} → f ≡ content_at s → f ≡ Some value → Placed s value.start value.len
content-placed s p q = subst (PlacedAt s) (sym p ∙ q) (content-is-placed s)

pub content-inside : (s : List ℕ) {f : Option Span} {value : Span} → f ≡ content_at s → f ≡ Some value → value.start + value.len ≤ length s
content-inside s p q = let w = content-placed s p q in omega (arith, w.within, w.to_the_end)

pub content-within : (s : List ℕ) {f : Option Span} → f ≡ content_at s → IsWithin s f
content-within s {f = None} e = tt
content-within s {f = Some value} e = content-inside s e refl
