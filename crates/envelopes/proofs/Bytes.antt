-- The bytes of a value that was found are there to be read.
-- Assumes nothing.
use Prim.Native.Nat.{ℕ, ◌+◌, ◌*◌, ◌^◌, ◌<◌}
use native.Mathlib.Omega.{arith}
use mir.Val.{Fits}
use mir.Syntax.{w64}
use mathlib.Core.Path.{◌≡◌, refl}
use mathlib.Core.List.{List}
use lib.ListN.{length}
use Rattle.std.specs.Prelude.{Some}
use Rattle.rules.specs.declared.Span.{Span}
use Rattle.rules.specs.Bytes.{found}
use Rattle.tlv.proofs.Runs.{found_inside}

module _ (s : List ℕ) (tag n : ℕ) {p : Span} (e : found s tag n ≡ Some p) where
  pub found_byte : p.len ≡ 1 → p.start < length s
  found_byte o = omega (arith, found_inside s tag n refl e)

  pub found_second : p.len ≡ 3 → p.start + 1 < length s
  found_second o = omega (arith, found_inside s tag n refl e)

  pub second_fits : p.len ≡ 3 → length s * 1 < 2 ^ 63 → Fits w64 (p.start + 1)
  second_fits o g = omega (arith, found_inside s tag n refl e)
