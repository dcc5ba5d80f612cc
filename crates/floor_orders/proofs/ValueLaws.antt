-- What the arguments of a record say.
-- Assumes nothing.
use Prim.Native.Nat.{ℕ, suc, ◌+◌, ◌-◌, ◌*◌, ◌<◌}
use native.Mathlib.Omega.{arith}
use mathlib.Core.Path.{◌≡◌, refl, ap, ◌∙◌}
use mathlib.Core.Bool.{Bool, true, false}
use mathlib.Core.List.{List, [], ◌∷◌}
use lib.IntN.{pos, negsuc}
use borrow.Author.Tests.{ltb-true, ltb-false}
use mir.Syntax.{w16}
use mir.Val.{to_z}
use Rattle.std.proofs.Math.Facts.{to_z_pos, to_z-neg}
use Rattle.std.specs.Prelude.{if◌then◌else◌}
use Rattle.lists.specs.Tests.{◌<?◌}
use Rattle.rules.specs.declared.Pair.{Pair}
use Rattle.rules.specs.Bytes.{byte}
use Rattle.rules.specs.Floor.{signed, request_of}

-- two bytes as a signed number
pub signed-is : (high low : ℕ) → high < 256 → low < 256 → to_z w16 (high * 256 + low) ≡ signed high low
unfolding signed
signed-is high low h l = go (high <? 128) refl
  where
    go : (b : Bool) → (high <? 128) ≡ b → to_z w16 (high * 256 + low) ≡ (if b then pos (high * 256 + low) else negsuc (65535 - (high * 256 + low)))
    go true e = let k = ltb-true high 128 e in to_z_pos w16 (omega arith)
    go false e =
        let k = ltb-false high 128 e in
        let n : high * 256 + low ≡ 65536 - suc (65535 - (high * 256 + low)) = omega arith in
        ap (to_z w16) n ∙ to_z-neg w16 (65535 - (high * 256 + low)) (omega arith)

-- the pair at a place of the bytes
abbrev pair_at : List ℕ → ℕ → Pair
pair_at l at = record { position = byte l at; identifier = byte l (at + 1) }

-- what an install asks for, byte by byte
pub request-is
    : (l : List ℕ) {p t e x : ℕ} {a b c d : Pair}
    → p ≡ byte l 0 → t ≡ byte l 1 → e ≡ byte l 2 → x ≡ byte l 3
    → a ≡ pair_at l 4 → b ≡ pair_at l 6 → c ≡ pair_at l 8 → d ≡ pair_at l 10
    → record { priority = p; timers = t; entries = e; text = x; pairs = a ∷ b ∷ c ∷ d ∷ [] } ≡ request_of l
unfolding request_of
request-is l hp ht he hx ha hb hc hd = rw (hp, ht, he, hx, ha, hb, hc, hd) refl
