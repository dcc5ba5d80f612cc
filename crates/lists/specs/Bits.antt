-- A number by its bits: of n, bit j is set where f j.
use Rattle.std.specs.Prelude.{ℕ, zero, suc, ◌+◌, ◌*◌, Bool}
use Rattle.std.specs.Prelude.{if◌then◌else◌}

unfoldable pub bits_of : (n : ℕ) → (ℕ → Bool) → ℕ
bits_of zero f = 0
bits_of (suc n) f = (if f 0 then 1 else 0) + bits_of n (λ j. f (suc j)) * 2
