-- The outer value: it starts within the bytes and is a run of elements.
-- Assumes nothing.
use Prim.Native.Nat.{ℕ, ◌+◌, ◌≤◌}
use mathlib.Core.Path.{◌≡◌, refl, sym, ◌∙◌, subst}
use mathlib.Core.Bool.{true}
use mathlib.Core.List.{List}
use lib.ListN.{length}
use Rattle.std.specs.Prelude.{◌==◌, Result, Ok, Err}
use Rattle.lists.proofs.Ifs.{if-holds}
use Rattle.rules.specs.declared.Malformed.{Malformed}
use Rattle.rules.specs.declared.Length.{Length}
use Rattle.rules.specs.declared.Outer.{Outer}
use Rattle.rules.specs.Bytes.{length_at, is_run, rest, outer_by, outer_of}
use Rattle.elements.proofs.Ends.{length-within}

-- what an outer tag and length say of the value
pub record Wrapped (s : List ℕ) (b : ℕ) : Type 0 where
  pub within : b ≤ length s
  pub run : is_run (rest s b) ≡ true

unfoldable OuterWraps : List ℕ → Result Outer Malformed → Type 0
OuterWraps s (Ok o) = Wrapped s o.start
OuterWraps s (Err e) = Unit {0}

outer-wraps : (s : List ℕ) → OuterWraps s (outer_of s)
unfolding outer_of outer_by OuterWraps
outer-wraps s = if-holds (OuterWraps s) (length s == 0) (λ _. tt) (λ _. go (length_at s 1) refl)
  where
    go : (r : Result Length Malformed) → length_at s 1 ≡ r → OuterWraps s (outer_by s r)
    go (Ok l) k =
        if-holds (OuterWraps s) (l.next + l.len == length s)
        (λ _. if-holds (OuterWraps s) (is_run (rest s l.next)) (λ h. record { within = length-within s 1 (sym k) refl; run = h }) (λ _. tt))
        (λ _. tt)
    go (Err e) k = tt

pub outer-wrapped : (s : List ℕ) {r : Result Outer Malformed} {o : Outer} → r ≡ outer_of s → r ≡ Ok o → Wrapped s o.start
unfolding OuterWraps
outer-wrapped s p q = subst (OuterWraps s) (sym p ∙ q) (outer-wraps s)

pub outer-within : (s : List ℕ) {r : Result Outer Malformed} {o : Outer} → r ≡ outer_of s → r ≡ Ok o → o.start ≤ length s
outer-within s p q = (outer-wrapped s p q).within
