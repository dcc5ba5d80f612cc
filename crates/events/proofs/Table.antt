-- A `match` on a number against a table of events: what a range's arm knows, and what `_` knows.
-- Assumes nothing.
use mathlib.Core.Path.{◌≡◌, refl, sym, ap, ◌∙◌}
use mathlib.Core.Bool.{Bool, true, false}
use mathlib.Core.List.{List, [], ◌∷◌}
use Prim.Native.Nat.{ℕ, suc}
use lib.IntN.{ℤ, pos, negsuc}
use borrow.Author.Tests.{eqb-true}
use mir.Syntax.{Width}
use mir.Val.{SFits, of_z, to_z}
use mir.ValLaws.{to_z-of_z}
use types.Run.{OneOf}
use Rattle.std.specs.Prelude.{if◌then◌else◌}
use Rattle.rules.specs.declared.Kind.{Kind}
use Rattle.rules.specs.declared.Kind.TheVariants.{Event, Unsupported}
use Rattle.rules.specs.Events.{equal?, named}

-- a signed value is the number that its bits are read as
pub of-bits : (w : Width) (v : ℤ) (k : ℕ) → SFits w v → of_z w v ≡ k → v ≡ to_z w k
of-bits w v k f e = sym (to_z-of_z w v f) ∙ ap (to_z w) e

pub equal-same : (a b : ℤ) → equal? a b ≡ true → a ≡ b
equal-same (pos a) (pos b) e = ap pos (eqb-true a b e)
equal-same (pos a) (negsuc b) e = cc
equal-same (negsuc a) (pos b) e = cc
equal-same (negsuc a) (negsuc b) e = ap negsuc (eqb-true a b e)

-- what `_` knows, in the form that the check gives it: the value's bits are no number's of the list
abbrev pub Past : Width → ℤ → Type 0 → List ℤ → Type 0
Past w v N [] = N
Past w v N (z ∷ zs) = Past w v (N × (OneOf (of_z w z ∷ []) (of_z w v) → ⊥)) zs

kept : (w : Width) (v : ℤ) (N : Type 0) (zs : List ℤ) → Past w v N zs → N
kept w v N [] p = p
kept w v N (z ∷ zs) p = (kept w v (N × (OneOf (of_z w z ∷ []) (of_z w v) → ⊥)) zs p).0

step : (b : Bool) (k l : Kind) → (b ≡ true → ⊥) → l ≡ Unsupported → (if b then k else l) ≡ Unsupported
step true k l n e = absurd (n refl)
step false k l n e = e

-- so the list names nothing
pub missed : (w : Width) (v : ℤ) (N : Type 0) (i : ℕ) (zs : List ℤ) → Past w v N zs → named (equal? v) i zs ≡ Unsupported
unfolding named
missed w v N i [] p = refl
missed w v N i (z ∷ zs) p =
    let M : Type 0 = N × (OneOf (of_z w z ∷ []) (of_z w v) → ⊥) in
    step (equal? v z) (Event i) (named (equal? v) (suc i) zs) (λ e. (kept w v M zs p).1 (ap (of_z w) (equal-same v z e))) (missed w v M (suc i) zs p)
