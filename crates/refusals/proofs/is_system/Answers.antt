-- `is_system` meets its contract: 3, 4 and 5 are tested as a range.
-- Assumes nothing.
use Prim.Native.Nat.{ℕ, ◌≤◌}
use native.Mathlib.Omega.{arith}
use mathlib.Core.Path.{◌≡◌, refl}
use mathlib.Core.Bool.{Bool, true, false, ◌||◌}
use borrow.Author.Rules.{rules}
use borrow.Author.Tests.{eqb-false, eq-eqb}
use Rattle.std.specs.Prelude.{◌==◌, Ok}
use Rattle.lists.specs.Lists.{some?, in?}
use Rattle.rules.specs.declared.Command.TheVariants.{Plain}
use Rattle.rules.specs.Envelopes.{system_type}
use Rattle.refusals.proofs.is_system.Goals as goal

between : (k : ℕ) → 3 ≤ k → k ≤ 5 → true ≡ system_type (Ok (Plain k))
unfolding system_type in? some?
between k l h = go (37 == k) (5 == k) (3 == k) refl refl
  where
    go : (a b d : Bool) → (5 == k) ≡ b → (3 == k) ≡ d → true ≡ (a || (b || (d || ((4 == k) || false))))
    go true b d e f = refl
    go false true d e f = refl
    go false false true e f = refl
    go false false false e f =
        let five = eqb-false 5 k e in
        let three = eqb-false 3 k f in
        rw (eq-eqb 4 k (omega (arith, five, three))) refl

pub returns-in_default : goal.returns-in_default
unfolding system_type in? some?
returns-in_default c = search rules

pub returns-in_default-2 : goal.returns-in_default-2
unfolding system_type in? some?
returns-in_default-2 c = search rules

pub returns-in-37 : goal.returns-in-37
unfolding system_type in? some?
returns-in-37 c = search rules

pub returns-in-37-2 : goal.returns-in-37-2
returns-in-37-2 c = between _ (omega arith) (omega arith)
