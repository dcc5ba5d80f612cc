-- A signed value that the machine tests, or passes on, by the number that its bits are read as.
-- Assumes nothing.
use mathlib.Core.Path.{◌≡◌, sym, ap, ◌∙◌}
use mathlib.Core.Bool.{Bool}
use lib.IntN.{ℤ}
use mir.Syntax.{Width}
use mir.Val.{SFits, of_z, to_z}
use mir.ValLaws.{to_z-of_z}

pub tested : (w : Width) (v : ℤ) (p : ℤ → Bool) (b : Bool) → SFits w v → p (to_z w (of_z w v)) ≡ b → p v ≡ b
tested w v p b f e = ap p (sym (to_z-of_z w v f)) ∙ e

pub passed : {A : Type 0} (w : Width) (v : ℤ) (f : ℤ → A) {r : A} → SFits w v → r ≡ f (to_z w (of_z w v)) → r ≡ f v
passed w v f fits e = e ∙ ap f (to_z-of_z w v fits)
