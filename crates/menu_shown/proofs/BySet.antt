-- What is shown of the menu list, by the set of the selectable applets.
-- Assumes nothing.
use Prim.Native.Nat.{ℕ, ◌<◌}
use native.Mathlib.Omega.{arith}
use mathlib.Core.Path.{◌≡◌, refl, sym, ap, ◌∙◌}
use mathlib.Core.Logic.{◌⊎◌, inl, inr}
use mathlib.Core.Bool.{Bool, true, false, not, ◌&&◌}
use Rattle.lists.specs.Lists.{keep, empty?}
use Rattle.lists.proofs.Alike.{keep-alike}
use Rattle.lists.proofs.Keep.{some-keep}
use Rattle.lists.proofs.Walk.{some_alike}
use Rattle.sets.specs.Sets.{is_number, has?}
use Rattle.sets.proofs.Bits.{has-set, has-none, is-number, no_number}
use Rattle.rules.specs.Holds.{Applet, Bounds, Row, Tables, document}
use Rattle.rules.specs.Applets.{nobody, present, applet}
use Rattle.rules.specs.Commands.{selectable, shown_menu}
use Rattle.runs.specs.Sound.{SoundTables}
use Rattle.runs.proofs.Looked.{absent-nobody, number-from, number-to}
use Rattle.applets.specs.ByNumber.{at, selectable_set}
use Rattle.menu_shown.specs.Chosen.{is_shown, has_shown_row}
use Rattle.menu_shown.proofs.MenuByApplets.{selectable-is}

-- WHO IS SELECTABLE, by the set
module _ (t : Tables) (sound : SoundTables t) (e : t.bounds ≡ document) where
  outside : (n : ℕ) → is_number n ≡ false → applet t n ≡ nobody
  outside n o = go (present t n) refl
    where
      go : (b : Bool) → present t n ≡ b → applet t n ≡ nobody
      go true q = absurd (split (no_number n o))
        where
          split : (n ≡ 0) ⊎ (8 < n) → ⊥
          split (inl z) = omega (arith, number-from t sound n q)
          split (inr g) = let eight : t.bounds.applets ≡ 8 = ap (λ (b : Bounds). b.applets) e in omega (arith, number-to t sound n q, eight)
      go false q = absent-nobody t n q

  pub selectable-by : (n : ℕ) → selectable t n ≡ has? (selectable_set t.applets) n
  unfolding selectable_set applet
  selectable-by n = selectable-is t sound.numbers_apart n ∙ go (is_number n) refl
    where
      go : (b : Bool) → is_number n ≡ b → (applet t n).selectable ≡ has? (selectable_set t.applets) n
      go true q = let k = is-number n q in sym (has-set (λ k. (at t.applets k).selectable) n k.0 k.1)
      go false q = ap (λ (x : Applet). x.selectable) (outside n q) ∙ has-none _ n q

  -- so the rows that are shown by the set are the shown menu
  pub shown_by : keep (is_shown (selectable_set t.applets)) t.rows ≡ shown_menu t
  unfolding shown_menu
  shown_by = keep-alike _ _ t.rows (λ r. ap (λ (b : Bool). r.enabled && b) (sym (selectable-by r.owner)))

  -- SOME ROW IS SHOWN
  pub menu-shown : has_shown_row (selectable_set t.applets) t.rows ≡ not (empty? (shown_menu t))
  unfolding has_shown_row shown_menu
  menu-shown =
      some_alike _ _ t.rows (λ (r : Row). ap (λ (b : Bool). r.enabled && b) (sym (selectable-by r.owner)))
      ∙ some-keep (λ (r : Row). r.enabled && selectable t r.owner) t.rows
