-- What a new entry leaves of the rows: where there is room its row stands at the place, else they are as they were.
-- Assumes nothing.
use Prim.Native.Nat.{ℕ, ◌+◌, ◌≤◌, ◌<◌}
use native.Mathlib.Omega.{arith}
use mathlib.Core.Path.{◌≡◌, refl, sym, ap, ◌∙◌}
use mathlib.Core.Bool.{Bool}
use mathlib.Core.List.{List, map}
use lib.ListN.{take, set}
use Rattle.lists.proofs.Padded.{Open}
use Rattle.rules.specs.declared.Pair.{Pair}
use Rattle.rules.specs.declared.Row as held
use Rattle.rules.specs.declared.Rows.{Rows}
use Rattle.rules.specs.Rows.{place, identifier_for}
use Rattle.rules.specs.Held.{stored_row, view_rows, stored_rows, TidyRows}
use Rattle.menu.specs.Table.{new_row}
use Rattle.menu.proofs.Tidy.{blank, count-is, puts, inserted-room, inserted-full}
use Rattle.menu_entries.specs.declared.Added.{Added}
use Rattle.menu_entries.specs.ItsRow.{entered_by}

module _ (s : Rows) (t : TidyRows s) (p : Pair) (owner : ℕ) (help : Bool) (text : List ℕ) {i : ℕ} (is : i ≡ identifier_for p.identifier (view_rows s)) where
  pub entered-full : 12 ≤ s.count → ◌≡◌ {A = Added} (record { rows = s; identifier = i }) (entered_by p owner help text (view_rows s))
  unfolding entered_by
  entered-full h = rw (inserted-full p.position (new_row (identifier_for p.identifier (view_rows s)) owner help (take 15 text)) (view_rows s) (omega (arith, count-is s t)), is, ← t.form) refl

  pub entered-room
      : (k : ℕ) (at : List held.Row) {x : held.Row}
      → s.count < 12
      → x ≡ stored_row (new_row i owner help (take 15 text))
      → k ≡ place p.position s.count
      → Open 12 blank (map stored_row (view_rows s)) k at
      → ◌≡◌ {A = Added} (record { rows = record { at = set at k x; count = s.count + 1 }; identifier = i }) (entered_by p owner help text (view_rows s))
  unfolding entered_by
  entered-room k at {x} h e f o =
      let new = new_row i owner help (take 15 text) in
      let q = puts s p.position k at x new t e f o ∙ ap stored_rows (sym (inserted-room p.position new (view_rows s) (omega (arith, count-is s t)))) in
      rw (q, is) refl
