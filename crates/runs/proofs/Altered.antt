-- The entry calls and the calls of administration keep the tables sound.
-- Assumes nothing.
use Prim.Native.Nat.{ℕ}
use mathlib.Core.Path.{◌≡◌, refl}
use mathlib.Core.Bool.{Bool, true, false}
use mathlib.Core.List.{List}
use borrow.Author.Tests.{eqb-true}
use Rattle.std.specs.Prelude.{◌==◌}
use Rattle.lists.specs.Lists.{first, change}
use Rattle.lists.proofs.Decided.{both}
use Rattle.lists.proofs.Firsts.{first_passes}
use Rattle.lists.proofs.Matched.{matched-change}
use Rattle.rules.specs.Holds.{Row, Tables, Model, with_rows, with_selectable}
use Rattle.rules.specs.Rows.{its_row, with_text, with_enabled}
use Rattle.rules.specs.Held.{no_row}
use Rattle.rules.specs.Calls.{AdminCall, EntryCall, admin, entry, install, delete, lock, unlock, new_entry, change_entry, enable_entry, disable_entry}
use Rattle.rules.specs.Refusals.{refusal}
use Rattle.rules.specs.Step.{admin_tables, entry_tables}
use Rattle.runs.specs.Sound.{SoundTables}
use Rattle.runs.proofs.Filled.{installs, new-entry, ChangesEntry, changes-entry}
use Rattle.runs.proofs.Frames.{SameRow, same_row, text_limit, rows_frame}
use Rattle.runs.proofs.Registered.{changed-sound, selectable-same}
use Rattle.runs.proofs.Installed.{install-sound}
use Rattle.runs.proofs.Deleted.{delete-sound}
use Rattle.runs.proofs.Entered.{entry-sound as new-sound}

-- the applet's row with an identifier changed in what its soundness does not look at
module _ (t : Tables) (n i : ℕ) (g : SoundTables t) where
  abbrev its : Row
  its = first (its_row n i) no_row t.rows

  altered : (f : Row → Row) → SameRow (text_limit t) its (f its) → SoundTables (with_rows t (change (its_row n i) f t.rows))
  altered f h = rows_frame t _ (matched-change (SameRow (text_limit t)) (its_row n i) f no_row (same_row (text_limit t)) t.rows h) g

  text-sound : (help : Bool) (text : List ℕ) → ChangesEntry t n i text → SoundTables (with_rows t (with_text n i help text t.rows))
  unfolding with_text
  text-sound help text a =
      let owned : its.owner ≡ n = eqb-true its.owner n (both (its.identifier == i) (its.owner == n) (first_passes (its_row n i) no_row t.rows a.its)).1 in
      altered _ (record { identifier = refl; owner = refl; text-from = λ h. a.fits.from; text-limit = λ h. rw owned a.fits.to })

  enabled-sound : (b : Bool) → SoundTables (with_rows t (with_enabled n i b t.rows))
  unfolding with_enabled
  enabled-sound b = altered _ (record { identifier = refl; owner = refl; text-from = λ h. h; text-limit = λ h. h })

pub entry-sound : (m : Model) (c : EntryCall) → refusal m (entry c) ≡ 0 → SoundTables m.tables → SoundTables (entry_tables m.tables c)
unfolding entry_tables
entry-sound m (new_entry n help text) e g = new-sound m.tables g n help text (new-entry m n help text e)
entry-sound m (change_entry n i help text) e g = text-sound m.tables n i g help text (changes-entry m n i help text e)
entry-sound m (enable_entry n i) e g = enabled-sound m.tables n i g true
entry-sound m (disable_entry n i) e g = enabled-sound m.tables n i g false

pub admin-sound : (m : Model) (c : AdminCall) → refusal m (admin c) ≡ 0 → SoundTables m.tables → SoundTables (admin_tables m.tables c)
unfolding admin_tables
admin-sound m (install n r) e g = install-sound m.tables g n r (installs m n r e)
admin-sound m (delete n) e g = delete-sound m.tables g n
admin-sound m (lock n) e g = changed-sound m.tables n (with_selectable false) (selectable-same false) g
admin-sound m (unlock n) e g = changed-sound m.tables n (with_selectable true) (selectable-same true) g
