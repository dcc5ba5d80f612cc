-- The row of an applet with an identifier as the array holds it, and the rows with it changed.
-- Assumes nothing.
use Prim.Native.Nat.{ℕ, ◌≤◌, ◌<◌}
use native.Mathlib.Omega.{arith}
use mathlib.Core.Path.{◌≡◌, refl, sym, ap, ◌∙◌}
use mathlib.Core.Bool.{Bool, true, false, not, beq, ◌&&◌}
use mathlib.Core.List.{List, map}
use lib.ListN.{length, take, get_or, set, length-take}
use borrow.Author.Tests.{lt-ltb, le-ltb}
use Rattle.std.specs.Prelude.{◌==◌, Some, None}
use Rattle.std.specs.List.{position}
use Rattle.lists.proofs.Chains.{found-index, found-nowhere}
use Rattle.lists.specs.Lists.{padded, some?, first, index_of, change}
use Rattle.lists.proofs.Search.{some_is, changed-at, change-none, length-change}
use Rattle.lists.proofs.Mapped.{map-change, map-length}
use Rattle.rules.specs.declared.Row as held
use Rattle.rules.specs.declared.Rows.{Rows}
use Rattle.rules.specs.Holds.{Row}
use Rattle.rules.specs.Held.{view_row, stored_row, no_row, view_rows, stored_rows, TidyRows}
use Rattle.menu.specs.Table.{TidyRow}
use Rattle.menu.proofs.Tidy.{blank, row_back, tidy-row, stands, at-is, count-is, index-viewed}
use Rattle.menu.proofs.Searches.{within, held-index, held_first, held_at}
use Rattle.menu_shown.specs.Chosen.{turns_text, turns_enabled}
use Rattle.menu_shown.proofs.Answers.{enabled-turns}
use Rattle.menu_entries.specs.declared.Touched.{Touched}
use Rattle.rules.specs.Rows.{its_row}
use Rattle.menu_entries.specs.ItsRow.{with_words, with_mark, turned_by, kept_by, reworded_by, marked_by}

abbrev pub is_row : (applet identifier : ℕ) → held.Row → Bool
is_row n i x = x.identifier == i && x.owner == n

pub its-viewed : (s : Rows) (n i : ℕ) → index_of (is_row n i) (take s.count s.at) ≡ index_of (its_row n i) (view_rows s)
unfolding view_row
its-viewed s n i = index-viewed s (its_row n i)

-- A changed row as the array holds it.
change-held : (n i : ℕ) (f : Row → Row) (l : List Row) → map stored_row (change (its_row n i) f l) ≡ change (is_row n i) (λ (y : held.Row). stored_row (f (view_row y))) (map stored_row l)
unfolding stored_row
change-held n i f l = map-change stored_row (is_row n i) (λ (y : held.Row). stored_row (f (view_row y))) f (λ r. ap (λ (z : Row). stored_row (f z)) (sym (row_back r))) l

new-mark : {x : held.Row} (r : Row) {b : Bool} → x ≡ stored_row r → ◌≡◌ {A = held.Row} (record { identifier = x.identifier; owner = x.owner; help = x.help; enabled = b; text = x.text; len = x.len }) (stored_row (with_mark b r))
unfolding stored_row
new-mark r p = rw p refl

-- The search for the row found none.
module _ (s : Rows) (n i : ℕ) (t : TidyRows s) (p : None ≡ position (is_row n i) (take s.count s.at)) where
  past : length (view_rows s) ≤ index_of (its_row n i) (view_rows s)
  unfolding view_rows
  past = omega (arith, found-nowhere (is_row n i) (take s.count s.at) p, its-viewed s n i, map-length view_row (take s.count s.at))

  none-there : some? (its_row n i) (view_rows s) ≡ false
  none-there = some_is (its_row n i) (view_rows s) ∙ le-ltb (index_of (its_row n i) (view_rows s)) (length (view_rows s)) past

  none-turned : (f : Row → Row) (turns : Row → Bool) → ◌≡◌ {A = Touched} (record { rows = s; its = false; turns = false }) (turned_by (its_row n i) f turns (view_rows s))
  unfolding turned_by
  none-turned f turns = rw (change-none (its_row n i) f (view_rows s) past, none-there, ← t.form) refl

  pub none-marked : (b : Bool) → ◌≡◌ {A = Touched} (record { rows = s; its = false; turns = false }) (marked_by n i b (view_rows s))
  unfolding marked_by
  none-marked b = none-turned (with_mark b) (turns_enabled b)

  pub none-reworded : (fits help : Bool) (text : List ℕ) → ◌≡◌ {A = Touched} (record { rows = s; its = false; turns = false }) (reworded_by n i fits help text (view_rows s))
  unfolding reworded_by kept_by
  none-reworded true help text = none-turned (with_words help (take 15 text)) (turns_text help text)
  none-reworded false help text = rw (none-there, ← t.form) refl

-- The search found the row at k.
module _ (s : Rows) (n i k : ℕ) (t : TidyRows s) (p : Some k ≡ position (is_row n i) (take s.count s.at)) where
  abbrev l : List Row
  l = view_rows s

  abbrev own : Row
  own = first (its_row n i) no_row (view_rows s)

  is : k ≡ index_of (its_row n i) (view_rows s)
  is = (found-index (is_row n i) (take s.count s.at) p).0 ∙ its-viewed s n i

  h : k < s.count
  h = omega (arith, (found-index (is_row n i) (take s.count s.at) p).1, length-take s.count s.at)

  its-there : some? (its_row n i) l ≡ true
  its-there = some_is (its_row n i) l ∙ lt-ltb (index_of (its_row n i) l) (length l) (omega (arith, is, h, count-is s t))

  own_at : (d : held.Row) → get_or s.at k d ≡ stored_row own
  unfolding stored_row
  own_at d = held_at s (is_row n i) k t is h d

  changed-is : (f : Row → Row) (x : held.Row) → x ≡ stored_row (f own) → ◌≡◌ {A = Rows} (record { at = set s.at k x; count = s.count }) (stored_rows (change (its_row n i) f l))
  unfolding stored_row
  changed-is f x e =
      let g : held.Row → held.Row = λ y. stored_row (f (view_row y)) in
      let q : x ≡ g (first (is_row n i) blank (map stored_row l)) = e ∙ ap (λ (r : Row). stored_row (f r)) (sym (row_back own)) ∙ ap g (held_first s (is_row n i) k t is h) in
      let c : s.count ≡ length (change (its_row n i) f l) = count-is s t ∙ sym (length-change (its_row n i) f l) in
      stands (change (its_row n i) f l)
      (changed-at 12 blank (is_row n i) (map stored_row l) s.at (at-is s t) k x g (held-index s (is_row n i) k t is h) (within s (is_row n i) k t is h) q ∙ ap (padded 12 blank) (sym (change-held n i f l)))
      c

  one-turned : (f : Row → Row) (turns : Row → Bool) (x : held.Row) {b : Bool} → x ≡ stored_row (f own) → b ≡ turns own → ◌≡◌ {A = Touched} (record { rows = record { at = set s.at k x; count = s.count }; its = true; turns = b }) (turned_by (its_row n i) f turns l)
  unfolding turned_by
  one-turned f turns x g q = rw (changed-is f x g, its-there, q) refl

  -- the text does not fit
  pub unfit-reworded : (help : Bool) (text : List ℕ) → ◌≡◌ {A = Touched} (record { rows = s; its = true; turns = false }) (reworded_by n i false help text l)
  unfolding reworded_by kept_by
  unfit-reworded help text = rw (its-there, ← t.form) refl

  module _ (d : held.Row) where
    abbrev old : held.Row
    old = get_or s.at k d

    pub old-tidy : TidyRow old
    old-tidy = rw (own_at d) (tidy-row own)

    old-own : view_row old ≡ own
    old-own = ap view_row (own_at d) ∙ row_back own

    pub one-reworded : (help : Bool) (text : List ℕ) (x : held.Row) {b : Bool} → x ≡ stored_row (with_words help (take 15 text) (view_row old)) → b ≡ turns_text help text (view_row old) → ◌≡◌ {A = Touched} (record { rows = record { at = set s.at k x; count = s.count }; its = true; turns = b }) (reworded_by n i true help text l)
    unfolding reworded_by
    one-reworded help text x g q =
        one-turned (with_words help (take 15 text)) (turns_text help text) x (g ∙ ap (λ (r : Row). stored_row (with_words help (take 15 text) r)) old-own)
        (q ∙ ap (turns_text help text) old-own)

    pub one-marked : (b : Bool) → ◌≡◌ {A = Touched} (record { rows = record { at = set s.at k (record { identifier = old.identifier; owner = old.owner; help = old.help; enabled = b; text = old.text; len = old.len }); count = s.count }; its = true; turns = not (beq old.enabled b) }) (marked_by n i b l)
    unfolding marked_by
    one-marked b = one-turned (with_mark b) (turns_enabled b) _ (new-mark own (own_at d)) (enabled-turns _ own (own_at d) b)
