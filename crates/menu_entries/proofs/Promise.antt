-- The promises of the menu list. A new row stands beside all that were there, whatever the texts, no call makes two rows of one
-- identifier, and every result stands in its one form again. Assumes nothing.
use Prim.Native.Nat.{ℕ, ◌+◌, ◌≤◌, ◌<◌}
use native.Mathlib.Omega.{arith}
use mathlib.Core.Path.{◌≡◌, refl, sym, ap, ◌∙◌}
use mathlib.Core.Bool.{Bool, true, false, not}
use mathlib.Core.List.{List, []}
use lib.ListN.{length}
use borrow.Author.Tests.{eqb-true, eqb-false, ltb-true}
use Rattle.lists.specs.Tests.{◌<?◌}
use Rattle.std.specs.Prelude.{if◌then◌else◌, ◌==◌}
use Rattle.lists.specs.Lists.{insert_at, count, keep, change}
use Rattle.lists.proofs.Padded.{length-insert_at}
use Rattle.lists.proofs.Inserted.{inserted-there, inserted-others}
use Rattle.lists.proofs.Counts.{count-insert_at, count_kept, count-change, count-missed}
use Rattle.lists.proofs.Keep.{length-keep}
use Rattle.lists.proofs.Search.{length-change}
use Rattle.rules.specs.declared.Rows.{Rows}
use Rattle.rules.specs.Holds.{Applet, Row}
use Rattle.rules.specs.Rows.{has_identifier, place, in_use, smallest_free, identifier_for, next_pair, next_identifier, with_entry, with_text, with_enabled, without_rows}
use Rattle.rules.specs.Held.{no_row, view_rows, stored_rows, TidyRows}
use Rattle.rules.proofs.Listed.{place-le, free-unused}
use Rattle.menu.specs.Table.{new_row, with_row, Beside, IdentifiersApart}
use Rattle.menu.proofs.Tidy.{tidy-stored, count-is}

-- A new row never replaces or hides another: whatever their texts, each row that was there is there, in order, and the new one besides.
pub inserted-beside : (position : ℕ) (new : Row) (rows : List Row) → Beside new rows (insert_at (place position (length rows)) new rows)
inserted-beside p x l =
    let h = place-le p (length l) in
    record {
      at = place p (length l);
      there = inserted-there (place p (length l)) x no_row l h;
      others = inserted-others (place p (length l)) x l h;
      longer = omega (arith, length-insert_at (place p (length l)) x l h);
    }

pub entry-beside : (x : Applet) (help : Bool) (text : List ℕ) (rows : List Row) → Beside (new_row (next_identifier x rows) x.number help text) rows (with_entry x help text rows)
unfolding with_entry
entry-beside x help text rows = inserted-beside (next_pair x).position _ rows

-- Of any kind there are as many rows as before, and one more if the new one is of that kind: three of one text and three of another stay six.
pub entry-counts : (kind : Row → Bool) (x : Applet) (help : Bool) (text : List ℕ) (rows : List Row) → count kind (with_entry x help text rows) ≡ count kind rows + (if kind (new_row (next_identifier x rows) x.number help text) then 1 else 0)
unfolding with_entry
entry-counts kind x help text rows = count-insert_at kind (place (next_pair x).position (length rows)) (new_row (next_identifier x rows) x.number help text) rows

-- The identifier that a new row gets is not in use, if the requested one is not.
pub identifier-unused : (requested : ℕ) (rows : List Row) → length rows < 128 → ((requested ≡ 0 → ⊥) → in_use requested rows ≡ false) → in_use (identifier_for requested rows) rows ≡ false
unfolding identifier_for
identifier-unused n rows h f = go (n == 0) refl
  where
    go : (b : Bool) → (n == 0) ≡ b → in_use (if b then smallest_free rows else n) rows ≡ false
    go true e = free-unused rows h
    go false e = f (eqb-false n 0 e)

-- Identifiers stay apart: in an empty list, and under an insertion, a deletion, a change, and a mark.
pub apart_none : IdentifiersApart []
unfolding count
apart_none i = omega arith

pub apart-inserted : (k : ℕ) (new : Row) (rows : List Row) → in_use new.identifier rows ≡ false → IdentifiersApart rows → IdentifiersApart (insert_at k new rows)
unfolding in_use
apart-inserted k x l u a i = go (x.identifier == i) refl (count-insert_at (has_identifier i) k x l)
  where
    go : (b : Bool) → (x.identifier == i) ≡ b → count (has_identifier i) (insert_at k x l) ≡ count (has_identifier i) l + (if b then 1 else 0) → count (has_identifier i) (insert_at k x l) ≤ 1
    go true e n =
        let z : count (has_identifier i) l ≡ 0 = ap (λ (j : ℕ). count (has_identifier j) l) (sym (eqb-true x.identifier i e)) ∙ count-missed (has_identifier x.identifier) l u in
        omega arith
    go false e n = omega (arith, a i)

pub apart-entry : (x : Applet) (help : Bool) (text : List ℕ) (rows : List Row) → in_use (next_identifier x rows) rows ≡ false → IdentifiersApart rows → IdentifiersApart (with_entry x help text rows)
unfolding with_entry
apart-entry x help text rows u a = apart-inserted (place (next_pair x).position (length rows)) _ rows u a

apart-keep : (p : Row → Bool) (rows : List Row) → IdentifiersApart rows → IdentifiersApart (keep p rows)
apart-keep p rows a i = omega (arith, a i, count_kept (has_identifier i) p rows)

apart-change : (p : Row → Bool) (f : Row → Row) → ((r : Row) → (f r).identifier ≡ r.identifier) → (rows : List Row) → IdentifiersApart rows → IdentifiersApart (change p f rows)
apart-change p f e rows a i = rw (count-change (has_identifier i) p f (λ r. ap (λ (n : ℕ). n == i) (e r)) rows) (a i)

pub apart-without : (applet : ℕ) (rows : List Row) → IdentifiersApart rows → IdentifiersApart (without_rows applet rows)
unfolding without_rows
apart-without n rows a = apart-keep _ rows a

pub apart-text : (applet identifier : ℕ) (help : Bool) (text : List ℕ) (rows : List Row) → IdentifiersApart rows → IdentifiersApart (with_text applet identifier help text rows)
unfolding with_text
apart-text n i help text rows a = apart-change _ _ (λ r. refl) rows a

pub apart-enabled : (applet identifier : ℕ) (enabled : Bool) (rows : List Row) → IdentifiersApart rows → IdentifiersApart (with_enabled applet identifier enabled rows)
unfolding with_enabled
apart-enabled n i b rows a = apart-change _ _ (λ r. refl) rows a

-- Every result stands in its one form again, whatever the table's: an insertion, a full list included, a deletion, a change, and a mark.
module _ (s : Rows) (t : TidyRows s) where
  few : length (view_rows s) ≤ 12
  few = omega (arith, count-is s t, t.few)

  pub tidy-inserted : (position : ℕ) (new : Row) → TidyRows (stored_rows (with_row position new (view_rows s)))
  unfolding with_row
  tidy-inserted p x = go (length (view_rows s) <? 12) refl
    where
      go : (b : Bool) → (length (view_rows s) <? 12) ≡ b → TidyRows (stored_rows (if b then insert_at (place p (length (view_rows s))) x (view_rows s) else view_rows s))
      go true e = tidy-stored _ (omega (arith, ltb-true (length (view_rows s)) 12 e, length-insert_at (place p (length (view_rows s))) x (view_rows s) (place-le p (length (view_rows s)))))
      go false e = tidy-stored (view_rows s) few

  pub tidy-without : (owner : ℕ) → TidyRows (stored_rows (without_rows owner (view_rows s)))
  unfolding without_rows
  tidy-without n = tidy-stored _ (omega (arith, few, length-keep (λ (r : Row). not (r.owner == n)) (view_rows s)))

  tidy-change : (p : Row → Bool) (f : Row → Row) → TidyRows (stored_rows (change p f (view_rows s)))
  tidy-change p f = tidy-stored _ (omega (arith, few, length-change p f (view_rows s)))

  pub tidy-text : (applet identifier : ℕ) (help : Bool) (text : List ℕ) → TidyRows (stored_rows (with_text applet identifier help text (view_rows s)))
  unfolding with_text
  tidy-text n i help text = tidy-change _ _

  pub tidy-enabled : (applet identifier : ℕ) (enabled : Bool) → TidyRows (stored_rows (with_enabled applet identifier enabled (view_rows s)))
  unfolding with_enabled
  tidy-enabled n i b = tidy-change _ _
