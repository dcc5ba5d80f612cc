-- The look-up of an applet by its number, and of a row by its identifier, on sound tables.
-- Assumes nothing.
use Prim.Native.Nat.{ℕ, ◌≤◌}
use mathlib.Core.Path.{◌≡◌, refl, sym, ap, ◌∙◌}
use mathlib.Core.Bool.{Bool, true, false, not, ◌&&◌, ◌||◌}
use mathlib.Core.List.{List}
use lib.ListN.{get_or, set}
use borrow.Author.Tests.{eqb-true, le-leb}
use Rattle.lists.specs.Tests.{◌≤?◌}
use Rattle.std.specs.Prelude.{◌==◌}
use Rattle.lists.specs.Lists.{Every, some?, count, first, index_of, change}
use Rattle.lists.proofs.Every.{every_first}
use Rattle.lists.proofs.Firsts.{first_passes, first-missed}
use Rattle.lists.proofs.Owned.{every-own, first-both, index-both}
use Rattle.lists.proofs.Search.{first-is, change-is}
use Rattle.lists.proofs.Truth.{or-true}
use Rattle.rules.specs.Holds.{Applet, Row, Tables}
use Rattle.rules.specs.Applets.{is_number, has_number, present, applet, nobody}
use Rattle.rules.specs.Rows.{has_identifier, its_row}
use Rattle.rules.specs.Held.{no_row}
use Rattle.rules.specs.Refusals.{absent}
use Rattle.runs.specs.Sound.{SoundApplet, SoundTables}

-- an applet that is present has the number by which it is looked up
pub has-its-number : (t : Tables) (n : ℕ) → present t n ≡ true → (applet t n).number ≡ n
unfolding present applet
has-its-number t n e = eqb-true _ n (first_passes (has_number n) nobody t.applets e)

-- one that is not present is nobody
pub absent-nobody : (t : Tables) (n : ℕ) → present t n ≡ false → applet t n ≡ nobody
unfolding present applet
absent-nobody t n e = first-missed (has_number n) nobody t.applets e

module _ (t : Tables) (s : SoundTables t) where
  pub each-found : Every (λ (x : Applet). applet t x.number ≡ x) t.applets
  unfolding applet
  each-found = every-own (λ (x : Applet). x.number) nobody t.applets s.numbers_apart

  -- what holds of an applet that is present
  pub sound-applet : (n : ℕ) → present t n ≡ true → SoundApplet t.bounds (applet t n)
  unfolding present applet
  sound-applet n e = every_first (SoundApplet t.bounds) (has_number n) nobody t.applets e s.each-applet

  pub number-from : (n : ℕ) → present t n ≡ true → 1 ≤ n
  number-from n e = rw (has-its-number t n e) at (sound-applet n e).number-from

  pub number-to : (n : ℕ) → present t n ≡ true → n ≤ t.bounds.applets
  number-to n e = rw (has-its-number t n e) at (sound-applet n e).number-to

  -- no applet has a number outside 1..8
  pub absent-is : (n : ℕ) → absent t n ≡ not (present t n)
  unfolding absent is_number
  absent-is n = go (present t n) refl
    where
      go : (b : Bool) → present t n ≡ b → (not (1 ≤? n && n ≤? t.bounds.applets) || not b) ≡ not b
      go true e = rw (le-leb 1 n (number-from n e), le-leb n t.bounds.applets (number-to n e)) refl
      go false e = or-true (not (1 ≤? n && n ≤? t.bounds.applets))

  pub not-absent : (n : ℕ) → present t n ≡ true → absent t n ≡ false
  not-absent n e = absent-is n ∙ ap not e

  -- an identifier that is a row of an applet: the row that a search for the identifier finds is that applet's
  pub its-row : (n i : ℕ) → some? (λ (r : Row). r.identifier == i && r.owner == n) t.rows ≡ true → (first (has_identifier i) no_row t.rows).owner ≡ n
  its-row n i e = eqb-true _ n (first-both (has_identifier i) (λ (r : Row). r.owner == n) no_row t.rows (s.identifiers-apart i) e)

-- where identifiers are apart, the row of an applet with an identifier is the row with that identifier
module _ (rows : List Row) (n i : ℕ) (apart : count (has_identifier i) rows ≤ 1) (its : some? (its_row n i) rows ≡ true) where
  its-index : index_of (its_row n i) rows ≡ index_of (has_identifier i) rows
  its-index = sym (index-both (has_identifier i) (λ (r : Row). r.owner == n) rows apart its)

  pub its-first : first (its_row n i) no_row rows ≡ first (has_identifier i) no_row rows
  its-first = first-is (its_row n i) rows no_row ∙ ap (λ (k : ℕ). get_or rows k no_row) its-index ∙ sym (first-is (has_identifier i) rows no_row)

  pub its-change : (f : Row → Row) → change (its_row n i) f rows ≡ change (has_identifier i) f rows
  its-change f =
      change-is (its_row n i) f rows no_row ∙ ap (λ (k : ℕ). set rows k (f (get_or rows k no_row))) its-index ∙ sym (change-is (has_identifier i) f rows no_row)
