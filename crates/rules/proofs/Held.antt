-- What is stored is read back as it was: each content has exactly one form.
-- Assumes nothing.
use Prim.Native.Nat.{ℕ}
use mathlib.Core.Path.{◌≡◌, refl, sym, ap, ◌∙◌}
use mathlib.Core.List.{List, [], ◌∷◌, map}
use lib.ListN.{length, take}
use Rattle.lists.specs.Lists.{padded}
use Rattle.lists.proofs.Padded.{take-padded}
use Rattle.lists.proofs.Mapped.{map-length}
use Rattle.rules.specs.Holds.{Row, Desk}
use Rattle.rules.specs.Held.{view_row, stored_row, no_row, view_rows, stored_rows, view_desk, stored_desk}

map_rows : (l : List Row) → map view_row (map stored_row l) ≡ l
unfolding view_row stored_row
map_rows [] = refl
map_rows (x ∷ l) = rw (take-padded 15 0 x.text, map_rows l) refl

-- the list comes back out of the array that stands for the pictures of its elements
back : {A B : Type 0} (cap : ℕ) (blank : B) (f : A → B) (l : List A) → take (length l) (padded cap blank (map f l)) ≡ map f l
back cap blank f l = ap (λ (n : ℕ). take n (padded cap blank (map f l))) (sym (map-length f l)) ∙ take-padded cap blank (map f l)

pub rows_back : (l : List Row) → view_rows (stored_rows l) ≡ l
unfolding view_rows stored_rows
rows_back l = ap (map view_row) (back 12 (stored_row no_row) stored_row l) ∙ map_rows l

pub desk-back : (d : Desk) → view_desk (stored_desk d) ≡ d
unfolding view_desk stored_desk
desk-back d = rw (take-padded 20 0 d.title) refl
