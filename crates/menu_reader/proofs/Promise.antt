-- THE MENU READER accepts exactly the bytes that some title and some rows have as their command, and answers with what they say.
-- Assumes nothing.
use Prim.Native.Nat.{ℕ}
use native.Mathlib.Omega.{arith}
use mathlib.Core.Path.{◌≡◌, refl, sym, ap, ◌∙◌}
use mathlib.Core.Bool.{Bool, true, false, not, ◌&&◌}
use mathlib.Core.List.{List, [], ◌∷◌, map}
use Rattle.lists.specs.Lists.{some?, empty?}
use Rattle.rules.specs.Holds.{Row, document}
use Rattle.rules.specs.Commands.{Item, Menu, menu_of, menu_bytes, may_stand, WrittenAs}
use Rattle.rules.specs.Beside.{ReadOutcome, menu_reader}
use Rattle.rules.proofs.Reader.{written_or_not, reader-reads}
use Rattle.menu_reader.proofs.Answer.{stands_of}

-- the bytes are the command of a title and of rows that may stand in a menu
pub record Written (s : List ℕ) : Type 0 where
  pub title : List ℕ
  pub rows : List Row
  pub stands : may_stand document (menu_of title rows) ≡ true
  pub bytes : menu_bytes (menu_of title rows) ≡ s

-- what is written from them is accepted, and they are read back
pub written-is-read : (s : List ℕ) (w : Written s) → menu_reader document s ≡ record { refusal = 0; menu = menu_of w.title w.rows }
written-is-read s w = (reader-reads document s).accepted (menu_of w.title w.rows) (record { stands = w.stands; written = w.bytes })

-- a row for an item: an enabled one of applet 1
abbrev row_for : (help : Bool) → Item → Row
row_for help i = record { identifier = i.identifier; owner = 1; text = i.text; help = help; enabled = true }

some-help : (help : Bool) (l : List Item) → some? (λ (r : Row). r.help) (map (row_for help) l) ≡ (help && not (empty? l))
unfolding some? empty?
some-help true [] = refl
some-help true (x ∷ l) = refl
some-help false [] = refl
some-help false (x ∷ l) = some-help false l

items-again : (help : Bool) (l : List Item) → map (λ (r : Row). record { identifier = r.identifier; text = r.text }) (map (row_for help) l) ≡ l
items-again help [] = refl
items-again help (x ∷ l) = ap (λ (k : List Item). x ∷ k) (items-again help l)

-- a menu with no help mark alone is that of some rows
rows_of : (m : Menu) → (m.help && empty? m.items) ≡ false → menu_of m.title (map (row_for m.help) m.items) ≡ m
unfolding menu_of
rows_of m e = rw (some-help m.help m.items, items-again m.help m.items, marked m.help (empty? m.items) e) refl
  where
    marked : (a b : Bool) → (a && b) ≡ false → (a && not b) ≡ a
    marked true b e = rw e refl
    marked false b e = refl

-- what is accepted is written from some
pub read-is-written : (s : List ℕ) → (menu_reader document s).refusal ≡ 0 → Written s
read-is-written s e = written_or_not document s some none
  where
    some : (m : Menu) → WrittenAs document s m → Written s
    some m w =
        let q : menu_of m.title (map (row_for m.help) m.items) ≡ m = rows_of m (stands_of m w.stands).marked in
        record { title = m.title; rows = map (row_for m.help) m.items; stands = ap (may_stand document) q ∙ w.stands; bytes = ap menu_bytes q ∙ w.written }

    none : ((m : Menu) → WrittenAs document s m → ⊥) → Written s
    none f = let z : ◌≡◌ {A = ℕ} 1 0 = ap (λ (r : ReadOutcome). r.refusal) (sym ((reader-reads document s).refused f)) ∙ e in absurd (omega arith)
