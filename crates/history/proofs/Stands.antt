-- What a sound card shows may stand in a menu, and is read back as it was written.
-- Assumes nothing.
use Prim.Native.Nat.{ℕ, suc, ◌≤◌}
use native.Mathlib.Omega.{arith}
use mathlib.Core.Path.{◌≡◌, refl, ap, ◌∙◌, subst}
use mathlib.Core.Bool.{Bool, true, false, ◌&&◌, ◌||◌}
use mathlib.Core.List.{List, [], ◌∷◌, map}
use lib.ListN.{length}
use borrow.Author.Tests.{le-leb}
use Rattle.std.specs.Prelude.{if◌then◌else◌, ◌==◌}
use Rattle.lists.specs.Lists.{Every, every?, some?, keep, count, in?, repeats?, empty?}
use Rattle.lists.proofs.Decided.{same}
use Rattle.lists.proofs.Keep.{length-keep}
use Rattle.lists.proofs.Mapped.{map-length}
use Rattle.lists.proofs.Counts.{count_kept, none-counted}
use Rattle.lists.proofs.Truth.{and-false}
use Rattle.rules.specs.Holds.{Row, Bounds, Tables, Model, document}
use Rattle.rules.specs.Rows.{has_identifier}
use Rattle.rules.specs.Commands.{Item, selectable, shown_menu, menu_of, menu_bytes, proper_item, may_stand}
use Rattle.rules.specs.Beside.{menu_reader}
use Rattle.rules.proofs.Reader.{reader-reads}
use Rattle.runs.specs.Sound.{SoundRow, Sound}
use Rattle.history.specs.OnScreen.{item_of}

-- a row that may stand in a menu
abbrev Proper : Row → Type 0
Proper r = (1 ≤ r.identifier) × (r.identifier ≤ 255) × (1 ≤ length r.text) × (length r.text ≤ 15)

proper-row : (t : Tables) → t.bounds ≡ document → (r : Row) → SoundRow t r → Proper r
proper-row t e r s =
    let h : t.bounds.text ≡ 15 = ap (λ (b : Bounds). b.text) e in
    (s.identifier-from, s.identifier-to, s.text-from, omega (arith, h, s.text-to))

-- of rows that may stand, those that are kept are proper items
each-proper : (t : Tables) → t.bounds ≡ document → (p : Row → Bool) (l : List Row) → Every (SoundRow t) l → every? (proper_item document) (map item_of (keep p l)) ≡ true
unfolding every? Every keep proper_item
each-proper t e p [] s = refl
each-proper t e p (r ∷ l) s = go (p r) (proper-row t e r s.0) (each-proper t e p l s.1)
  where
    go : (b : Bool) → Proper r → every? (proper_item document) (map item_of (keep p l)) ≡ true → every? (proper_item document) (map item_of (if b then r ∷ keep p l else keep p l)) ≡ true
    go true h i = rw (le-leb 1 r.identifier h.0, le-leb r.identifier 255 h.1, le-leb 1 (length r.text) h.2, le-leb (length r.text) 15 h.3, i) refl
    go false h i = i

-- rows with identifiers apart repeat none
abbrev identifiers : List Row → List ℕ
identifiers l = map (λ (i : Item). i.identifier) (map item_of l)

in_rows : (n : ℕ) (l : List Row) → in? n (identifiers l) ≡ some? (has_identifier n) l
unfolding in? some?
in_rows n [] = refl
in_rows n (r ∷ l) = rw (in_rows n l) refl

none_in : (n : ℕ) → in? n [] ≡ false
unfolding in? some?
none_in n = refl

no-repeats : (l : List Row) → ((i : ℕ) → count (has_identifier i) l ≤ 1) → repeats? (identifiers l) [] ≡ false
unfolding repeats? count
no-repeats [] h = refl
no-repeats (r ∷ l) h =
    let s = same r.identifier in
    let k : suc (count (has_identifier r.identifier) l) ≤ 1 = subst (λ (b : Bool). (if b then suc (count (has_identifier r.identifier) l) else count (has_identifier r.identifier) l) ≤ 1) s (h r.identifier) in
    let a : in? r.identifier (identifiers l) ≡ false = in_rows r.identifier l ∙ none-counted (has_identifier r.identifier) l (omega arith) in
    let i : repeats? (identifiers l) [] ≡ false = no-repeats l (λ i. less (r.identifier == i) (h i)) in
    rw (a, none_in r.identifier, i) refl
  where
    less : {n : ℕ} (b : Bool) → (if b then suc n else n) ≤ 1 → n ≤ 1
    less true g = omega arith
    less false g = g

-- no help mark where there are no rows
none-alone : (l : List Row) → (some? (λ (r : Row). r.help) l && empty? (map item_of l)) ≡ false
unfolding some? empty?
none-alone [] = refl
none-alone (r ∷ l) = and-false (r.help || some? (λ (x : Row). x.help) l)

-- what a sound card shows may stand in a menu
pub shown-stands : (m : Model) → Sound m → m.tables.bounds ≡ document → may_stand document (menu_of m.desk.title (shown_menu m.tables)) ≡ true
unfolding may_stand menu_of shown_menu
shown-stands m s e =
    let t = m.tables in
    let p : Row → Bool = λ (r : Row). r.enabled && selectable t r.owner in
    let a : t.bounds.title ≡ 20 = ap (λ (b : Bounds). b.title) e in
    let b : t.bounds.rows ≡ 12 = ap (λ (b : Bounds). b.rows) e in
    let f : length m.desk.title ≤ 20 = omega (arith, a, s.title) in
    let g : length (map item_of (keep p t.rows)) ≤ 12 = omega (arith, b, map-length item_of (keep p t.rows), length-keep p t.rows, s.tables.few-rows) in
    let q : every? (proper_item document) (map item_of (keep p t.rows)) ≡ true = each-proper t e p t.rows s.tables.each_row in
    let r : repeats? (identifiers (keep p t.rows)) [] ≡ false = no-repeats (keep p t.rows) (λ i. few-kept i (count_kept (has_identifier i) p t.rows) (s.tables.identifiers-apart i)) in
    rw (le-leb (length m.desk.title) 20 f, le-leb (length (map item_of (keep p t.rows))) 12 g, q, r, none-alone (keep p t.rows)) refl
  where
    few-kept : (i : ℕ) {a b : ℕ} → a ≤ b → b ≤ 1 → a ≤ 1
    few-kept i h k = omega arith

-- .. and is read back as it was written
pub shown_read : (m : Model) → Sound m → m.tables.bounds ≡ document
    → menu_reader document (menu_bytes (menu_of m.desk.title (shown_menu m.tables))) ≡ record { refusal = 0; menu = menu_of m.desk.title (shown_menu m.tables) }
shown_read m s e = (reader-reads document _).accepted (menu_of m.desk.title (shown_menu m.tables)) (record { stands = shown-stands m s e; written = refl })
