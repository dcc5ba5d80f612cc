-- The menu reader: a menu command read back gives the title, the help mark and the items it was written from; the reader accepts just what
-- can be written, with the menu that is so written, and no second answer does.
-- Assumes nothing.
use Prim.Native.Nat.{ℕ, zero, suc, ◌-◌, ◌≤◌}
use native.Mathlib.Omega.{arith}
use mathlib.Core.Path.{◌≡◌, refl, sym, ap, ◌∙◌}
use mathlib.Core.Bool.{Bool, true, false, not, ◌&&◌, and-eq-true_iff, false≢true}
use mathlib.Core.List.{List, [], ◌∷◌, ◌++◌, map}
use lib.ListN.{length}
use lib.Seq.{take-append_seam, drop-append_seam}
use lib.Dec.{eqb, eqb-suc-zero}
use borrow.Author.Tests.{ltb-true, leb-true, eqb-true, ne_eqb}
use Rattle.lists.specs.Tests.{◌<?◌, ◌≤?◌}
use Rattle.std.specs.Prelude.{if◌then◌else◌, ◌==◌}
use Rattle.lists.specs.Lists.{gather, empty?, alike?, same?, every?, repeats?}
use Rattle.rules.specs.Holds.{Bounds}
use Rattle.rules.specs.Commands.{Item, Menu, length_bytes, command_bytes, detail_bytes, item_bytes, items_bytes, menu_value, menu_bytes, read_items, parts_of, value_of, read_menu, proper_item, may_stand, WrittenAs, is_menu}
use Rattle.rules.specs.Refusals.{first_holding}
use Rattle.rules.specs.Beside.{ReadOutcome, no_menu, Reads, read_by, menu_reader}
use Rattle.lists.proofs.Alike.{same_self}
use Rattle.lists.proofs.Decided.{clashing}

-- lists that are alike by the numbers' own test are the same
pub same_true : (l k : List ℕ) → same? l k ≡ true → l ≡ k
unfolding same? alike?
same_true [] [] e = refl
same_true [] (y ∷ k) e = absurd (false≢true e)
same_true (x ∷ l) [] e = absurd (false≢true e)
same_true (x ∷ l) (y ∷ k) e =
    let h = (and-eq-true_iff (eqb x y) (same? l k)).0 e in
    let p : x ≡ y = eqb-true x y h.0 in
    let q : l ≡ k = same_true l k h.1 in
    rw (p, q) refl

-- the items come back
items_back : (k : ℕ) (l : List Item) → length l ≤ k → read_items k (gather item_bytes l) ≡ l
unfolding read_items gather item_bytes
items_back zero [] h = refl
items_back (suc k) [] h = refl
items_back zero (x ∷ l) h = absurd (omega arith)
items_back (suc k) (x ∷ l) h =
    let r : read_items k (gather item_bytes l) ≡ l = items_back k l (omega arith) in
    let e : suc (length x.text) - 1 ≡ length x.text = omega arith in
    rw (eqb-suc-zero (length x.text), e, take-append_seam x.text (gather item_bytes l), drop-append_seam x.text (gather item_bytes l), r) refl

none-back : (k : ℕ) → read_items k (0x8F ∷ 0x00 ∷ []) ≡ []
unfolding read_items
none-back zero = refl
none-back (suc k) = refl

all_back : (k : ℕ) (l : List Item) → length l ≤ k → read_items k (items_bytes l) ≡ l
unfolding items_bytes empty?
all_back k [] h = none-back k
all_back k (x ∷ l) h = items_back k (x ∷ l) h

-- the value comes back from behind the length
value-back : (v : List ℕ) → value_of (command_bytes v) ≡ v
unfolding value_of command_bytes length_bytes
value-back v = go (length v <? 0x80) refl
  where
    go : (b : Bool) → (length v <? 0x80) ≡ b → value_of (0xD0 ∷ (if b then length v ∷ [] else 0x81 ∷ length v ∷ []) ++ v) ≡ v
    go true e = rw (ne_eqb (length v) 0x81 (λ z. absurd (omega (arith, ltb-true (length v) 0x80 e)))) refl
    go false e = refl

-- q gives the help mark
help-back : (h : Bool) → not ((if h then 0x80 else 0x00) == 0x00) ≡ h
help-back true = refl
help-back false = refl

-- the parts come back from the value
parts-back : (k : ℕ) (m : Menu) → length m.items ≤ k → parts_of k (menu_value m) ≡ m
unfolding parts_of menu_value detail_bytes
parts-back k m h =
    let r : read_items k (items_bytes m.items) ≡ m.items = all_back k m.items h in
    rw (take-append_seam m.title (items_bytes m.items), drop-append_seam m.title (items_bytes m.items), r, help-back m.help) refl

-- a menu that may stand has no more items than rows
second : (a c d e f : Bool) → (a && c && d && e && f) ≡ true → c ≡ true
second a true d e f h = refl
second true false d e f h = h
second false false d e f h = h

few : (b : Bounds) (m : Menu) → may_stand b m ≡ true → length m.items ≤ b.rows
unfolding may_stand
few b m h = leb-true (length m.items) b.rows (second (length m.title ≤? b.title) _ (every? (proper_item b) m.items) (not (repeats? (map (λ (i : Item). i.identifier) m.items) [])) (not (m.help && empty? m.items)) h)

-- A MENU COMMAND READ BACK gives the title, the help mark and the items it was written from, ..
pub read_back : (b : Bounds) (m : Menu) → length m.items ≤ b.rows → read_menu b (menu_bytes m) ≡ m
unfolding read_menu menu_bytes
read_back b m h = ap (parts_of b.rows) (value-back (menu_value m)) ∙ parts-back b.rows m h

-- .. so TWO MENUS NEVER HAVE THE SAME BYTES: equal titles or texts join no rows, and none is lost.
pub one-menu-for-the-bytes : (b : Bounds) (x y : Menu) → length x.items ≤ b.rows → length y.items ≤ b.rows → menu_bytes x ≡ menu_bytes y → x ≡ y
one-menu-for-the-bytes b x y p q e = sym (read_back b x p) ∙ ap (read_menu b) e ∙ read_back b y q

-- THE READER ACCEPTS every menu that may stand, written ..
pub accepts : (b : Bounds) (m : Menu) → may_stand b m ≡ true → is_menu b (menu_bytes m) ≡ true
unfolding is_menu
accepts b m h =
    let e : read_menu b (menu_bytes m) ≡ m = read_back b m (few b m h) in
    rw e ((and-eq-true_iff (may_stand b m) (same? (menu_bytes m) (menu_bytes m))).1 (h, same_self (menu_bytes m)))

-- .. AND NOTHING ELSE.
pub only-written : (b : Bounds) (s : List ℕ) → is_menu b s ≡ true → WrittenAs b s (read_menu b s)
unfolding is_menu
only-written b s h =
    let k = (and-eq-true_iff (may_stand b (read_menu b s)) (same? (menu_bytes (read_menu b s)) s)).0 h in
    record { stands = k.0; written = same_true (menu_bytes (read_menu b s)) s k.1 }

module _ (b : Bounds) (bytes : List ℕ) where
  judged : (m : Menu) → WrittenAs b bytes m → is_menu b bytes ≡ true
  judged m w = ap (is_menu b) (sym w.written) ∙ accepts b m w.stands

  its-menu : (m : Menu) → WrittenAs b bytes m → read_menu b bytes ≡ m
  its-menu m w = ap (read_menu b) (sym w.written) ∙ read_back b m (few b m w.stands)

  -- some menu is written as the bytes, or none
  pub written_or_not : {P : Type 0} → ((m : Menu) → WrittenAs b bytes m → P) → (((m : Menu) → WrittenAs b bytes m → ⊥) → P) → P
  written_or_not {P} f g = go (is_menu b bytes) refl
    where
      go : (t : Bool) → is_menu b bytes ≡ t → P
      go true e = f (read_menu b bytes) (only-written b bytes e)
      go false e = g (λ m w. clashing (judged m w) e)

  -- THE READER ANSWERS SO ..
  pub reader-reads : Reads b bytes (menu_reader b bytes)
  unfolding menu_reader read_by first_holding
  reader-reads = record { accepted = λ m w. rw (judged m w, its-menu m w) refl; refused = λ f. none f (is_menu b bytes) refl }
    where
      none : ((m : Menu) → WrittenAs b bytes m → ⊥) → (t : Bool) → is_menu b bytes ≡ t
          → read_by (if not t then 1 else 0) (read_menu b bytes) ≡ record { refusal = 1; menu = no_menu }
      none f true e = absurd (f (read_menu b bytes) (only-written b bytes e))
      none f false e = refl

  -- .. and no second answer meets that.
  pub no-second-reading : (o r : ReadOutcome) → Reads b bytes o → Reads b bytes r → o ≡ r
  no-second-reading o r p q = written_or_not (λ m w. p.accepted m w ∙ sym (q.accepted m w)) (λ f. p.refused f ∙ sym (q.refused f))
