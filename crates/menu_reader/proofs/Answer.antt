-- The reader's answer: a menu that the bytes are the command of, or none.
-- Assumes nothing.
use Prim.Native.Nat.{ℕ, ◌+◌, ◌-◌, ◌≤◌, ◌<◌}
use native.Mathlib.Omega.{arith}
use mathlib.Core.Path.{◌≡◌, refl, sym, ap, ◌∙◌}
use mathlib.Core.Bool.{Bool, true, false, not, ◌&&◌}
use mathlib.Core.List.{List, [], ◌∷◌, ◌++◌, map}
use lib.ListN.{length, take, drop, length-append, length-drop, take-append-drop}
use lib.Seq.{drop-drop, drop_at, drop-length, length-take-le}
use borrow.Author.Tests.{le-leb, leb-true, not-true}
use Rattle.lists.specs.Tests.{◌≤?◌}
use Rattle.std.specs.Prelude.{◌==◌, Option, Some, None}
use Rattle.lists.specs.Lists.{every?, repeats?, empty?, gather, padded}
use Rattle.lists.proofs.Decided.{both}
use Rattle.rules.specs.declared.Menu as held-menu
use Rattle.rules.specs.Holds.{document}
use Rattle.rules.specs.Bytes.{byte}
use Rattle.rules.specs.Commands.{Item, Menu, item_bytes, items_bytes, menu_bytes, proper_item, may_stand, WrittenAs}
use Rattle.rules.specs.Beside.{menu_reader}
use Rattle.rules.specs.Held.{stored_item, stored_menu}
use Rattle.rules.proofs.Reader.{reader-reads}
use Rattle.menu_reader.specs.declared.Parsed.{Parsed}
use Rattle.menu_reader.specs.Reads.{no_item, refused, identifiers, Stay, TitleAt, ItemsAt, ItemsRead}
use Rattle.menu_reader.proofs.Front.{help-is, title-size, behind-front, put-together}
use Rattle.menu_reader.proofs.Lists.{part_held}

-- the parts of a menu that may stand
pub record Stands (m : Menu) : Type 0 where
  pub title : length m.title ≤ 20
  pub items : Stay m.items
  pub marked : (m.help && empty? m.items) ≡ false

pub stands_of : (m : Menu) → may_stand document m ≡ true → Stands m
unfolding may_stand
stands_of m e =
    let t = length m.title ≤? 20 in
    let n = length m.items ≤? 12 in
    let p = every? (proper_item document) m.items in
    let a = both (t && n && p && not (repeats? (identifiers m.items) [])) (not (m.help && empty? m.items)) e in
    let b = both (t && n && p) (not (repeats? (identifiers m.items) [])) a.0 in
    let c = both (t && n) p b.0 in
    let d = both t n c.0 in
    record {
      title = leb-true (length m.title) 20 d.0;
      items = record { few = leb-true (length m.items) 12 d.1; each = c.1; apart = not-true _ b.1 };
      marked = not-true _ a.1;
    }

may-stand : (m : Menu) → Stands m → may_stand document m ≡ true
unfolding may_stand
may-stand m h = rw (le-leb (length m.title) 20 h.title, le-leb (length m.items) 12 h.items.few, h.items.each, h.items.apart, h.marked) refl

-- bytes that are the command of no menu that may stand
refuse : (s : List ℕ) → ((m : Menu) → Stands m → menu_bytes m ≡ s → ⊥) → refused ≡ menu_reader document s
refuse s f = sym ((reader-reads document s).refused (λ m w. f m (stands_of m w.stands) w.written))

pub no-title : {s : List ℕ} {t : Option ℕ} → TitleAt s t → t ≡ None → refused ≡ menu_reader document s
no-title {s} o z = refuse s (λ m h e. o.none z m e)

-- items take bytes
some-items : (l : List Item) → 1 ≤ length (items_bytes l)
unfolding items_bytes empty? gather item_bytes
some-items [] = omega arith
some-items (x ∷ l) = omega arith

module _ {s : List ℕ} {t : ℕ} (o : TitleAt s (Some t)) where
  abbrev pub mark : Bool
  mark = not (byte s (t - 7) == 0)

  abbrev pub size : ℕ
  size = byte s (t - 1)

  said : (m : Menu) → menu_bytes m ≡ s → (mark ≡ m.help) × (size ≡ length m.title) × (drop t s ≡ m.title ++ items_bytes m.items)
  said m e = let f = (o.some t refl).0 in (help-is s m e mark size (drop t s) f, title-size s m e mark size (drop t s) f, behind-front s m e mark size (drop t s) f)

  pub long-title : 20 < size → refused ≡ menu_reader document s
  long-title h = refuse s (λ m p e. omega (arith, (said m e).1, p.title))

  pub no_room : length s ≤ t + size → refused ≡ menu_reader document s
  no_room h = refuse s (λ m p e. omega (arith, (said m e).1, ap length (said m e).2, length-append m.title (items_bytes m.items), some-items m.items, length-drop t s))

  module _ (short : size ≤ 20) (room : t + size < length s) {from : ℕ} (i : ItemsAt s (t + size) mark from) {r : Parsed} (w : ItemsRead s from r) where
    pub bad-items : (r.next ≡ length s → ⊥) → refused ≡ menu_reader document s
    bad-items h = refuse s (λ m p e. h (w.only m.items p.items (i.only m.items (marked m p e) (behind m e))))
      where
        marked : (m : Menu) → Stands m → menu_bytes m ≡ s → (mark && empty? m.items) ≡ false
        marked m p e = ap (λ (b : Bool). b && empty? m.items) (said m e).0 ∙ p.marked

        behind : (m : Menu) → menu_bytes m ≡ s → items_bytes m.items ≡ drop (t + size) s
        behind m e = sym (drop_at m.title (items_bytes m.items) size (sym (said m e).1)) ∙ ap (drop size) (sym (said m e).2) ∙ drop-drop size t s

    module _ (ends : r.next ≡ length s) where
      abbrev menu : Menu
      menu = record { title = take size (drop t s); help = mark; items = w.done }

      title-long : length (take size (drop t s)) ≡ size
      title-long = length-take-le size (drop t s) (omega (arith, length-drop t s))

      found : (items_bytes w.done ≡ drop (t + size) s) × ((mark && empty? w.done) ≡ false)
      found = i.behind w.done (sym (append-none (gather item_bytes w.done) (ap (λ (n : ℕ). drop n s) ends ∙ drop-length s)) ∙ w.bytes)
        where
          append-none : (l : List ℕ) {k : List ℕ} → k ≡ [] → l ++ k ≡ l
          append-none [] e = e
          append-none (x ∷ l) e = ap (λ (j : List ℕ). x ∷ j) (append-none l e)

      menu-written : WrittenAs document s menu
      menu-written =
          record {
            stands = may-stand menu (record { title = omega (arith, title-long); items = w.stay; marked = found.1 });
            written = put-together menu (o.some t refl).0 (sym title-long) (sym (take-append-drop size (drop t s)) ∙ ap (λ (l : List ℕ). take size (drop t s) ++ l) (drop-drop size t s ∙ sym found.0));
          }

      pub is_read
          : {text : List ℕ} → text ≡ padded 20 0 (take 20 (take (t + size - t) (drop t s)))
          → ◌≡◌ {A = held-menu.Menu} (record { refusal = 0; title = text; title_len = size; help = mark; at = r.at; count = r.count }) (stored_menu (menu_reader document s))
      unfolding stored_menu
      is_read {text} e = rw (e, part_held t size 20 (drop t s) short, w.at, w.count) (stored (sym title-long)) ∙ ap stored_menu (sym ((reader-reads document s).accepted menu menu-written))
        where
          stored : {n : ℕ} → n ≡ length (take size (drop t s)) → ◌≡◌ {A = held-menu.Menu} (record { refusal = 0; title = padded 20 0 (take size (drop t s)); title_len = n; help = mark; at = padded 12 (stored_item no_item) (map stored_item w.done); count = length w.done }) (stored_menu (record { refusal = 0; menu = menu }))
          stored q = rw q refl
