-- The items of a menu command: where they start, one item, and a loop over them.
-- Assumes nothing.
use Prim.Native.Nat.{ℕ, suc, ◌+◌, ◌-◌, ◌≤◌, ◌<◌}
use native.Mathlib.Omega.{arith}
use mathlib.Core.Path.{◌≡◌, refl, sym, ap, subst, ◌∙◌}
use mathlib.Core.Bool.{Bool, true, false, ◌&&◌}
use mathlib.Core.List.{List, [], ◌∷◌, ◌++◌}
use lib.ListN.{length, take, drop, length-append, length-drop, take-append-drop}
use lib.Seq.{get_or-drop, drop-drop, drop-length, length-take-le, take_at, drop_at}
use borrow.Author.Tests.{le-leb, leb-true}
use Rattle.std.specs.Prelude.{Option, Some, None}
use Rattle.std.proofs.lemmas.Option.{none-some, same_Some}
use Rattle.lists.specs.Tests.{◌≤?◌}
use Rattle.lists.specs.Lists.{empty?, gather}
use Rattle.lists.proofs.Truth.{and-false, and-true}
use Rattle.lists.proofs.Decided.{both}
use Rattle.lists.proofs.Parts.{part-rest}
use Rattle.rules.specs.Holds.{document}
use Rattle.rules.specs.Bytes.{byte}
use Rattle.rules.specs.Commands.{Item, item_bytes, items_bytes, proper_item}
use Rattle.menu_reader.specs.Reads.{item_at, ItemsAt, TextAt}

-- items behind a title that ends here
module _ (s : List ℕ) (end : ℕ) where
  -- they start here, where 8F 00 does not stand for none
  pub items-here : (help : Bool) → end < length s → (help ≡ false → take (length s - end) (drop end s) ≡ 0x8F ∷ 0x00 ∷ [] → ⊥) → ItemsAt s end help end
  unfolding gather items_bytes empty?
  items-here help h f = record { within = omega arith; behind = behind; only = only }
    where
      behind : (l : List Item) → gather item_bytes l ≡ drop end s → (items_bytes l ≡ drop end s) × ((help && empty? l) ≡ false)
      behind [] e = absurd (omega (arith, ap length e, length-drop end s))
      behind (x ∷ l) e = (e, and-false help)

      only : (l : List Item) → (help && empty? l) ≡ false → items_bytes l ≡ drop end s → gather item_bytes l ≡ drop end s
      only [] g e = absurd (f (sym (and-true help) ∙ g) (part-rest s end ∙ sym e))
      only (x ∷ l) g e = e

  pub items-none : {help : Bool} → help ≡ false → take (length s - end) (drop end s) ≡ 0x8F ∷ 0x00 ∷ [] → ItemsAt s end help (length s)
  unfolding gather item_bytes items_bytes empty?
  items-none {help} z q = record { within = omega arith; behind = behind; only = only }
    where
      d : drop end s ≡ 0x8F ∷ 0x00 ∷ []
      d = sym (part-rest s end) ∙ q

      behind : (l : List Item) → gather item_bytes l ≡ drop (length s) s → (items_bytes l ≡ drop end s) × ((help && empty? l) ≡ false)
      behind [] e = (sym d, rw z refl)
      behind (x ∷ l) e = absurd (omega (arith, ap length (e ∙ drop-length s)))

      only : (l : List Item) → (help && empty? l) ≡ false → items_bytes l ≡ drop end s → gather item_bytes l ≡ drop (length s) s
      only [] g e = sym (drop-length s)
      only (x ∷ l) g e = absurd (let k : suc (length x.text) ≡ 0 = ap (λ (t : List ℕ). byte t 1) (e ∙ d) in omega arith)

-- a proper item, by numbers
proper-parts : (i : Item) → proper_item document i ≡ true → (1 ≤ i.identifier) × (1 ≤ length i.text) × (length i.text ≤ 15)
unfolding proper_item
proper-parts i e =
    let h = both (1 ≤? i.identifier && i.identifier ≤? 255 && 1 ≤? length i.text) (length i.text ≤? 15) e in
    let g = both (1 ≤? i.identifier && i.identifier ≤? 255) (1 ≤? length i.text) h.0 in
    let f = both (1 ≤? i.identifier) (i.identifier ≤? 255) g.0 in
    (leb-true 1 i.identifier f.0, leb-true 1 (length i.text) g.1, leb-true (length i.text) 15 h.1)

proper-is : (i : Item) {n : ℕ} → length i.text ≡ n → 1 ≤ i.identifier → i.identifier ≤ 255 → 1 ≤ n → n ≤ 15 → proper_item document i ≡ true
unfolding proper_item
proper-is i {n} e a b c d = rw (e, le-leb 1 i.identifier a, le-leb i.identifier 255 b, le-leb 1 n c, le-leb n 15 d) refl

three : (t : List ℕ) → 3 ≤ length t → byte t 0 ∷ byte t 1 ∷ byte t 2 ∷ drop 3 t ≡ t
three [] h = absurd (omega arith)
three (a ∷ []) h = absurd (omega arith)
three (a ∷ b ∷ []) h = absurd (omega arith)
three (a ∷ b ∷ c ∷ t) h = refl

-- items with the same bytes at the front are the same
pub item-same : (x y : Item) (l k : List ℕ) → item_bytes x ++ l ≡ item_bytes y ++ k → (x ≡ y) × (l ≡ k)
unfolding item_bytes
item-same x y l k e =
    let b : suc (length x.text) ≡ suc (length y.text) = ap (λ (t : List ℕ). byte t 1) e in
    let n : length x.text ≡ length y.text = omega arith in
    let i : x.identifier ≡ y.identifier = ap (λ (t : List ℕ). byte t 2) e in
    let f : x.text ++ l ≡ y.text ++ k = ap (drop 3) e in
    let t : x.text ≡ y.text = sym (take_at x.text l (length x.text) refl) ∙ ap (take (length x.text)) f ∙ take_at y.text k (length x.text) (sym n) in
    (same i t, sym (drop_at x.text l (length x.text) refl) ∙ ap (drop (length x.text)) f ∙ drop_at y.text k (length x.text) (sym n))
  where
    same : x.identifier ≡ y.identifier → x.text ≡ y.text → x ≡ y
    same i t = ap (λ (n : ℕ). record { identifier = n; text = x.text }) i ∙ ap (λ (l : List ℕ). record { identifier = y.identifier; text = l }) t

module _ (s : List ℕ) (at : ℕ) where
  first : byte (drop at s) 0 ≡ byte s at
  first = let z : at + 0 ≡ at = omega arith in get_or-drop at s 0 0 ∙ ap (byte s) z

  -- no item stands there: none with a text of n bytes and the identifier d
  pub text-none
      : ((n d : ℕ) → 1 ≤ n → n ≤ 15 → 1 ≤ d → 3 + n ≤ length s - at → byte s at ≡ 0x8F → byte s (at + 1) ≡ n + 1 → byte s (at + 2) ≡ d → ⊥)
      → TextAt s at None
  unfolding item_bytes
  text-none f = record { none = none; some = λ n z. absurd (none-some n z) }
    where
      none : ◌≡◌ {A = Option ℕ} None None → (i : Item) (l : List ℕ) → proper_item document i ≡ true → item_bytes i ++ l ≡ drop at s → ⊥
      none z i l p e =
          let h = proper-parts i p in
          let b : (k : ℕ) → byte s (at + k) ≡ byte (item_bytes i ++ l) k = λ k. sym (get_or-drop at s k 0) ∙ ap (λ (t : List ℕ). byte t k) (sym e) in
          let n : byte s (at + 1) ≡ length i.text + 1 = b 1 ∙ omega arith in
          f (length i.text) i.identifier h.1 h.2 h.0 (omega (arith, ap length e, length-drop at s, length-append i.text l)) (sym first ∙ ap (λ (t : List ℕ). byte t 0) (sym e)) n (b 2)

  -- one stands there, with a length byte n
  pub text-is : {n : ℕ} → byte s at ≡ 0x8F → n ≡ byte s (at + 1) → (byte s (at + 2) ≡ 0 → ⊥) → byte s (at + 2) ≤ 255 → 2 ≤ n → n ≤ 16 → n + 2 ≤ length s - at → TextAt s at (Some (n - 1))
  unfolding item_bytes item_at
  text-is {n} e f g h two i j =
      record {
        none = λ z. absurd (none-some (n - 1) (sym z));
        some = λ m z. subst (λ r. (item_bytes (item_at s at r) ++ drop (at + 3 + r) s ≡ drop at s) × (proper_item document (item_at s at r) ≡ true) × (at + 3 + r ≤ length s) × (r ≤ 15)) (same_Some (n - 1) m z)
            (whole, proper-is (item_at s at (n - 1)) size positive h (omega arith) (omega arith), omega arith, omega arith);
      }
    where
      size : length (take (n - 1) (drop (at + 3) s)) ≡ n - 1
      size = length-take-le (n - 1) (drop (at + 3) s) (omega (arith, length-drop (at + 3) s))

      positive : 1 ≤ byte s (at + 2)
      positive = omega (arith, g)

      whole : item_bytes (item_at s at (n - 1)) ++ drop (at + 3 + (n - 1)) s ≡ drop at s
      whole =
          let a : suc (n - 1) ≡ byte s (at + 1) = omega arith in
          let t : take (n - 1) (drop (at + 3) s) ++ drop (at + 3 + (n - 1)) s ≡ drop (at + 3) s =
          ap (λ (l : List ℕ). take (n - 1) (drop (at + 3) s) ++ l) (sym (drop-drop (n - 1) (at + 3) s)) ∙ take-append-drop (n - 1) (drop (at + 3) s)
          in
          rw (size, a, t, sym e, sym (drop-drop 3 at s), sym (get_or-drop at s 1 0), sym (get_or-drop at s 2 0)) (three-at)
        where
          three-at : byte s at ∷ byte (drop at s) 1 ∷ byte (drop at s) 2 ∷ drop 3 (drop at s) ≡ drop at s
          three-at = ap (λ (b : ℕ). b ∷ byte (drop at s) 1 ∷ byte (drop at s) 2 ∷ drop 3 (drop at s)) (sym first) ∙ three (drop at s) (omega (arith, length-drop at s))
