-- What stands before the title of a menu command: its two forms of a length, and the front of its value.
-- Assumes nothing.
use Prim.Native.Nat.{ℕ, ◌+◌, ◌-◌, ◌≤◌, ◌<◌}
use native.Mathlib.Omega.{arith}
use mathlib.Core.Path.{◌≡◌, refl, sym, ap, subst, ◌∙◌}
use mathlib.Core.Bool.{Bool, true, false, not}
use mathlib.Core.List.{List, [], ◌∷◌, ◌++◌}
use lib.ListN.{length, take, drop, take-append-drop}
use lib.Seq.{get_or-drop, drop-drop}
use borrow.Author.Tests.{ltb-true, ltb-false, lt-ltb, le-ltb}
use Rattle.lists.specs.Tests.{◌<?◌}
use Rattle.std.specs.Prelude.{if◌then◌else◌, ◌==◌, Option, Some, None}
use Rattle.std.proofs.lemmas.Option.{none-some, same_Some}
use Rattle.lists.proofs.Decided.{clashing}
use Rattle.rules.specs.Bytes.{byte}
use Rattle.rules.specs.Commands.{Menu, length_bytes, command_bytes, detail_bytes, items_bytes, menu_value, menu_bytes}
use Rattle.menu_reader.specs.Reads.{front, ValueAt, TitleAt}

-- a command has one of two forms
command-form : (v s : List ℕ) {P : Type 0} → command_bytes v ≡ s → (length v < 0x80 → 0xD0 ∷ length v ∷ v ≡ s → P) → (0x80 ≤ length v → 0xD0 ∷ 0x81 ∷ length v ∷ v ≡ s → P) → P
unfolding command_bytes length_bytes
command-form v s {P} e short long = go (length v <? 0x80) refl e
  where
    go : (b : Bool) → (length v <? 0x80) ≡ b → (0xD0 ∷ (if b then length v ∷ [] else 0x81 ∷ length v ∷ []) ++ v) ≡ s → P
    go true q f = short (ltb-true (length v) 0x80 q) f
    go false q f = long (ltb-false (length v) 0x80 q) f

-- a command has one value
command-one : (v w s : List ℕ) → command_bytes v ≡ s → command_bytes w ≡ s → v ≡ w
command-one v w s e f =
    command-form v s e
    (λ h p. command-form w s f (λ i q. ap (drop 2) (p ∙ sym q)) (λ i q. absurd (let k : length v ≡ 0x81 = ap (λ (l : List ℕ). byte l 1) (p ∙ sym q) in omega arith)))
    (λ h p. command-form w s f (λ i q. absurd (let k : 0x81 ≡ length w = ap (λ (l : List ℕ). byte l 1) (p ∙ sym q) in omega arith)) (λ i q. ap (drop 3) (p ∙ sym q)))

-- no value starts anywhere: neither form is there, with a value of k bytes
pub value_None
    : (s : List ℕ) → ((k : ℕ) → 11 ≤ k → k < 0x80 → length s ≡ k + 2 → byte s 0 ≡ 0xD0 → byte s 1 ≡ k → ⊥)
    → ((k : ℕ) → 0x80 ≤ k → length s ≡ k + 3 → byte s 0 ≡ 0xD0 → byte s 1 ≡ 0x81 → byte s 2 ≡ k → ⊥)
    → ValueAt s None
value_None s short long =
    record {
      none = λ z v h e. command-form v s e
          (λ i p. short (length v) h i (let k = ap length p in omega arith) (ap (λ (l : List ℕ). byte l 0) (sym p)) (ap (λ (l : List ℕ). byte l 1) (sym p)))
          (λ i p. long (length v) i (let k = ap length p in omega arith) (ap (λ (l : List ℕ). byte l 0) (sym p)) (ap (λ (l : List ℕ). byte l 1) (sym p)) (ap (λ (l : List ℕ). byte l 2) (sym p)));
      some = λ v z. absurd (none-some v z);
    }

-- a value that starts at v
value-some : {s : List ℕ} (v : ℕ) → command_bytes (drop v s) ≡ s → v + 11 ≤ length s → ValueAt s (Some v)
value-some {s} v e h = record { none = λ z. absurd (none-some v (sym z)); some = λ w z. subst (λ r. (command_bytes (drop r s) ≡ s) × (r + 11 ≤ length s)) (same_Some v w z) (e, h) }

-- a value behind one byte of length, and behind two
pub value-short : (s : List ℕ) → 13 ≤ length s → length s < 130 → byte s 0 ≡ 0xD0 → byte s 1 + 2 ≡ length s → ValueAt s (Some 2)
unfolding command_bytes length_bytes
value-short [] h i e f = absurd (omega arith)
value-short (a ∷ []) h i e f = absurd (omega arith)
value-short (a ∷ b ∷ v) h i e f = value-some 2 whole (omega arith)
  where
    whole : command_bytes v ≡ a ∷ b ∷ v
    whole =
        let k : b ≡ length v = omega arith in
        rw (lt-ltb (length v) 0x80 (omega arith), e, k) refl

pub value-long : (s : List ℕ) → 131 ≤ length s → byte s 0 ≡ 0xD0 → byte s 1 ≡ 0x81 → byte s 2 + 3 ≡ length s → ValueAt s (Some 3)
unfolding command_bytes length_bytes
value-long [] h e f g = absurd (omega arith)
value-long (a ∷ []) h e f g = absurd (omega arith)
value-long (a ∷ b ∷ []) h e f g = absurd (omega arith)
value-long (a ∷ b ∷ c ∷ v) h e f g = value-some 3 whole (omega arith)
  where
    whole : command_bytes v ≡ a ∷ b ∷ c ∷ v
    whole =
        let k : c ≡ length v = omega arith in
        rw (le-ltb (length v) 0x80 (omega arith), e, f, k) refl

-- q gives the help mark
help-back : (h : Bool) → not ((if h then 0x80 else 0x00) == 0x00) ≡ h
help-back true = refl
help-back false = refl

module _ (s : List ℕ) (m : Menu) (e : menu_bytes m ≡ s) where
  -- the front of a menu's value is the one that the bytes there ask for
  pub front-is : (v : ℕ) → command_bytes (drop v s) ≡ s → take 11 (drop v s) ≡ front (not (byte s (v + 4) == 0)) (byte s (v + 10))
  unfolding menu_bytes menu_value detail_bytes front
  front-is v f =
      let k : menu_value m ≡ drop v s = command-one (menu_value m) (drop v s) s e f in
      let a : byte s (v + 4) ≡ (if m.help then 0x80 else 0x00) = sym (get_or-drop v s 4 0) ∙ ap (λ (l : List ℕ). byte l 4) (sym k) in
      let b : byte s (v + 10) ≡ length m.title = sym (get_or-drop v s 10 0) ∙ ap (λ (l : List ℕ). byte l 10) (sym k) in
      ap (take 11) (sym k) ∙ rw (a, b, help-back m.help) refl

  -- the parts of a menu, from what stands before and behind the start of its title
  module _ (h : Bool) (n : ℕ) (l : List ℕ) (f : command_bytes (front h n ++ l) ≡ s) where
    same-value : front h n ++ l ≡ menu_value m
    unfolding menu_bytes
    same-value = command-one (front h n ++ l) (menu_value m) s f e

    pub help-is : h ≡ m.help
    unfolding menu_value detail_bytes front
    help-is = sym (help-back h) ∙ ap (λ (k : List ℕ). not (byte k 4 == 0)) same-value ∙ help-back m.help

    pub title-size : n ≡ length m.title
    unfolding menu_value detail_bytes front
    title-size = ap (λ (k : List ℕ). byte k 10) same-value

    pub behind-front : l ≡ m.title ++ items_bytes m.items
    unfolding menu_value detail_bytes front
    behind-front = ap (drop 11) same-value

-- a menu is written from its parts
pub put-together : (m : Menu) {s : List ℕ} {n : ℕ} {l : List ℕ} → command_bytes (front m.help n ++ l) ≡ s → n ≡ length m.title → l ≡ m.title ++ items_bytes m.items → menu_bytes m ≡ s
unfolding menu_bytes menu_value detail_bytes front
put-together m e f g = rw (f, g) at e

-- no title where there is no value, or another front
pub title-none : {s : List ℕ} {v : Option ℕ} → ValueAt s v → v ≡ None → TitleAt s None
unfolding menu_bytes menu_value detail_bytes
title-none o z = record { none = λ y m e. o.none z (menu_value m) (omega arith) e; some = λ t y. absurd (none-some t y) }

-- a title that starts at t
title-some : {s : List ℕ} (t : ℕ) → command_bytes (front (not (byte s (t - 7) == 0)) (byte s (t - 1)) ++ drop t s) ≡ s → 11 ≤ t → t ≤ length s → TitleAt s (Some t)
title-some {s} t e h i =
    record {
      none = λ z. absurd (none-some t (sym z));
      some = λ w z. subst (λ r. (command_bytes (front (not (byte s (r - 7) == 0)) (byte s (r - 1)) ++ drop r s) ≡ s) × (11 ≤ r) × (r ≤ length s)) (same_Some t w z) (e, h, i);
    }

-- the bytes from the value on are compared with the front that they ask for
module _ {s : List ℕ} {v q : ℕ} (o : ValueAt s (Some v)) (eq : q ≡ (if not (byte s (v + 4) == 0) then 0x80 else 0x00)) where
  abbrev asked : List ℕ
  asked = 0x81 ∷ 0x03 ∷ 0x01 ∷ 0x25 ∷ q ∷ 0x82 ∷ 0x02 ∷ 0x81 ∷ 0x82 ∷ 0x85 ∷ byte s (v + 10) ∷ []

  asked_is : asked ≡ front (not (byte s (v + 4) == 0)) (byte s (v + 10))
  unfolding detail_bytes front
  asked_is = rw eq refl

  eleven : take (v + 11 - v) (drop v s) ≡ take 11 (drop v s)
  eleven = let k : v + 11 - v ≡ 11 = omega arith in ap (λ (n : ℕ). take n (drop v s)) k

  module _ {r : Bool} (w : (r ≡ true → take (v + 11 - v) (drop v s) ≡ asked) × (take (v + 11 - v) (drop v s) ≡ asked → r ≡ true)) where
    pub title-no : r ≡ false → TitleAt s None
    title-no e = record { none = λ y m f. clashing (w.1 (eleven ∙ front-is s m f v (o.some v refl).0 ∙ sym asked_is)) e; some = λ t y. absurd (none-some t y) }

    pub title-there : r ≡ true → TitleAt s (Some (v + 11))
    title-there e =
        let a : v + 11 - 7 ≡ v + 4 = omega arith in
        let b : v + 11 - 1 ≡ v + 10 = omega arith in
        let k : front (not (byte s (v + 4) == 0)) (byte s (v + 10)) ++ drop (v + 11) s ≡ drop v s =
        ap (λ (l : List ℕ). l ++ drop (v + 11) s) (sym asked_is ∙ sym (w.0 e) ∙ eleven) ∙ ap (λ (l : List ℕ). take 11 (drop v s) ++ l) (sym (drop-drop 11 v s)) ∙ take-append-drop 11 (drop v s)
        in
        title-some (v + 11) (rw (a, b) (ap command_bytes k ∙ (o.some v refl).0)) (omega arith) (omega (arith, (o.some v refl).1))
