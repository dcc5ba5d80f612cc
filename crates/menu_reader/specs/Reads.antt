-- What the parts of the menu reader hand on: where a part of a menu command starts, or that no menu command has one there.
use Rattle.std.specs.Prelude.{ℕ, ◌+◌, ◌-◌, ◌≤◌, ◌≡◌, Bool, true, false, not, ◌&&◌, List, [], ◌∷◌, ◌++◌, map, length, take, drop}
use Rattle.std.specs.Prelude.{if◌then◌else◌, ◌==◌, Option, Some, None}
use Rattle.lists.specs.Lists.{every?, repeats?, empty?, gather, padded}
use Rattle.rules.specs.Holds.{document}
use Rattle.rules.specs.Bytes.{byte}
use Rattle.rules.specs.Commands.{Item, Menu, command_bytes, detail_bytes, item_bytes, items_bytes, menu_bytes, proper_item}
use Rattle.rules.specs.Beside.{ReadOutcome, no_menu}
use Rattle.rules.specs.Held.{stored_item}
use Rattle.menu_reader.specs.declared.Parsed.{Parsed}

abbrev pub no_item : Item
no_item = record { identifier = 0; text = [] }

-- what the reader answers to all that is no menu command
abbrev pub refused : ReadOutcome
refused = record { refusal = 1; menu = no_menu }

abbrev pub identifiers : List Item → List ℕ
identifiers l = map (λ (i : Item). i.identifier) l

-- what stands before the title in the value of a menu command
unfoldable pub front : (help : Bool) (len : ℕ) → List ℕ
front help len = detail_bytes 0x25 (if help then 0x80 else 0x00) ++ 0x85 ∷ len ∷ []

-- the item at a position, with a text of this length
unfoldable pub item_at : List ℕ → (at len : ℕ) → Item
item_at s at n = record { identifier = byte s (at + 2); text = take n (drop (at + 3) s) }

-- items that may stand in a menu
pub record Stay (l : List Item) : Type 0 where
  pub few : length l ≤ 12
  pub each : every? (proper_item document) l ≡ true
  pub apart : repeats? (identifiers l) [] ≡ false

-- the value of a command starts at v; at None there is no command with a value of 11 bytes or more
pub record ValueAt (s : List ℕ) (r : Option ℕ) : Type 0 where
  pub none : r ≡ None → (v : List ℕ) → 11 ≤ length v → command_bytes v ≡ s → ⊥
  pub some : (v : ℕ) → r ≡ Some v → (command_bytes (drop v s) ≡ s) × (v + 11 ≤ length s)

-- the title starts at t, with the help mark seven bytes before it and its length right before it; at None there is no menu command
pub record TitleAt (s : List ℕ) (r : Option ℕ) : Type 0 where
  pub none : r ≡ None → (m : Menu) → menu_bytes m ≡ s → ⊥
  pub some : (t : ℕ) → r ≡ Some t → (command_bytes (front (not (byte s (t - 7) == 0)) (byte s (t - 1)) ++ drop t s) ≡ s) × (11 ≤ t) × (t ≤ length s)

-- the items of a menu with this help mark start at r: they are what stands behind the title
pub record ItemsAt (s : List ℕ) (end : ℕ) (help : Bool) (r : ℕ) : Type 0 where
  pub within : r ≤ length s
  pub behind : (l : List Item) → gather item_bytes l ≡ drop r s → (items_bytes l ≡ drop end s) × ((help && empty? l) ≡ false)
  pub only : (l : List Item) → (help && empty? l) ≡ false → items_bytes l ≡ drop end s → gather item_bytes l ≡ drop r s

-- an item with a text of length n stands at the position; at None none stands there
pub record TextAt (s : List ℕ) (at : ℕ) (r : Option ℕ) : Type 0 where
  pub none : r ≡ None → (i : Item) (l : List ℕ) → proper_item document i ≡ true → item_bytes i ++ l ≡ drop at s → ⊥
  pub some : (n : ℕ) → r ≡ Some n → (item_bytes (item_at s at n) ++ drop (at + 3 + n) s ≡ drop at s) × (proper_item document (item_at s at n) ≡ true) × (at + 3 + n ≤ length s) × (n ≤ 15)

-- the items from a position on that may stand in a menu together: they end where the bytes end if any such items do
pub record ItemsRead (s : List ℕ) (from : ℕ) (r : Parsed) : Type 0 where
  pub done : List Item
  pub stay : Stay done
  pub bytes : gather item_bytes done ++ drop r.next s ≡ drop from s
  pub at : r.at ≡ padded 12 (stored_item no_item) (map stored_item done)
  pub count : r.count ≡ length done
  pub within : r.next ≤ length s
  pub only : (l : List Item) → Stay l → gather item_bytes l ≡ drop from s → r.next ≡ length s
