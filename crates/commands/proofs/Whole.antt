-- The parts of a command, written one behind the other, are the command; and they have room in 256 bytes.
-- Assumes nothing.
use Prim.Native.Nat.{ℕ, ◌+◌, ◌/◌, ◌≤◌, ◌<◌}
use native.Mathlib.Omega.{arith}
use mathlib.Core.Path.{◌≡◌, refl, sym, ap, ◌∙◌}
use mathlib.Core.Bool.{Bool, true, false}
use mathlib.Core.List.{List, [], ◌∷◌, ◌++◌}
use lib.ListN.{length, length-append}
use borrow.Author.Tests.{le-leb, lt-leb}
use Rattle.lists.specs.Tests.{◌≤?◌}
use Rattle.std.specs.Prelude.{if◌then◌else◌, ◌==◌}
use Rattle.lists.specs.Lists.{some?}
use Rattle.rules.specs.Holds.{Row}
use Rattle.rules.specs.Commands.{length_bytes, command_bytes, detail_bytes, items_bytes, menu_of, menu_value, menu_bytes, event_bytes, duration_bytes, interval_bytes, off_bytes}
use Rattle.rules.proofs.Listed.{length_most}
use Rattle.commands.specs.Fits.{items_of, rows_bytes}
use Rattle.writing.specs.declared.Out.{Out}
use Rattle.writing.specs.Puts.{Room, Puts}
use Rattle.writing.proofs.PutLaws.{puts_then}
use Rattle.commands.proofs.Lines.{items-none, items-some, items-length, items-under}

-- the items
module _ (l : List Row) {k : ℕ} (bytes : k ≡ length (rows_bytes l)) where
  pub puts_no_row : {o p : Out} → k ≡ 0 → Puts o (0x8F ∷ 0 ∷ []) p → Puts o (items_bytes (items_of l)) p
  puts_no_row z w = rw (items-none l (sym bytes ∙ z)) w

  pub puts_rows : {o p : Out} → (k ≡ 0 → ⊥) → Puts o (rows_bytes l) p → Puts o (items_bytes (items_of l)) p
  puts_rows z w = rw (items-some l (λ e. z (bytes ∙ e))) w

  module _ (o : Out) (room : Room o (length (items_bytes (items_of l)))) where
    pub room_no_row : k ≡ 0 → Room o 2
    room_no_row z = omega (arith, ap length (items-none l (sym bytes ∙ z)))

    pub room_rows : (k ≡ 0 → ⊥) → Room o (length (rows_bytes l))
    room_rows z = omega (arith, ap length (items-some l (λ e. z (bytes ∙ e))))

-- how many bytes a menu's value has
pub value-length : (title : List ℕ) (rows : List Row) → length (menu_value (menu_of title rows)) ≡ 11 + (length title + length (items_bytes (items_of rows)))
unfolding menu_value menu_of detail_bytes
value-length title rows = omega (arith, length-append title (items_bytes (items_of rows)))

pub value-under : (k t : ℕ) {n : ℕ} → n ≡ 11 + (t + (if k == 0 then 2 else k)) → k ≤ 216 → t ≤ 20 → n < 256
value-under k t e h f = go (k == 0) e
  where
    go : (b : Bool) {n : ℕ} → n ≡ 11 + (t + (if b then 2 else k)) → n < 256
    go true e = omega arith
    go false e = omega arith

-- document 01: the menu's value has at most 247 bytes, the whole at most 250
pub menu-most : (title : List ℕ) (l : List Row) → length (rows_bytes l) ≤ 216 → length title ≤ 20 → length (menu_bytes (menu_of title l)) ≤ 250
unfolding menu_bytes command_bytes
menu-most title l under h =
    omega (arith, length-append (0xD0 ∷ length_bytes (length (menu_value (menu_of title l)))) (menu_value (menu_of title l)), length_most (length (menu_value (menu_of title l))), value-length title l, items-under l under)

-- a first part, D0 and a length, and eleven bytes behind it
module _ (n : ℕ) {o p₁ : Out} (room : Room o 256) (w₁ : Puts o (0xD0 ∷ length_bytes n) p₁) where
  pub room-head : Room p₁ 11
  room-head = omega (arith, w₁.wrote.next, w₁.wrote.long, length_most n)

  module _ {h : List ℕ} {p₂ : Out} (eleven : length h ≡ 11) (w₂ : Puts p₁ h p₂) (s : List ℕ) (short : length s ≤ 20) where
    pub room-third : Room p₂ (length s)
    room-third = omega (arith, w₁.wrote.next, w₁.wrote.long, length_most n, w₂.wrote.next, w₂.wrote.long)

    pub room-items : {p₃ : Out} (l : List Row) → length (rows_bytes l) ≤ 216 → Puts p₂ s p₃ → Room p₃ (length (items_bytes (items_of l)))
    room-items l under w₃ = omega (arith, w₁.wrote.next, w₁.wrote.long, length_most n, w₂.wrote.next, w₂.wrote.long, w₃.wrote.next, w₃.wrote.long, items-under l under)

-- the four parts of a menu
module _ (title : List ℕ) (l : List Row) (under : length (rows_bytes l) ≤ 216) (short : length title ≤ 20) {o p₁ p₂ p₃ p₄ : Out} {k n q : ℕ} {help : Bool} where
  pub puts_menu
      : Room o 256
      → k ≡ length (rows_bytes l)
      → n ≡ 11 + (length title + (if k == 0 then 2 else k))
      → help ≡ some? (λ (r : Row). r.help) l
      → q ≡ (if help then 0x80 else 0x00)
      → Puts o (0xD0 ∷ length_bytes n) p₁
      → Puts p₁ (0x81 ∷ 3 ∷ 1 ∷ 0x25 ∷ q ∷ 0x82 ∷ 2 ∷ 0x81 ∷ 0x82 ∷ 0x85 ∷ length title ∷ []) p₂
      → Puts p₂ title p₃
      → Puts p₃ (items_bytes (items_of l)) p₄
      → Puts o (menu_bytes (menu_of title l)) p₄
  puts_menu room ek en eh eq w₁ w₂ w₃ w₄ =
      let e : n ≡ length (menu_value (menu_of title l)) = en ∙ ap (λ (i : ℕ). 11 + (length title + (if i == 0 then 2 else i))) ek ∙ ap (λ (i : ℕ). 11 + (length title + i)) (sym (items-length l)) ∙ sym (value-length title l) in
      let most = length_most n in
      let v₃ : Puts p₂ (title ++ items_bytes (items_of l)) p₄ = puts_then w₃ w₄ (omega (arith, w₁.wrote.next, w₁.wrote.long, w₂.wrote.next, w₂.wrote.long)) in
      let v₂ = puts_then w₂ v₃ (omega (arith, w₁.wrote.next, w₁.wrote.long)) in
      whole (rw e at w₁) (rw (eq, eh) at v₂) (omega (arith, ap (λ (k : ℕ). length (length_bytes k)) e))
    where
      whole
          : Puts o (0xD0 ∷ length_bytes (length (menu_value (menu_of title l)))) p₁
          → Puts p₁ (0x81 ∷ 3 ∷ 1 ∷ 0x25 ∷ (if some? (λ (r : Row). r.help) l then 0x80 else 0x00) ∷ 0x82 ∷ 2 ∷ 0x81 ∷ 0x82 ∷ 0x85 ∷ length title ∷ (title ++ items_bytes (items_of l))) p₄
          → Room o (length (0xD0 ∷ length_bytes (length (menu_value (menu_of title l)))))
          → Puts o (menu_bytes (menu_of title l)) p₄
      whole w v f = unfold menu_bytes command_bytes menu_value menu_of detail_bytes in puts_then w v f

-- the three parts of an event list
pub puts_events
    : {o p₁ p₂ p₃ : Out} {codes : List ℕ}
    → Room o 256
    → length codes ≤ 13
    → Puts o (0xD0 ∷ length_bytes (11 + length codes)) p₁
    → Puts p₁ (0x81 ∷ 3 ∷ 1 ∷ 5 ∷ 0 ∷ 0x82 ∷ 2 ∷ 0x81 ∷ 0x82 ∷ 0x99 ∷ length codes ∷ []) p₂
    → Puts p₂ codes p₃
    → Puts o (event_bytes codes) p₃
unfolding event_bytes command_bytes detail_bytes
puts_events {codes = codes} room few w₁ w₂ w₃ =
    let e : 11 + length codes ≡ length (0x81 ∷ 3 ∷ 1 ∷ 5 ∷ 0 ∷ 0x82 ∷ 2 ∷ 0x81 ∷ 0x82 ∷ 0x99 ∷ length codes ∷ codes) = omega arith in
    let m = length_most (11 + length codes) in
    puts_then (rw e at w₁) (puts_then w₂ w₃ (omega (arith, w₁.wrote.next, w₁.wrote.long))) (omega (arith, ap (λ n. length (length_bytes n)) e))

-- the one part of a duration, by its unit
module _ {o p : Out} where
  pub puts_seconds : (s : ℕ) → s ≤ 255 → Puts o (0x84 ∷ 2 ∷ 1 ∷ s ∷ []) p → Puts o (duration_bytes s) p
  unfolding duration_bytes
  puts_seconds s h w = rw (le-leb s 255 h) w

  pub puts_minutes : (s : ℕ) → 255 < s → Puts o (0x84 ∷ 2 ∷ 0 ∷ s / 60 ∷ []) p → Puts o (duration_bytes s) p
  unfolding duration_bytes
  puts_minutes s h w = rw (lt-leb s 255 h) w

pub duration-length : (s : ℕ) → length (duration_bytes s) ≡ 4
unfolding duration_bytes
duration-length s = go (s ≤? 255)
  where
    go : (b : Bool) → length (0x84 ∷ 2 ∷ (if b then 1 ∷ s ∷ [] else 0 ∷ s / 60 ∷ [])) ≡ 4
    go true = refl
    go false = refl

-- the two parts of POLL INTERVAL, and the one of POLLING OFF
pub puts_interval
    : {o p₁ p₂ : Out} (s : ℕ)
    → Room o 256
    → Puts o (0xD0 ∷ 13 ∷ 0x81 ∷ 3 ∷ 1 ∷ 3 ∷ 0 ∷ 0x82 ∷ 2 ∷ 0x81 ∷ 0x82 ∷ []) p₁
    → Puts p₁ (duration_bytes s) p₂
    → Puts o (interval_bytes s) p₂
unfolding interval_bytes command_bytes detail_bytes length_bytes
puts_interval s room w v = rw (duration-length s) (puts_then w v (omega arith))

pub puts_off : {o p : Out} → Puts o (0xD0 ∷ 9 ∷ 0x81 ∷ 3 ∷ 1 ∷ 4 ∷ 0 ∷ 0x82 ∷ 2 ∷ 0x81 ∷ 0x82 ∷ []) p → Puts o off_bytes p
unfolding off_bytes command_bytes detail_bytes length_bytes
puts_off w = w
