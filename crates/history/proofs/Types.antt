-- The type of a command, at 3 of its value: 25 for a menu, 05 for an event list, 03 and 04 for polling. So none of them is another.
-- Assumes nothing.
use Prim.Native.Nat.{ℕ, ◌/◌}
use native.Mathlib.Omega.{arith}
use mathlib.Core.Path.{◌≡◌, refl, sym, ap, subst, ◌∙◌}
use mathlib.Core.Logic.{◌⊎◌, inl, inr}
use mathlib.Core.Bool.{Bool, true, false, ◌||◌}
use mathlib.Core.List.{List, [], ◌∷◌, ◌++◌}
use lib.ListN.{length, drop}
use borrow.Author.Tests.{ltb-true, ne_eqb}
use Rattle.lists.specs.Tests.{◌<?◌, ◌≤?◌}
use Rattle.std.specs.Prelude.{if◌then◌else◌}
use Rattle.lists.specs.Lists.{same?, first}
use Rattle.lists.proofs.Alike.{same_self}
use Rattle.lists.proofs.Decided.{refuted}
use Rattle.lists.proofs.Truth.{or-true}
use Rattle.rules.specs.Holds.{document}
use Rattle.rules.specs.Bytes.{byte}
use Rattle.rules.specs.Commands.{Menu, length_bytes, command_bytes, detail_bytes, menu_value, menu_bytes, event_bytes, duration_bytes, interval_bytes, off_bytes, value_of, read_menu, is_menu}
use Rattle.rules.proofs.Reader.{same_true, only-written}
use Rattle.history.specs.Handed.{last_menu, last_list, codes_in, is_event_list, is_polling, last_polling}

behind-length : (v : List ℕ) → value_of (command_bytes v) ≡ v
unfolding value_of command_bytes length_bytes
behind-length v = go (length v <? 0x80) refl
  where
    go : (b : Bool) → (length v <? 0x80) ≡ b → value_of (0xD0 ∷ (if b then length v ∷ [] else 0x81 ∷ length v ∷ []) ++ v) ≡ v
    go true e = rw (ne_eqb (length v) 0x81 (λ z. absurd (omega (arith, ltb-true (length v) 0x80 e)))) refl
    go false e = refl

-- a command of a type
pub record Typed (type : ℕ) (s : List ℕ) : Type 0 where
  pub qualifier : ℕ
  pub rest : List ℕ
  pub written : command_bytes (detail_bytes type qualifier ++ rest) ≡ s

abbrev pub type_of : List ℕ → ℕ
type_of s = byte (value_of s) 3

pub its-type : (type : ℕ) (s : List ℕ) → Typed type s → type_of s ≡ type
unfolding detail_bytes
its-type type s x = ap type_of (sym x.written) ∙ ap (λ (v : List ℕ). byte v 3) (behind-length (detail_bytes type x.qualifier ++ x.rest))

-- no bytes have no type
pub none-typed : type_of [] ≡ 0
unfolding value_of
none-typed = refl

-- The card's commands.
pub menu-typed : (m : Menu) → Typed 0x25 (menu_bytes m)
unfolding menu_bytes menu_value detail_bytes
menu-typed m = record { qualifier = if m.help then 0x80 else 0x00; rest = drop 9 (menu_value m); written = refl }

pub list-typed : (l : List ℕ) → Typed 0x05 (event_bytes l)
unfolding event_bytes
list-typed l = record { qualifier = 0x00; rest = 0x99 ∷ length l ∷ l; written = refl }

pub interval-typed : (s : ℕ) → Typed 0x03 (interval_bytes s)
unfolding interval_bytes
interval-typed s = record { qualifier = 0x00; rest = duration_bytes s; written = refl }

pub off-typed : Typed 0x04 off_bytes
unfolding off_bytes detail_bytes
off-typed = record { qualifier = 0x00; rest = []; written = refl }

-- What passes for one of them has its type.
pub is-menu : (s : List ℕ) → is_menu document s ≡ true → Typed 0x25 s
is-menu s e = subst (Typed 0x25) (only-written document s e).written (menu-typed (read_menu document s))

pub is-list : (s : List ℕ) → is_event_list s ≡ true → Typed 0x05 s
unfolding is_event_list
is-list s e = subst (Typed 0x05) (same_true (event_bytes (codes_in s)) s e) (list-typed (codes_in s))

pub is-polling : (s : List ℕ) → is_polling s ≡ true → Typed 0x04 s ⊎ Typed 0x03 s
unfolding is_polling
is-polling s e = go (same? off_bytes s) refl e
  where
    rest : List ℕ
    rest = 0x84 ∷ 0x02 ∷ byte s 13 ∷ byte s 14 ∷ []

    go : (b : Bool) → same? off_bytes s ≡ b → (b || same? (command_bytes (detail_bytes 0x03 0x00 ++ rest)) s) ≡ true → Typed 0x04 s ⊎ Typed 0x03 s
    go true p q = inl (subst (Typed 0x04) (same_true off_bytes s p) off-typed)
    go false p q = inr (record { qualifier = 0x00; rest = rest; written = same_true _ s q })

-- A command of another type is passed over.
module _ (s : List ℕ) (k : List (List ℕ)) where
  pub past-menu : (title : List ℕ) → (type_of s ≡ 0x25 → ⊥) → last_menu title (s ∷ k) ≡ last_menu title k
  unfolding last_menu first
  past-menu title h = rw (refuted (is_menu document s) (λ e. h (its-type 0x25 s (is-menu s e)))) refl

  pub past-list : (type_of s ≡ 0x05 → ⊥) → last_list (s ∷ k) ≡ last_list k
  unfolding last_list first
  past-list h = rw (refuted (is_event_list s) (λ e. h (its-type 0x05 s (is-list s e)))) refl

  pub past-polling : (type_of s ≡ 0x04 → ⊥) → (type_of s ≡ 0x03 → ⊥) → last_polling (s ∷ k) ≡ last_polling k
  unfolding last_polling first
  past-polling h g = rw (refuted (is_polling s) (λ e. go (is-polling s e))) refl
    where
      go : Typed 0x04 s ⊎ Typed 0x03 s → ⊥
      go (inl x) = h (its-type 0x04 s x)
      go (inr x) = g (its-type 0x03 s x)

-- Of its own type it is the last: an event list, whose codes come back, and the two commands for polling.
pub codes-back : (l : List ℕ) → codes_in (event_bytes l) ≡ l
unfolding codes_in event_bytes detail_bytes
codes-back l = ap (drop 11) (behind-length (detail_bytes 0x05 0x00 ++ 0x99 ∷ length l ∷ l))

polled : (unit number : ℕ) → is_polling (command_bytes (detail_bytes 0x03 0x00 ++ 0x84 ∷ 0x02 ∷ unit ∷ number ∷ [])) ≡ true
unfolding is_polling command_bytes length_bytes detail_bytes
polled unit number =
    let s : List ℕ = command_bytes (detail_bytes 0x03 0x00 ++ 0x84 ∷ 0x02 ∷ unit ∷ number ∷ []) in
    ap (λ (b : Bool). same? off_bytes s || b) (same_self s) ∙ or-true (same? off_bytes s)

interval-polled : (s : ℕ) → is_polling (interval_bytes s) ≡ true
unfolding interval_bytes duration_bytes
interval-polled s = go (s ≤? 255)
  where
    go : (b : Bool) → is_polling (command_bytes (detail_bytes 0x03 0x00 ++ 0x84 ∷ 0x02 ∷ (if b then 0x01 ∷ s ∷ [] else 0x00 ∷ s / 60 ∷ []))) ≡ true
    go true = polled 0x01 s
    go false = polled 0x00 (s / 60)

module _ (k : List (List ℕ)) where
  pub the-list : (l : List ℕ) → last_list (event_bytes l ∷ k) ≡ event_bytes l
  unfolding last_list first is_event_list
  the-list l = rw (codes-back l, same_self (event_bytes l)) refl

  pub the-interval : (s : ℕ) → last_polling (interval_bytes s ∷ k) ≡ interval_bytes s
  unfolding last_polling first
  the-interval s = rw (interval-polled s) refl

  pub the-off : last_polling (off_bytes ∷ k) ≡ off_bytes
  unfolding last_polling first is_polling
  the-off = rw (same_self off_bytes) refl
