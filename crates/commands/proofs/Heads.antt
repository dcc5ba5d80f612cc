-- The heads of what is written: D0 with a length, and an item. Assumes nothing.
use Prim.Native.Nat.{ℕ, ◌+◌, ◌≤◌, ◌<◌}
use native.Mathlib.Omega.{arith}
use native.Mathlib.Numerals.{add-one}
use mathlib.Core.List.{List, [], ◌∷◌}
use lib.ListN.{length}
use borrow.Author.Tests.{lt-ltb, le-ltb}
use Rattle.writing.specs.declared.Out.{Out}
use Rattle.writing.specs.Puts.{Room, Puts}
use Rattle.writing.proofs.PutLaws.{puts_then}
use Rattle.rules.specs.Commands.{length_bytes, item_bytes}

pub puts_short : {o p : Out} {n : ℕ} → n < 0x80 → Puts o (0xD0 ∷ n ∷ []) p → Puts o (0xD0 ∷ length_bytes n) p
unfolding length_bytes
puts_short {n = n} h w = rw (lt-ltb n 0x80 h) w

pub puts_long : {o p : Out} {n : ℕ} → 0x80 ≤ n → Puts o (0xD0 ∷ 0x81 ∷ n ∷ []) p → Puts o (0xD0 ∷ length_bytes n) p
unfolding length_bytes
puts_long {n = n} h w = rw (le-ltb n 0x80 h) w

pub puts_item
    : {o p q : Out} {id : ℕ} {t : List ℕ}
    → Puts o (0x8F ∷ (length t + 1) ∷ id ∷ []) p → Puts p t q → Room o (3 + length t) → Puts o (item_bytes (record { identifier = id; text = t })) q
unfolding item_bytes
puts_item w v h = puts_then (rw add-one at w) v (omega arith)
