-- Laws of what is put into a lent buffer, one behind the other.
-- Assumes nothing.
use Prim.Native.Nat.{ℕ, ◌≤◌}
use native.Mathlib.Omega.{arith}
use mathlib.Core.Path.{◌≡◌, refl, ap, ◌∙◌}
use mathlib.Core.List.{List, [], ◌++◌}
use lib.ListN.{length}
use Rattle.lists.specs.Wrote.{Wrote}
use Rattle.lists.proofs.Writing.{wrote_none, Wrote-then, wrote_as}
use Rattle.writing.specs.declared.Out.{Out}
use Rattle.writing.specs.Puts.{Room, Puts}

pub puts_none : (o : Out) → Puts o [] o
puts_none o = record { same = refl; wrote = wrote_none _ _ }

-- put, and then what stands behind it
pub puts_then : {o p q : Out} {s t : List ℕ} → Puts o s p → Puts p t q → Room o (length s) → Puts o (s ++ t) q
puts_then w v h = record { same = v.same ∙ w.same; wrote = Wrote-then w.wrote v.wrote h }

-- what was put, said otherwise
pub puts_as : {o p : Out} {s t : List ℕ} → s ≡ t → Puts o s p → Puts o t p
puts_as e w = record { same = w.same; wrote = wrote_as e w.wrote }

-- what was put from the front on stands at the front of what was lent
pub puts_front : {o p : Out} {b s c : List ℕ} → o.buf.now ≡ b → o.at ≡ 0 → Puts o s p → p.buf.now ≡ c → Wrote b 0 s c p.at
puts_front e z w f = rw (e, z, f) at w.wrote

-- a place at the front of what was lent has room for as much as that
pub room_front : (o : Out) {b : List ℕ} {n : ℕ} → o.buf.now ≡ b → o.at ≡ 0 → n ≤ length b → Room o n
room_front o e z h = omega (arith, ap length e)
