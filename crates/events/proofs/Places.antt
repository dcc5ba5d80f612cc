-- Laws of kinds: which places a value names.
-- Assumes nothing.
use mathlib.Core.Path.{◌≡◌}
use mathlib.Core.Bool.{Bool, true, false}
use mathlib.Core.List.{List, [], ◌∷◌}
use Prim.Native.Nat.{ℕ, suc, ◌+◌, ◌≤◌, ◌<◌}
use native.Mathlib.Omega.{arith}
use lib.IntN.{ℤ}
use lib.Signed.{lt_z}
use mir.Syntax.{w16}
use mir.Val.{SFits, of_z, to_z}
use lib.ListN.{length}
use Rattle.std.specs.Prelude.{if◌then◌else◌}
use Rattle.lists.proofs.Signed.{passed}
use Rattle.rules.specs.declared.Kind.{Kind}
use Rattle.rules.specs.declared.Kind.TheVariants.{Event, Issuer, Reserved, Unsupported}
use Rattle.rules.specs.Events.{supported, has_value, kind_of, named, minus}
use Rattle.events.specs.Place.{place_of}

-- of a kind that is an event, something holds of its place
abbrev pub OfPlace : (ℕ → Type 0) → Kind → Type 0
OfPlace P (Event e) = P e
OfPlace P Issuer = Unit
OfPlace P Reserved = Unit
OfPlace P Unsupported = Unit

-- the place is of a list that starts at e and has n elements
abbrev pub Among : ℕ → ℕ → Kind → Type 0
Among e n = OfPlace (λ (p : ℕ). (e ≤ p) × (p < e + n))

wider : (e n : ℕ) (k : Kind) → Among (suc e) n k → Among e (suc n) k
wider e n (Event p) h = (omega arith, omega arith)
wider e n Issuer h = tt
wider e n Reserved h = tt
wider e n Unsupported h = tt

either : (P : Kind → Type 0) (b : Bool) (k l : Kind) → P k → P l → P (if b then k else l)
either P true k l p q = p
either P false k l p q = q

pub named-among : {A : Type 0} (p : A → Bool) (e : ℕ) (l : List A) → Among e (length l) (named p e l)
unfolding named
named-among p e [] = tt
named-among p e (x ∷ l) =
    either (Among e (suc (length l))) (p x) (Event e) (named p (suc e) l) (omega arith, omega arith)
    (wider e (length l) (named p (suc e) l) (named-among p (suc e) l))

-- an event value names one of the 20 places
pub value-place : (v : ℤ) → Among 0 20 (kind_of v)
unfolding kind_of
value-place v =
    either (Among 0 20) (lt_z v (minus 128)) Reserved _ tt
    (either (Among 0 20) (lt_z v (minus 64)) Issuer _ tt (named-among (has_value v) 0 supported))

within : (k : Kind) → Among 0 20 k → place_of k < 20
unfolding place_of
within (Event e) h = h.1
within Issuer h = omega arith
within Reserved h = omega arith
within Unsupported h = omega arith

pub place-within : (v : ℤ) {k : Kind} {p : ℕ} → k ≡ kind_of v → p ≡ place_of k → p < 20
place-within v h e = rw (e, h) (within (kind_of v) (value-place v))

-- a signed value is what its bits are read as
pub kind-of-value : (v : ℤ) {k : Kind} → SFits w16 v → k ≡ kind_of (to_z w16 (of_z w16 v)) → k ≡ kind_of v
kind-of-value v f e = passed w16 v kind_of f e
