-- Where lengths and elements end: past their place, and within the bytes.
-- Assumes nothing.
use Prim.Native.Nat.{ℕ, ◌+◌, ◌-◌, ◌*◌, ◌^◌, ◌≤◌, ◌<◌}
use native.Mathlib.Omega.{arith}
use mir.Val.{Fits}
use mir.Syntax.{w8, w64}
use mathlib.Core.Path.{◌≡◌, refl, sym, ap, ◌∙◌, subst}
use mathlib.Core.Bool.{Bool, true, false}
use mathlib.Core.List.{List, [], ◌∷◌}
use lib.ListN.{length}
use lib.Dec.{lit≤}
use borrow.Author.Tests.{eqb-true, leb-true, leb-false, le-leb}
use Rattle.lists.specs.Tests.{◌<?◌, ◌≤?◌}
use Rattle.std.specs.Prelude.{if◌then◌else◌, ◌==◌, Option, Some, None, Result, Ok, Err}
use Rattle.lists.specs.Lists.{some?, in?}
use Rattle.lists.proofs.Ifs.{if-holds}
use Rattle.rules.specs.declared.Malformed.{Malformed}
use Rattle.rules.specs.declared.Length.{Length}
use Rattle.rules.specs.declared.Element.{Element}
use Rattle.rules.specs.Bytes.{malformed, byte, tag_size, tag_number, long_length, length_at, valued, element_by, element_at}

-- a tag takes one byte or three
unfoldable SmallTag : Result ℕ Malformed → Type 0
SmallTag (Ok size) = (1 ≤ size) × (size ≤ 3)
SmallTag (Err e) = Unit {0}

tag_small : (t : ℕ) → SmallTag (tag_size t)
unfolding tag_size SmallTag
tag_small t =
    if-holds SmallTag (in? t (0x00 ∷ 0x80 ∷ 0xFF ∷ [])) (λ _. tt)
    (λ _. if-holds SmallTag (t == 0x7F) (λ _. (lit≤ tt, lit≤ tt)) (λ _. (lit≤ tt, lit≤ tt)))

tag-sized : (t : ℕ) {r : Result ℕ Malformed} {size : ℕ} → r ≡ tag_size t → r ≡ Ok size → (1 ≤ size) × (size ≤ 3)
unfolding SmallTag
tag-sized t p q = subst SmallTag (sym p ∙ q) (tag_small t)

-- the position past a tag fits (the last premise is what a slice of bytes tells of its length)
pub tag_fits : (s : List ℕ) (at t : ℕ) {r : Result ℕ Malformed} {size : ℕ} → at < length s → r ≡ tag_size t → r ≡ Ok size → length s * 1 < 2 ^ 63 → Fits w64 (at + size)
tag_fits s at t h p q g = omega (arith, (tag-sized t p q).1)

-- a tag takes three bytes if it starts with 7F, and only then
pub starts-long : (t : ℕ) {size : ℕ} → tag_size t ≡ Ok size → size ≡ 3 → t ≡ 0x7F
unfolding tag_size
starts-long t e q =
    if-holds (λ r. r ≡ Ok 3 → t ≡ 0x7F) (in? t (0x00 ∷ 0x80 ∷ 0xFF ∷ [])) (λ _ z. absurd (cc))
    (λ _. if-holds (λ r. r ≡ Ok 3 → t ≡ 0x7F) (t == 0x7F) (λ h _. eqb-true t 0x7F h) (λ _ z. let y : ◌≡◌ {A = ℕ} 1 3 = cc in absurd (omega arith)))
    (e ∙ ap Ok q)

pub starts-short : (t : ℕ) {size : ℕ} → tag_size t ≡ Ok size → (size ≡ 3 → ⊥) → t ≡ 0x7F → ⊥
unfolding tag_size in? some?
starts-short t {size} e n h = let z : ◌≡◌ {A = Result ℕ Malformed} (Ok 3) (Ok size) = sym (ap tag_size h) ∙ e in n cc

-- where the bytes end with a tag, or in it, no length stands
pub no_length
    : (s : List ℕ) (at : ℕ) {r : Result ℕ Malformed} {size : ℕ}
    → at < length s → r ≡ tag_size (byte s at) → r ≡ Ok size → length s ≤ at + size → Err malformed ≡ element_at s at
unfolding element_at element_by valued length_at
no_length s at {r} {size} h p q k = go (length s ≤? at) refl
  where
    go : (b : Bool) → (length s ≤? at) ≡ b → Err malformed ≡ (if b then Ok None else element_by s at (tag_size (byte s at)))
    go true e = absurd (omega (arith, leb-true (length s) at e, h))
    go false e = rw (sym p ∙ q, le-leb (length s) (at + size) k) refl

-- what a length at a position says of where its value starts
unfoldable LengthEnds : List ℕ → ℕ → Result Length Malformed → Type 0
LengthEnds s at (Ok l) = (at < l.next) × (l.next ≤ length s)
LengthEnds s at (Err e) = Unit {0}

length-ends : (s : List ℕ) (at : ℕ) → LengthEnds s at (length_at s at)
unfolding length_at long_length LengthEnds
length-ends s at =
    if-holds (LengthEnds s at) (length s ≤? at) (λ _. tt)
    (λ h. if-holds (LengthEnds s at) (byte s at <? 0x80) (λ _. (omega arith, omega (arith, leb-false (length s) at h)))
    (λ _. if-holds (LengthEnds s at) (byte s at == 0x81)
    (λ _. if-holds (LengthEnds s at) (length s ≤? at + 1) (λ _. tt)
    (λ j. if-holds (LengthEnds s at) (byte s (at + 1) <? 0x80) (λ _. tt) (λ _. (omega arith, omega (arith, leb-false (length s) (at + 1) j)))))
    (λ _. tt)))

pub length-past : (s : List ℕ) (at : ℕ) {r : Result Length Malformed} {l : Length} → r ≡ length_at s at → r ≡ Ok l → at < l.next
unfolding LengthEnds
length-past s at p q = (subst (LengthEnds s at) (sym p ∙ q) (length-ends s at)).0

pub length-within : (s : List ℕ) (at : ℕ) {r : Result Length Malformed} {l : Length} → r ≡ length_at s at → r ≡ Ok l → l.next ≤ length s
unfolding LengthEnds
length-within s at p q = (subst (LengthEnds s at) (sym p ∙ q) (length-ends s at)).1

-- the position past a value fits
pub length-fits : (s : List ℕ) (at : ℕ) {r : Result Length Malformed} {l : Length} → r ≡ length_at s at → r ≡ Ok l → Fits w8 l.len → length s * 1 < 2 ^ 63 → Fits w64 (l.next + l.len)
length-fits s at p q f g = omega (arith, length-within s at p q)

-- an element ends within the bytes, past its place, and its value ends where it ends
pub record Inside (s : List ℕ) (at : ℕ) (e : Element) : Type 0 where
  pub past : at < e.next
  pub within : e.next ≤ length s
  pub ends : e.start + e.len ≡ e.next

unfoldable ElementEnds : List ℕ → ℕ → Result (Option Element) Malformed → Type 0
ElementEnds s at (Ok (Some e)) = Inside s at e
ElementEnds s at (Ok None) = Unit {0}
ElementEnds s at (Err e) = Unit {0}

element-ends : (s : List ℕ) (at : ℕ) → ElementEnds s at (element_at s at)
unfolding element_at element_by valued ElementEnds
element-ends s at = if-holds (ElementEnds s at) (length s ≤? at) (λ _. tt) (λ _. sized (tag_size (byte s at)))
  where
    go : (size : ℕ) (l : Result Length Malformed) → length_at s (at + size) ≡ l → ElementEnds s at (valued s (tag_number s at) l)
    go size (Ok l) k =
        if-holds (ElementEnds s at) (l.next + l.len ≤? length s)
        (λ h. record { past = omega (arith, length-past s (at + size) (sym k) refl); within = leb-true (l.next + l.len) (length s) h; ends = refl })
        (λ _. tt)
    go size (Err e) k = tt

    sized : (t : Result ℕ Malformed) → ElementEnds s at (element_by s at t)
    sized (Ok size) = go size (length_at s (at + size)) refl
    sized (Err e) = tt

pub element-inside : (s : List ℕ) (at : ℕ) {r : Result (Option Element) Malformed} {e : Element} → r ≡ element_at s at → r ≡ Ok (Some e) → Inside s at e
unfolding ElementEnds
element-inside s at p q = subst (ElementEnds s at) (sym p ∙ q) (element-ends s at)

-- past an element less is left of the bytes
pub element-falls : (s : List ℕ) (at : ℕ) {r : Result (Option Element) Malformed} {e : Element} → r ≡ element_at s at → r ≡ Ok (Some e) → length s - e.next < length s - at
element-falls s at p q = let i = element-inside s at p q in omega arith
