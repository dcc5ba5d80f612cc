-- Laws of what is listed: the place of a new row, the smallest identifier of a range that is not in use, the bytes of a length, the
-- order of call, and that event codes rise. Assumes nothing.
use Prim.Native.Nat.{ℕ, zero, suc, ◌+◌, ◌-◌, ◌≤◌, ◌<◌}
use native.Mathlib.Omega.{arith}
use mathlib.Core.Path.{◌≡◌, refl, ap, ◌∙◌}
use mathlib.Core.Bool.{Bool, true, false, not, ◌||◌}
use mathlib.Core.List.{List, [], ◌∷◌}
use lib.ListN.{length}
use borrow.Author.Tests.{eqb-true, eqb-false, ltb-false, leb-true, le-leb}
use Rattle.lists.specs.Tests.{◌<?◌, ◌≤?◌}
use Rattle.std.specs.Prelude.{if◌then◌else◌, ◌==◌}
use Rattle.lists.specs.Lists.{some?, every?, Every, count, first}
use Rattle.lists.specs.Tables.{table}
use Rattle.lists.proofs.Decided.{clashing}
use Rattle.lists.proofs.Counts.{count-within, count-length}
use Rattle.lists.proofs.Every.{rises?}
use Rattle.lists.proofs.Times.{count-insert_before}
use Rattle.lists.proofs.Order.{every-insert}
use Rattle.rules.specs.Holds.{Applet, Row}
use Rattle.rules.specs.Events.{codes}
use Rattle.rules.specs.Applets.{in_order}
use Rattle.rules.specs.Rows.{has_identifier, place, in_use, smallest_free}
use Rattle.rules.specs.Commands.{length_bytes}

pub place-le : (p n : ℕ) → place p n ≤ n
unfolding place
place-le p n = go (p == 0) (n <? p) refl
  where
    go : (a b : Bool) → (n <? p) ≡ b → (if a then n else if b then n else p - 1) ≤ n
    go true b e = omega arith
    go false true e = omega arith
    go false false e = omega (arith, ltb-false n p e)

-- the smallest of i, i + 1 .. i + n that is not in use
unfoldable pub free_from : (n i : ℕ) → List Row → ℕ
free_from zero i rows = i
free_from (suc n) i rows = if in_use i rows then free_from n (suc i) rows else i

first-free
    : (n i last : ℕ) (number : ℕ → ℕ) (rows : List Row) → ((k : ℕ) → number k ≡ i + k) → last ≡ i + n
    → first (λ j. not (in_use j rows)) last (table (suc n) number) ≡ free_from n i rows
unfolding first table free_from
first-free zero i last number rows h e = go (in_use (number 0) rows)
  where
    go : (b : Bool) → (if not b then number 0 else last) ≡ i
    go true = omega (arith, e)
    go false = omega (arith, h 0)
first-free (suc n) i last number rows h e =
    let here : number 0 ≡ i = omega (arith, h 0) in
    ap (λ (j : ℕ). if not (in_use j rows) then j else later) here
    ∙ go (in_use i rows) (first-free n (suc i) last (λ k. number (suc k)) rows (λ k. omega (arith, h (suc k))) (omega (arith, e)))
  where
    later : ℕ
    later = first (λ j. not (in_use j rows)) last (table (suc n) (λ k. number (suc k)))

    go : (b : Bool) → later ≡ free_from n (suc i) rows → (if not b then i else later) ≡ (if b then free_from n (suc i) rows else i)
    go true f = f
    go false f = refl

pub smallest-is : (rows : List Row) → smallest_free rows ≡ free_from 127 128 rows
unfolding smallest_free
smallest-is rows = first-free 127 128 255 (λ k. 128 + k) rows (λ k. refl) refl

-- it lies in the range
from_low : (n i : ℕ) (l : List Row) → i ≤ free_from n i l
unfolding free_from
from_low zero i l = omega arith
from_low (suc n) i l = go (in_use i l) (from_low n (suc i) l)
  where
    go : (t : Bool) → suc i ≤ free_from n (suc i) l → i ≤ (if t then free_from n (suc i) l else i)
    go true f = omega arith
    go false f = omega arith

from-high : (n i : ℕ) (l : List Row) → free_from n i l ≤ i + n
unfolding free_from
from-high zero i l = omega arith
from-high (suc n) i l = go (in_use i l) (from-high n (suc i) l)
  where
    go : (t : Bool) → free_from n (suc i) l ≤ suc i + n → (if t then free_from n (suc i) l else i) ≤ i + suc n
    go true f = omega arith
    go false f = omega arith

-- all below it are in use
from-least : (n i : ℕ) (l : List Row) (j : ℕ) → i ≤ j → j < free_from n i l → in_use j l ≡ true
unfolding free_from
from-least zero i l j p q = absurd (omega arith)
from-least (suc n) i l j p q = go (in_use i l) refl q (λ r s. from-least n (suc i) l j r s)
  where
    go : (b : Bool) → in_use i l ≡ b → j < (if b then free_from n (suc i) l else i) → (suc i ≤ j → j < free_from n (suc i) l → in_use j l ≡ true) → in_use j l ≡ true
    go true e s r = at (j == i) refl
      where
        at : (b : Bool) → (j == i) ≡ b → in_use j l ≡ true
        at true z = rw (eqb-true j i z) e
        at false z = r (omega (arith, eqb-false j i z)) s
    go false e s r = absurd (omega arith)

-- the rows from an identifier on
abbrev from : ℕ → Row → Bool
from i r = i ≤? r.identifier

-- an identifier in use leaves fewer from the next one on
used-fewer : (i : ℕ) (l : List Row) → in_use i l ≡ true → suc (count (from (suc i)) l) ≤ count (from i) l
unfolding in_use some? count
used-fewer i [] e = clashing e refl
used-fewer i (y ∷ l) e = go (y.identifier == i) (i ≤? y.identifier) (suc i ≤? y.identifier) refl refl refl e (used-fewer i l) (count-within (from (suc i)) (from i) weaker l)
  where
    weaker : (r : Row) → (suc i ≤? r.identifier) ≡ true → (i ≤? r.identifier) ≡ true
    weaker r q = le-leb i r.identifier (omega (arith, leb-true (suc i) r.identifier q))

    go : (s t u : Bool) → (y.identifier == i) ≡ s → (i ≤? y.identifier) ≡ t → (suc i ≤? y.identifier) ≡ u → (s || some? (has_identifier i) l) ≡ true
        → (some? (has_identifier i) l ≡ true → suc (count (from (suc i)) l) ≤ count (from i) l) → count (from (suc i)) l ≤ count (from i) l
        → suc (if u then suc (count (from (suc i)) l) else count (from (suc i)) l) ≤ (if t then suc (count (from i) l) else count (from i) l)
    go true true true p q r z f k = absurd (omega (arith, leb-true (suc i) y.identifier r, eqb-true y.identifier i p))
    go true true false p q r z f k = omega arith
    go true false u p q r z f k = clashing (le-leb i y.identifier (omega (arith, eqb-true y.identifier i p))) q
    go false true true p q r z f k = omega (arith, f z)
    go false true false p q r z f k = omega (arith, f z)
    go false false true p q r z f k = clashing (weaker y r) q
    go false false false p q r z f k = f z

-- while the rows from i on are fewer than the numbers tried, it is not in use
free-by : (n i : ℕ) (l : List Row) → count (from i) l ≤ n → in_use (free_from n i l) l ≡ false
unfolding free_from
free-by zero i l e = go (in_use i l) refl
  where
    go : (t : Bool) → in_use i l ≡ t → in_use i l ≡ false
    go true p = absurd (omega (arith, used-fewer i l p))
    go false p = p
free-by (suc n) i l e = go (in_use i l) refl (free-by n (suc i) l)
  where
    go : (t : Bool) → in_use i l ≡ t → (count (from (suc i)) l ≤ n → in_use (free_from n (suc i) l) l ≡ false) → in_use (if t then free_from n (suc i) l else i) l ≡ false
    go true p f = f (omega (arith, used-fewer i l p))
    go false p f = p

pub from-unused : (n i : ℕ) (l : List Row) → length l ≤ n → in_use (free_from n i l) l ≡ false
from-unused n i l h = free-by n i l (omega (arith, count-length (from i) l))

-- The free identifier lies in 128..255, and none below it is free; while there are fewer than 128 rows it is not in use.
pub free-from : (rows : List Row) → 128 ≤ smallest_free rows
free-from rows = omega (arith, smallest-is rows, from_low 127 128 rows)

pub free-to : (rows : List Row) → smallest_free rows ≤ 255
free-to rows = omega (arith, smallest-is rows, from-high 127 128 rows)

pub free-smallest : (rows : List Row) (i : ℕ) → 128 ≤ i → i < smallest_free rows → in_use i rows ≡ true
free-smallest rows i h f = from-least 127 128 rows i h (omega (arith, smallest-is rows))

pub free-unused : (rows : List Row) → length rows < 128 → in_use (smallest_free rows) rows ≡ false
free-unused rows h = rw (smallest-is rows) (from-unused 127 128 rows (omega arith))

pub length_most : (n : ℕ) → length (length_bytes n) ≤ 2
unfolding length_bytes
length_most n = go (n <? 0x80)
  where
    go : (b : Bool) → length (if b then n ∷ [] else 0x81 ∷ n ∷ []) ≤ 2
    go true = omega arith
    go false = omega arith

pub count-in_order : (p : Applet → Bool) (l : List Applet) → count p (in_order l) ≡ count p l
unfolding in_order count
count-in_order p [] = refl
count-in_order p (x ∷ l) = count-insert_before p _ x (in_order l) ∙ ap (λ (n : ℕ). if p x then suc n else n) (count-in_order p l)

-- what holds of each holds of each in order
pub every-in_order : (P : Applet → Type 0) (l : List Applet) → Every P l → Every P (in_order l)
unfolding in_order Every
every-in_order P [] e = tt
every-in_order P (x ∷ l) e = every-insert P _ x (in_order l) e.0 (every-in_order P l e.1)

pub codes-rise : rises? codes ≡ true
unfolding rises? codes every?
codes-rise = refl
