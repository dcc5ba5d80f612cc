-- What follows of rows in their one form, and when a table is one.
-- Assumes nothing.
use Prim.Native.Nat.{ℕ, ◌+◌, ◌≤◌, ◌<◌}
use native.Mathlib.Omega.{arith}
use mathlib.Core.Path.{◌≡◌, refl, sym, ap, ◌∙◌}
use mathlib.Core.Bool.{Bool, not}
use mathlib.Core.List.{List, map}
use lib.ListN.{length, take, set, length-take}
use lib.Seq.{take_all}
use borrow.Author.Tests.{lt-ltb, le-ltb}
use Rattle.std.specs.Prelude.{◌==◌}
use Rattle.lists.specs.Lists.{padded, index_of, keep, some?, insert_at}
use Rattle.lists.proofs.Padded.{length-padded, take-padded, Open, open-start, open-put, length-insert_at}
use Rattle.lists.proofs.Keep.{Kept}
use Rattle.lists.proofs.Mapped.{map-length, map-index_of, map-keep, map-some, map-insert_at}
use Rattle.rules.specs.declared.Row as held
use Rattle.rules.specs.declared.Rows.{Rows}
use Rattle.rules.specs.Holds.{Row}
use Rattle.rules.specs.Rows.{place, without_rows}
use Rattle.rules.specs.Held.{view_row, stored_row, no_row, view_rows, stored_rows, TidyRows}
use Rattle.rules.proofs.Listed.{place-le}
use Rattle.rules.proofs.Held.{rows_back}
use Rattle.menu.specs.Table.{with_row, TidyRow}

abbrev pub blank : held.Row
blank = stored_row no_row

-- A row that is stored.
pub row_back : (r : Row) → view_row (stored_row r) ≡ r
unfolding view_row stored_row
row_back r = rw (take-padded 15 0 r.text) refl

pub tidy-row : (r : Row) → TidyRow (stored_row r)
tidy-row r = record { form = ap stored_row (sym (row_back r)) }

-- the text of a row in its one form is within its array
pub text-within : (r : held.Row) → TidyRow r → r.len ≤ length r.text
unfolding view_row stored_row
text-within r t = omega (arith, ap (λ (x : held.Row). x.len) t.form, length-take r.len r.text)

-- A table that is stored.
pub tidy-stored : (l : List Row) → length l ≤ 12 → TidyRows (stored_rows l)
unfolding stored_rows
tidy-stored l h = record { few = h; form = ap stored_rows (sym (rows_back l)) }

pub stands : {at : List held.Row} {n : ℕ} (l : List Row) → at ≡ padded 12 blank (map stored_row l) → n ≡ length l → ◌≡◌ {A = Rows} (record { at = at; count = n }) (stored_rows l)
unfolding stored_rows
stands l p q = rw (p, q) refl

-- A table in its one form.
pub at-is : (s : Rows) → TidyRows s → s.at ≡ padded 12 blank (map stored_row (view_rows s))
unfolding stored_rows
at-is s t = ap (λ (x : Rows). x.at) t.form

pub count-is : (s : Rows) → TidyRows s → s.count ≡ length (view_rows s)
unfolding stored_rows
count-is s t = ap (λ (x : Rows). x.count) t.form

held-count : (s : Rows) → TidyRows s → s.count ≡ length (map stored_row (view_rows s))
held-count s t = count-is s t ∙ sym (map-length stored_row (view_rows s))

pub long : (s : Rows) → TidyRows s → length s.at ≡ 12
long s t =
    let h : length (map stored_row (view_rows s)) ≤ 12 = omega (arith, held-count s t, t.few) in
    ap length (at-is s t) ∙ length-padded 12 blank (map stored_row (view_rows s)) h

pub held-is : (s : Rows) → TidyRows s → take s.count s.at ≡ map stored_row (view_rows s)
held-is s t =
    ap (take s.count) (at-is s t)
    ∙ ap (λ (n : ℕ). take n (padded 12 blank (map stored_row (view_rows s)))) (held-count s t)
    ∙ take-padded 12 blank (map stored_row (view_rows s))

-- Searches over the array are those over the view.
pub index-viewed : (s : Rows) (p : Row → Bool) → index_of (λ (x : held.Row). p (view_row x)) (take s.count s.at) ≡ index_of p (view_rows s)
unfolding view_rows
index-viewed s p = map-index_of view_row p (take s.count s.at)

pub some-viewed : (s : Rows) (p : Row → Bool) → some? (λ (x : held.Row). p (view_row x)) (take s.count s.at) ≡ some? p (view_rows s)
unfolding view_rows
some-viewed s p = map-some view_row p (take s.count s.at)

abbrev pub named : (identifier : ℕ) → held.Row → Bool
named i x = x.identifier == i

-- An insertion: the array opens from the end to the place, and the new row is put there.
pub opens : (s : Rows) → TidyRows s → s.count < 12 → Open 12 blank (map stored_row (view_rows s)) s.count s.at
opens s t f =
    let e = held-count s t in
    open-start 12 blank (map stored_row (view_rows s)) s.count s.at (at-is s t) e (omega arith)

pub puts : (s : Rows) (p k : ℕ) (at : List held.Row) (x : held.Row) (new : Row) → TidyRows s → x ≡ stored_row new → k ≡ place p s.count → Open 12 blank (map stored_row (view_rows s)) k at → ◌≡◌ {A = Rows} (record { at = set at k x; count = s.count + 1 }) (stored_rows (insert_at (place p (length (view_rows s))) new (view_rows s)))
puts s p k at x new t u e o =
    let l = view_rows s in
    let f : k ≡ place p (length l) = e ∙ ap (place p) (count-is s t) in
    let h : k ≤ length l = omega (arith, f, place-le p (length l)) in
    let g : k ≤ length (map stored_row l) = omega (arith, h, map-length stored_row l) in
    let a : insert_at k x (map stored_row l) ≡ map stored_row (insert_at k new l) = ap (λ (y : held.Row). insert_at k y (map stored_row l)) u ∙ sym (map-insert_at stored_row k new l) in
    stands (insert_at k new l) (open-put 12 blank (map stored_row l) k at x g o ∙ ap (padded 12 blank) a) (omega (arith, count-is s t, length-insert_at k new l h))
    ∙ ap (λ (n : ℕ). stored_rows (insert_at n new l)) f

pub inserted-room : (p : ℕ) (x : Row) (l : List Row) → length l < 12 → with_row p x l ≡ insert_at (place p (length l)) x l
unfolding with_row
inserted-room p x l h = rw (lt-ltb (length l) 12 h) refl

pub inserted-full : (p : ℕ) (x : Row) (l : List Row) → 12 ≤ length l → with_row p x l ≡ l
unfolding with_row
inserted-full p x l h = rw (le-ltb (length l) 12 h) refl

-- A deletion: what is kept of the array is what is kept of the rows.
abbrev pub not_of : (owner : ℕ) → held.Row → Bool
not_of n x = not (x.owner == n)

pub keeps : (s left : Rows) (n i : ℕ) → TidyRows s → Kept 12 blank (not_of n) (take s.count s.at) i left.at left.count → length (take s.count s.at) ≤ i → left ≡ stored_rows (without_rows n (view_rows s))
unfolding stored_row without_rows
keeps s left n i t o h =
    let l = view_rows s in
    let w : take i (take s.count s.at) ≡ map stored_row l = take_all i (take s.count s.at) h ∙ held-is s t in
    let a : keep (not_of n) (take i (take s.count s.at)) ≡ map stored_row (without_rows n l) = ap (keep (not_of n)) w ∙ sym (map-keep stored_row (not_of n) l) in
    stands (without_rows n l) (o.form ∙ ap (padded 12 blank) a) (o.many ∙ ap length a ∙ map-length stored_row (without_rows n l))
