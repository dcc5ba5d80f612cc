-- The identifier that a new entry gets: from 1 to 255, one of the applet's own requests if no more than 127, and no row has it.
-- Assumes nothing.
use Prim.Native.Nat.{ℕ, ◌+◌, ◌≤◌, ◌<◌}
use native.Mathlib.Omega.{arith}
use mathlib.Core.Path.{◌≡◌, refl, sym, ap, ◌∙◌}
use mathlib.Core.Bool.{Bool, true, false, or-true}
use mathlib.Core.List.{List, [], ◌∷◌, ◌++◌}
use mathlib.Core.Logic.{◌⊎◌, inl, inr}
use lib.ListN.{length, take, drop, take-append-drop}
use lib.Seq.{drop-cons, take-suc}
use borrow.Author.Tests.{eqb-true, eqb-false}
use Rattle.std.specs.Prelude.{if◌then◌else◌, ◌==◌}
use Rattle.lists.specs.Lists.{some?, keep, first, count, in?}
use Rattle.lists.proofs.Decided.{clashing, same}
use Rattle.lists.proofs.Every.{every-all, every_first, every-get_or}
use Rattle.lists.proofs.Firsts.{first_passes, some-append}
use Rattle.lists.proofs.Keep.{keep_append}
use Rattle.lists.proofs.Mapped.{map-append}
use Rattle.lists.proofs.Counts.{count-append, count-some}
use Rattle.lists.proofs.Sums.{sum_first, sum_both, sum_alike, count-gather}
use Rattle.rules.specs.declared.Pair.{Pair}
use Rattle.rules.specs.Holds.{Applet, Row, Tables, with_one_more}
use Rattle.rules.specs.Applets.{has_number, present, applet, nobody, entries, requested}
use Rattle.rules.specs.Rows.{has_identifier, in_use, smallest_free, identifier_for, no_pair, next_pair, next_identifier}
use Rattle.rules.specs.Held.{no_row}
use Rattle.rules.proofs.Listed.{free-unused, free-from, free-to}
use Rattle.runs.specs.Sound.{SoundRow, SoundTables, served, requests}
use Rattle.runs.proofs.Looked.{sound-applet}
use Rattle.runs.proofs.Room.{entry-room}

requested-append : (l k : List Pair) → requested (l ++ k) ≡ requested l ++ requested k
unfolding requested
requested-append l k = rw (map-append (λ (p : Pair). p.identifier) l k, keep_append) refl

-- a pair that requests an identifier stands first in what is requested from it on
requested-head : (p : Pair) (l : List Pair) → (p.identifier == 0) ≡ false → requested (p ∷ l) ≡ p.identifier ∷ requested l
unfolding requested keep
requested-head p l e = rw e refl

-- the two ways to get an identifier: the smallest that is free, or the one requested
abbrev Given : (requested : ℕ) → List Row → (identifier : ℕ) → Type 0
Given i rows k = (k ≡ smallest_free rows) ⊎ (((i == 0) ≡ false) × (k ≡ i))

given : (i : ℕ) (rows : List Row) → Given i rows (identifier_for i rows)
unfolding identifier_for
given i rows = go (i == 0) refl
  where
    go : (t : Bool) → (i == 0) ≡ t → Given i rows (if t then smallest_free rows else i)
    go true e = inl refl
    go false e = inr (e, refl)

-- what an applet requested for the entries that it has still to make
abbrev ahead : Applet → List ℕ
ahead x = requested (drop x.made x.limits.pairs)

requested-parts : (i : ℕ) (x : Applet) → count (λ k. k == i) (requested x.limits.pairs) ≡ count (λ k. k == i) (served x) + count (λ k. k == i) (ahead x)
unfolding served
requested-parts i x =
    ap (λ (l : List Pair). count (λ k. k == i) (requested l)) (sym (take-append-drop x.made x.limits.pairs))
    ∙ ap (count (λ k. k == i)) (requested-append (take x.made x.limits.pairs) (drop x.made x.limits.pairs))
    ∙ count-append (λ k. k == i) (served x) (ahead x)

-- one entry more uses up the next pair
pub served-more : (x : Applet) → x.made < entries x → served (with_one_more x) ≡ served x ++ requested (next_pair x ∷ [])
unfolding served next_pair
served-more x more =
    ap requested (take-suc x.limits.pairs x.made no_pair more) ∙ requested-append (take x.made x.limits.pairs) (next_pair x ∷ [])

module _ (t : Tables) (s : SoundTables t) where
  -- no identifier is both served and ahead, be it of one applet or of two
  apart : (i : ℕ) (y x : ℕ) → present t y ≡ true → present t x ≡ true → 1 ≤ count (λ k. k == i) (served (applet t y)) → 1 ≤ count (λ k. k == i) (ahead (applet t x)) → ⊥
  unfolding present applet requests
  apart i y x hy hx cy cx =
      let past : Applet → ℕ = λ z. count (λ k. k == i) (served z) in
      let still : Applet → ℕ = λ z. count (λ k. k == i) (ahead z) in
      omega (
        arith,
        s.requests-apart i,
        count-gather (λ k. k == i) (λ (z : Applet). requested z.limits.pairs) t.applets,
        sum_alike (λ z. count (λ k. k == i) (requested z.limits.pairs)) (λ z. past z + still z) t.applets (every-all _ (requested-parts i) t.applets),
        sum_both past still t.applets,
        sum_first past (has_number y) nobody t.applets hy,
        sum_first still (has_number x) nobody t.applets hx,
      )

  -- a row's identifier of at most 127 was served to an applet that is present
  row-served : (i : ℕ) → i ≤ 127 → in_use i t.rows ≡ true → (n : ℕ) × (present t n ≡ true) × (1 ≤ count (λ k. k == i) (served (applet t n)))
  unfolding in_use in?
  row-served i h e =
      let r = first (has_identifier i) no_row t.rows in
      let q : SoundRow t r = every_first (SoundRow t) (has_identifier i) no_row t.rows e s.each_row in
      let z : r.identifier ≡ i = eqb-true _ i (first_passes (has_identifier i) no_row t.rows e) in
      (r.owner, q.owner, rw z at (count-some (λ k. k == r.identifier) (served (applet t r.owner)) (q.served (omega arith))))

  module _ (n : ℕ) (here : present t n ≡ true) (more : (applet t n).made < entries (applet t n)) where
    abbrev next : ℕ
    next = next_identifier (applet t n) t.rows

    abbrev wanted : ℕ
    wanted = (next_pair (applet t n)).identifier

    few : length t.rows < 128
    few = omega (arith, s.room, entry-room t s n here more)

    wanted-to : wanted ≤ 127
    unfolding next_pair
    wanted-to = every-get_or (λ (p : Pair). p.identifier ≤ 127) no_pair (omega arith) (applet t n).limits.pairs (applet t n).made (sound-applet t s n here).identifiers

    is-ahead : (wanted == 0) ≡ false → 1 ≤ count (λ k. k == wanted) (ahead (applet t n))
    unfolding next_pair count
    is-ahead e = rw (drop-cons (applet t n).limits.pairs (applet t n).made no_pair more, requested-head _ _ e, same wanted) (omega arith)

    pub next-from : 1 ≤ next
    unfolding next_identifier
    next-from = go (given wanted t.rows)
      where
        go : Given wanted t.rows next → 1 ≤ next
        go (inl z) = omega (arith, free-from t.rows)
        go (inr z) = omega (arith, z.1, eqb-false wanted 0 z.0)

    pub next-to : next ≤ 255
    unfolding next_identifier
    next-to = go (given wanted t.rows)
      where
        go : Given wanted t.rows next → next ≤ 255
        go (inl z) = omega (arith, free-to t.rows)
        go (inr z) = omega (arith, z.1, wanted-to)

    -- no row has it
    pub next-unused : in_use next t.rows ≡ false
    unfolding next_identifier
    next-unused = go (given wanted t.rows) (in_use next t.rows) refl
      where
        go : Given wanted t.rows next → (b : Bool) → in_use next t.rows ≡ b → b ≡ false
        go z false e = refl
        go (inl z) true e = clashing e (rw z (free-unused t.rows few))
        go (inr z) true e =
            let o = row-served wanted wanted-to (rw z.1 at e) in
            absurd (apart wanted o.0 n o.1 here o.2 (is-ahead z.0))

    -- one of at most 127 is the request that the entry uses up
    pub next-served : next ≤ 127 → in? next (served (with_one_more (applet t n))) ≡ true
    unfolding next_identifier in? some?
    next-served h = go (given wanted t.rows)
      where
        go : Given wanted t.rows next → in? next (served (with_one_more (applet t n))) ≡ true
        go (inl z) = absurd (omega (arith, free-from t.rows))
        go (inr z) =
            rw (
              z.1,
              served-more (applet t n) more,
              some-append (λ k. k == wanted) (served (applet t n)) (requested (next_pair (applet t n) ∷ [])),
              requested-head (next_pair (applet t n)) [] z.0,
              same wanted,
            )
            (or-true (in? wanted (served (applet t n))))
