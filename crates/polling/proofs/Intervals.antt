-- The system interval and the set of those who request one, from the last place to the first; and what leaves the marks.
-- Assumes nothing.
use Prim.Native.Nat.{ℕ, suc, ◌+◌, ◌-◌, ◌*◌, ◌≤◌, ◌<◌}
use native.Mathlib.Omega.{arith}
use mathlib.Core.Path.{◌≡◌, refl, sym, ap, ◌∙◌}
use mathlib.Core.Bool.{Bool, true, false, not}
use mathlib.Core.List.{List, [], ◌∷◌, map}
use lib.ListN.{length, drop, get_or}
use mir.Val.{bool_byte}
use native.Mathlib.Numerals.{add-one}
use borrow.Author.Tests.{eq-eqb}
use Rattle.std.specs.Prelude.{if◌then◌else◌, ◌==◌}
use Rattle.lists.specs.Lists.{Every, keep, smallest}
use Rattle.lists.specs.Tables.{table}
use Rattle.lists.proofs.Least.{least_of, least_more, least_step}
use Rattle.lists.proofs.Tables.{table_at, table-length}
use Rattle.sets.specs.Sets.{numbers, has?, set_of, valued}
use Rattle.sets.proofs.Bits.{one_of}
use Rattle.sets.proofs.Built.{built-small, built-yes, built-no}
use Rattle.applets.specs.ByNumber.{by_number}
use Rattle.polling.specs.declared.Polling.{Polling}
use Rattle.polling.specs.Polls.{polling_set, interval_of, polling_after}

-- what counts in each place
unfoldable pub counted : (polls : List ℕ) (set : ℕ) → List ℕ
counted polls set = table 8 (λ i. if has? set (suc i) then get_or polls i 0 else 0)

-- THE INTERVAL, of the places from i on
module _ (polls : List ℕ) (set : ℕ) where
  pub interval-none : 0 ≡ least_of (drop 8 (counted polls set))
  unfolding counted table keep smallest
  interval-none = refl

  module _ (i : ℕ) {l : ℕ} {b : Bool} (some : 0 < i) (few : i ≤ 8) (from : l ≡ least_of (drop i (counted polls set))) (own : b ≡ has? set (i - 1 + 1)) where
    stepped : least_of (drop (i - 1) (counted polls set)) ≡ least_of ((if b then get_or polls (i - 1) 0 else 0) ∷ l ∷ [])
    unfolding counted
    stepped =
        let back : i - 1 + 1 ≡ i = omega arith in
        let step = rw back at (least_step (counted polls set) (i - 1) (omega (arith, table-length 8 (λ i. if has? set (suc i) then get_or polls i 0 else 0)))) in
        step
        ∙ ap (λ (x : ℕ). least_of (x ∷ least_of (drop i (counted polls set)) ∷ [])) (table_at 8 (λ i. if has? set (suc i) then get_or polls i 0 else 0) (i - 1) 0 (omega arith))
        ∙ ap (λ (k : ℕ). least_of ((if has? set k then get_or polls (i - 1) 0 else 0) ∷ least_of (drop i (counted polls set)) ∷ [])) (sym (add-one (i - 1)))
        ∙ rw (own, from) refl

    pub interval-yes : b ≡ true → {r : ℕ} → r ≡ least_of (get_or polls (i - 1) 0 ∷ l ∷ []) → r ≡ least_of (drop (i - 1) (counted polls set))
    interval-yes e q = q ∙ sym (stepped ∙ rw e refl)

    pub interval-no : b ≡ false → l ≡ least_of (drop (i - 1) (counted polls set))
    unfolding keep
    interval-no e = sym (stepped ∙ rw (e, from) (least_more 0 (drop i (counted polls set))) ∙ sym from)

  pub interval-all : (i : ℕ) {l : ℕ} → i ≤ 0 → l ≡ least_of (drop i (counted polls set)) → l ≡ interval_of polls set
  unfolding interval_of counted
  interval-all i h e = let z : i ≡ 0 = omega arith in rw z at e

-- THE SET, of the places from i on
module _ (polls : List ℕ) where
  unfoldable pub asks : List Bool
  asks = map (λ n. not (by_number 0 polls n == 0)) numbers

  pub set-none : 0 ≡ valued (drop 8 asks)
  unfolding asks numbers valued
  set-none = refl

  eight : length asks ≡ 8
  unfolding asks numbers
  eight = refl

  module _ (i : ℕ) {s : ℕ} (some : 0 < i) (few : i ≤ 8) (from : s ≡ valued (drop i asks)) where
    ask-at : get_or asks (i - 1) false ≡ not (get_or polls (i - 1) 0 == 0)
    unfolding asks numbers
    ask-at =
        let back : i ≡ suc (i - 1) = omega arith in
        one_of (λ n. get_or asks (n - 1) false ≡ not (by_number 0 polls n == 0)) (unfold numbers Every in (refl, (refl, (refl, (refl, (refl, (refl, (refl, (refl, tt))))))))) i some few
        ∙ ap (λ (n : ℕ). not (by_number 0 polls n == 0)) back

    pub set-small : s < 128
    set-small = built-small asks i s some from eight

    pub set-with : (bit : ℕ) → bit ≡ bool_byte (not (get_or polls (i - 1) 0 == 0)) → s * 2 + bit ≡ valued (drop (i - 1) asks)
    set-with bit e = ap (λ (k : ℕ). s * 2 + k) e ∙ go (not (get_or polls (i - 1) 0 == 0)) ask-at
      where
        go : (b : Bool) → get_or asks (i - 1) false ≡ b → s * 2 + bool_byte b ≡ valued (drop (i - 1) asks)
        go true h = built-yes asks i s some from (omega (arith, eight)) h
        go false h = omega (arith, built-no asks i s some from (omega (arith, eight)) h)

  pub set_all : (i : ℕ) {s : ℕ} → i ≤ 0 → s ≡ valued (drop i asks) → s ≡ polling_set polls
  unfolding polling_set set_of asks
  set_all i h e = let z : i ≡ 0 = omega arith in rw z at e

pub bit-few : {bit : ℕ} (b : Bool) → bit ≡ bool_byte b → bit ≤ 1
bit-few true e = omega arith
bit-few false e = omega arith

-- no change of the interval leaves what is due
pub after_same : (session interval off : Bool) {before after : ℕ} → before ≡ after → ◌≡◌ {A = Polling} (record { interval = interval; off = off }) (polling_after session interval off before after)
after_same true interval off {before} {after} e = rw (eq-eqb before after e) refl
after_same false interval off e = refl
