-- One applet's request beside those of the others: the interval by both, and after the applet is switched or requests anew.
-- Assumes nothing.
use Prim.Native.Nat.{ℕ, suc, ◌-◌, ◌≤◌, ◌<◌}
use native.Mathlib.Omega.{arith}
use mathlib.Core.Path.{◌≡◌, refl, sym, ap, ap₂, ◌∙◌}
use mathlib.Core.Bool.{Bool, true, false}
use mathlib.Core.List.{List}
use mathlib.Core.Logic.{◌⊎◌, inl, inr}
use lib.ListN.{length, get_or, get_or-eq_default}
use borrow.Author.Tests.{eqb-true, eqb-false, eq-eqb, ne_eqb}
use Rattle.std.specs.Prelude.{if◌then◌else◌, ◌==◌}
use Rattle.lists.specs.Lists.{keep}
use Rattle.lists.specs.Tables.{table}
use Rattle.lists.proofs.Decided.{clashing}
use Rattle.lists.proofs.Least.{least_of, least_more, least-set}
use Rattle.lists.proofs.Tables.{table_at, table-alike, table-set, table-length}
use Rattle.sets.specs.Sets.{is_number, has?, switched_set}
use Rattle.sets.proofs.Bits.{is-number, no_number, has-set, has-none, set-alike}
use Rattle.applets.specs.ByNumber.{by_number, table_with}
use Rattle.polling.specs.declared.Polling.{Polling}
use Rattle.polling.specs.Polls.{shorter_of, interval_of, polling_after}

-- a number that is switched, and one that is not
module _ (set n : ℕ) (on : Bool) where
  pub own-switched : is_number n ≡ true → has? (switched_set set n on) n ≡ on
  own-switched q =
      has-set (λ k. if k == n then on else has? set k) n (is-number n q).0 (is-number n q).1 ∙ ap (λ (b : Bool). if b then on else has? set n) (eq-eqb n n refl)

  other-switched : (k : ℕ) → 1 ≤ k → k ≤ 8 → (k ≡ n → ⊥) → has? (switched_set set n on) k ≡ has? set k
  other-switched k a b other = has-set (λ k. if k == n then on else has? set k) k a b ∙ ap (λ (b : Bool). if b then on else has? set k) (ne_eqb k n other)

  switched-twice : switched_set (switched_set set n on) n false ≡ switched_set set n false
  switched-twice = set-alike _ _ each
    where
      each : (k : ℕ) → 1 ≤ k → k ≤ 8 → (if k == n then false else has? (switched_set set n on) k) ≡ (if k == n then false else has? set k)
      each k a b = go (k == n) refl
        where
          go : (o : Bool) → (k == n) ≡ o → (if o then false else has? (switched_set set n on) k) ≡ (if o then false else has? set k)
          go true e = refl
          go false e = other-switched k a b (eqb-false k n e)

pub left_out : (set n : ℕ) → has? (switched_set set n false) n ≡ false
left_out set n = go (is_number n) refl
  where
    go : (b : Bool) → is_number n ≡ b → has? (switched_set set n false) n ≡ false
    go true q = own-switched set n false q
    go false q = sym (has-none (switched_set set n false) n q)

-- THE INTERVAL by one applet's request and those of the others
module _ (polls : List ℕ) (set n : ℕ) where
  abbrev rest : ℕ
  rest = switched_set set n false

  abbrev own : ℕ
  own = if has? set n then by_number 0 polls n else 0

  abbrev others : ℕ → ℕ
  others i = if has? rest (suc i) then get_or polls i 0 else 0

  in_place : (i : ℕ) → i < 8 → is_number n ≡ true → (if i == n - 1 then own else others i) ≡ (if has? set (suc i) then get_or polls i 0 else 0)
  in_place i h q = go (i == n - 1) refl
    where
      go : (b : Bool) → (i == n - 1) ≡ b → (if b then own else others i) ≡ (if has? set (suc i) then get_or polls i 0 else 0)
      go true e =
          let is : n ≡ suc i = omega (arith, eqb-true i (n - 1) e, is-number n q) in
          ap (λ (k : ℕ). if has? set k then by_number 0 polls k else 0) is
      go false e =
          let not-it = eqb-false i (n - 1) e in
          ap (λ (b : Bool). if b then get_or polls i 0 else 0) (other-switched set n false (suc i) (omega arith) (omega arith) (λ z. not-it (omega arith)))

  nothing-there : is_number n ≡ true → get_or (table 8 others) (n - 1) 0 ≡ 0
  nothing-there q =
      let back : suc (n - 1) ≡ n = omega (arith, is-number n q) in
      table_at 8 others (n - 1) 0 (omega (arith, is-number n q))
      ∙ ap (λ (b : Bool). if b then get_or polls (n - 1) 0 else 0) (ap (has? rest) back ∙ left_out set n)

  none_out : is_number n ≡ false → interval_of polls rest ≡ interval_of polls set
  unfolding interval_of
  none_out q = ap least_of (table-alike 8 _ _ (λ i h. ap (λ (b : Bool). if b then get_or polls i 0 else 0) (other-switched set n false (suc i) (omega arith) (omega arith) (λ z. past i h z (no_number n q)))))
    where
      past : (i : ℕ) → i < 8 → suc i ≡ n → (n ≡ 0) ⊎ (8 < n) → ⊥
      past i h z (inl e) = omega arith
      past i h z (inr e) = omega arith

  pub interval-split : interval_of polls set ≡ shorter_of own (interval_of polls rest)
  unfolding interval_of keep
  interval-split = go (is_number n) refl
    where
      go : (b : Bool) → is_number n ≡ b → interval_of polls set ≡ shorter_of own (interval_of polls rest)
      go true q =
          sym (ap least_of (table-set 8 others (n - 1) own ∙ table-alike 8 _ _ (λ i h. in_place i h q)))
          ∙ least-set own (table 8 others) (n - 1) (omega (arith, is-number n q, table-length 8 others)) (nothing-there q)
          ∙ sym (least_more own (table 8 others))
      go false q = sym (ap (λ (b : Bool). shorter_of (if b then by_number 0 polls n else 0) (interval_of polls rest)) (sym (has-none set n q)) ∙ least_more 0 (table 8 others) ∙ none_out q)

-- a request of one that is not of the set counts nothing
pub unset-request : (polls : List ℕ) (set n s : ℕ) → has? set n ≡ false → interval_of (table_with 0 polls n s) set ≡ interval_of polls set
unfolding interval_of table_with
unset-request polls set n s out = ap least_of (table-alike 8 _ _ each)
  where
    each : (i : ℕ) → i < 8 → (if has? set (suc i) then get_or (table 8 (λ j. if suc j == n then s else get_or polls j 0)) i 0 else 0) ≡ (if has? set (suc i) then get_or polls i 0 else 0)
    each i h = ap (λ (k : ℕ). if has? set (suc i) then k else 0) (table_at 8 (λ j. if suc j == n then s else get_or polls j 0) i 0 h) ∙ go (suc i == n) refl
      where
        go : (b : Bool) → (suc i == n) ≡ b → (if has? set (suc i) then (if b then s else get_or polls i 0) else 0) ≡ (if has? set (suc i) then get_or polls i 0 else 0)
        go true q = let none = ap (has? set) (eqb-true (suc i) n q) ∙ out in rw none refl
        go false q = refl

-- THE INTERVAL after the applet is switched, and after it requests anew
module _ (polls : List ℕ) (set n : ℕ) where
  none-outside : length polls ≡ 8 → (n ≡ 0) ⊎ (8 < n) → by_number 0 polls n ≡ 0
  none-outside eight (inl z) = rw z refl
  none-outside eight (inr g) =
      let back : n ≡ suc (n - 1) = omega arith in
      ap (by_number 0 polls) back ∙ get_or-eq_default polls 0 {n = n - 1} (omega arith)

  pub after-switch : length polls ≡ 8 → (on : Bool) → interval_of polls (switched_set set n on) ≡ shorter_of (if on then by_number 0 polls n else 0) (interval_of polls (switched_set set n false))
  after-switch eight on =
      interval-split polls (switched_set set n on) n ∙ ap₂ shorter_of (go (is_number n) refl) (ap (interval_of polls) (switched-twice set n on))
    where
      same : (a b : Bool) → ◌≡◌ {A = ℕ} (if a then 0 else 0) (if b then 0 else 0)
      same true true = refl
      same true false = refl
      same false true = refl
      same false false = refl

      go : (b : Bool) → is_number n ≡ b → (if has? (switched_set set n on) n then by_number 0 polls n else 0) ≡ (if on then by_number 0 polls n else 0)
      go true q = ap (λ (b : Bool). if b then by_number 0 polls n else 0) (own-switched set n on q)
      go false q = rw (none-outside eight (no_number n q)) (same (has? (switched_set set n on) n) on)

  requested-own : (s : ℕ) → has? set n ≡ true → by_number 0 (table_with 0 polls n s) n ≡ s
  unfolding table_with
  requested-own s h = go (is_number n) refl
    where
      go : (b : Bool) → is_number n ≡ b → by_number 0 (table_with 0 polls n s) n ≡ s
      go true q =
          let back : n ≡ suc (n - 1) = omega (arith, is-number n q) in
          ap (by_number 0 (table_with 0 polls n s)) back
          ∙ table_at 8 (λ i. if suc i == n then s else get_or polls i 0) (n - 1) 0 (omega (arith, is-number n q))
          ∙ ap (λ (b : Bool). if b then s else get_or polls (n - 1) 0) (eq-eqb (suc (n - 1)) n (sym back))
      go false q = clashing h (sym (has-none set n q))

  pub after-request : (s : ℕ) → interval_of (table_with 0 polls n s) set ≡ shorter_of (if has? set n then s else 0) (interval_of polls (switched_set set n false))
  after-request s =
      interval-split (table_with 0 polls n s) set n ∙ ap₂ shorter_of (go (has? set n) refl) (unset-request polls (switched_set set n false) n s (left_out set n))
    where
      go : (b : Bool) → has? set n ≡ b → (if b then by_number 0 (table_with 0 polls n s) n else 0) ≡ (if b then s else 0)
      go true h = requested-own s h
      go false h = refl

-- what is due, by what counts of the applet before and after
module _ (session interval off : Bool) (polls : List ℕ) (set n : ℕ) where
  abbrev least : ℕ
  least = interval_of polls (switched_set set n false)

  pub due-by-parts
      : (before after : ℕ) {r : Polling} {rest others was is : ℕ}
      → r ≡ polling_after session interval off was is
      → rest ≡ switched_set set n false
      → others ≡ interval_of polls rest
      → was ≡ shorter_of before others
      → is ≡ shorter_of after others
      → r ≡ polling_after session interval off (shorter_of before least) (shorter_of after least)
  due-by-parts before after e i o w a = e ∙ rw (w, a, o, i) refl

  module _ {own before : ℕ} {counts : Bool} (own_is : own ≡ by_number 0 polls n) (counts-is : counts ≡ has? set n) (before-is : before ≡ (if counts then own else 0)) where
    before-whole : shorter_of before least ≡ interval_of polls set
    before-whole = ap (λ (k : ℕ). shorter_of k least) (before-is ∙ rw (counts-is, own_is) refl) ∙ sym (interval-split polls set n)

    pub due-by-switch
        : length polls ≡ 8 → (on : Bool) {r : Polling} {after : ℕ}
        → after ≡ (if on then own else 0)
        → r ≡ polling_after session interval off (shorter_of before least) (shorter_of after least)
        → r ≡ polling_after session interval off (interval_of polls set) (interval_of polls (switched_set set n on))
    due-by-switch eight on a e =
        e ∙ ap₂ (polling_after session interval off) before-whole (ap (λ (k : ℕ). shorter_of k least) (a ∙ rw own_is refl) ∙ sym (after-switch polls set n eight on))

    pub due-by-request
        : (s : ℕ) {r : Polling} {after : ℕ}
        → after ≡ (if counts then s else 0)
        → r ≡ polling_after session interval off (shorter_of before least) (shorter_of after least)
        → r ≡ polling_after session interval off (interval_of polls set) (interval_of (table_with 0 polls n s) set)
    due-by-request s a e =
        e ∙ ap₂ (polling_after session interval off) before-whole (ap (λ (k : ℕ). shorter_of k least) (a ∙ rw counts-is refl) ∙ sym (after-request polls set n s))
