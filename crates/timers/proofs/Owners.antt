-- The owners of a bank: what the two timer calls give, case by case, and what their callers may use of it.
-- Assumes nothing.
use mathlib.Core.Path.{◌≡◌, refl, sym, ap, ◌∙◌}
use mathlib.Core.Bool.{Bool, true, false, not}
use mathlib.Core.List.{List, [], ◌∷◌, map}
use Prim.Native.Nat.{ℕ, zero, suc, ◌+◌, ◌-◌, ◌^◌, ◌≤◌, ◌<◌, min}
use native.Mathlib.Numerals.{add-one}
use native.Mathlib.Omega.{arith}
use borrow.Author.Tests.{leb-true, leb-false, eqb-true, eq-eqb, ne_eqb}
use lib.Dec.{leb}
use lib.ListN.{length, get_or, set, length-map, get_or-eq_default}
use lib.Count.{ones, count_trailing_zeros}
use Rattle.std.specs.Prelude.{◌==◌}
use Rattle.lists.specs.Tests.{◌<?◌}
use Rattle.lists.specs.Lists.{count, leading}
use Rattle.lists.proofs.Decided.{both}
use Rattle.rules.specs.declared.Bank.{Bank}
use Rattle.rules.specs.Timers.{is_owner, at_limit, none_free, lowest_free, owner_of, not_its_timer, with_allocated, with_released}
use Rattle.rules.specs.declared.refused.Refused.{Refused}
use Rattle.rules.specs.Numbers.{number_of}
use Rattle.rules.specs.Refusals.{Line, line, first_holding}
use Rattle.rules.specs.Beside.{bank_allocate, allocate_by, bank_release, release_by}
use Rattle.rules.specs.Calls.{accepted, refused_with, numbered}
use Rattle.rules.specs.Held.{stored_answer}
use Rattle.rules.proofs.Numbers.{number-above}
use Rattle.timers.specs.Sets.{is_between, set_of}
use Rattle.timers.specs.Promises.{Allocates, Releases}
use Rattle.applets.specs.ByNumber.{by_number}
use Rattle.timers.proofs.Sets.{ones-count, count-alike, between-one, trailing-leading, leading_le}

-- an owner is a number of 1 to 8
pub owner-between : (n : ℕ) (b : Bool) → is_between 1 8 n ≡ b → is_owner n ≡ b
unfolding is_owner is_between
owner-between n b e = e

pub owner-range : (n : ℕ) → is_owner n ≡ true → (1 ≤ n) × (n ≤ 8)
unfolding is_owner
owner-range n e = let h = both (leb 1 n) (leb n 8) e in (leb-true 1 n h.0, leb-true n 8 h.1)

pub owners-length : (l : List ℕ) → length (map (λ (v : ℕ). v) l) ≡ 8 → length l ≡ 8
owners-length l e = sym (length-map l (λ (v : ℕ). v)) ∙ e

-- whose a timer is
pub owner-inside : (os : List ℕ) (t : ℕ) → 1 ≤ t → get_or os (t - 1) 0 ≡ owner_of os t
unfolding owner_of
owner-inside os t h = sym (simp (ne_eqb t 0 (λ e. omega arith)))

pub owner-outside : (os : List ℕ) (t : ℕ) → length os < t → 0 ≡ owner_of os t
owner-outside os t h = sym (get_or-eq_default os 0 (omega arith)) ∙ owner-inside os t (omega arith)

pub owner-zero : (os : List ℕ) (t : ℕ) → t < 1 → 0 ≡ owner_of os t
unfolding owner_of
owner-zero os t h = sym (simp (eq-eqb t 0 (omega arith)))

-- a bank of eight has none free where its lowest free timer is past the last
pub none_free_lem : (os : List ℕ) (t : ℕ) → length os ≡ 8 → t ≡ lowest_free os → none_free os ≡ (8 <? t)
unfolding none_free
none_free_lem os t l e = rw (l, e) refl

-- The owners by their sets of bits: the ones of the applet's own set are counted, and the low ones of the owned set.
module _ (os : List ℕ) (s : ℕ) where
  pub held-ones : (n limit most : ℕ) → most ≡ min limit 8 → s ≡ set_of (is_between n n) os → leb most (ones s) ≡ at_limit os n limit
  unfolding at_limit
  held-ones n limit most m e =
      let held : ones s ≡ count (λ o. o == n) os = ap ones e ∙ ones-count (is_between n n) os ∙ count-alike (is_between n n) (λ o. o == n) (between-one n) os in
      rw (m, held) refl

  free-leading : length os ≡ 8 → s ≡ set_of (is_between 1 8) os → count_trailing_zeros 32 (2 ^ 32 - 1 - s) ≡ leading is_owner os
  unfolding is_owner is_between
  free-leading l e = ap (λ (k : ℕ). count_trailing_zeros 32 (2 ^ 32 - 1 - k)) e ∙ trailing-leading (is_between 1 8) 32 os (omega arith)

  pub free-ones : length os ≡ 8 → s ≡ set_of (is_between 1 8) os → count_trailing_zeros 32 (2 ^ 32 - 1 - s) + 1 ≡ lowest_free os
  unfolding lowest_free
  free-ones l e = ap (λ (k : ℕ). k + 1) (free-leading l e) ∙ add-one (leading is_owner os)

pub lowest-few : (os : List ℕ) → length os ≡ 8 → lowest_free os ≤ 9
unfolding lowest_free
lowest-few os l = omega (arith, leading_le is_owner os)

pub lowest-some : (os : List ℕ) → 1 ≤ lowest_free os
unfolding lowest_free
lowest-some os = omega arith

-- a timer that an applet owns is one of the bank's
pub its-timer : (os : List ℕ) (n t : ℕ) → is_owner n ≡ true → owner_of os t ≡ n → (1 ≤ t) × (t ≤ length os)
its-timer os n t h e = (low (leb 1 t) refl, high (leb t (length os)) refl)
  where
    low : (b : Bool) → leb 1 t ≡ b → 1 ≤ t
    low true q = leb-true 1 t q
    low false q = let z = owner-zero os t (leb-false 1 t q) in absurd (omega (arith, owner-range n h))

    high : (b : Bool) → leb t (length os) ≡ b → t ≤ length os
    high true q = leb-true t (length os) q
    high false q = let z = owner-outside os t (leb-false t (length os) q) in absurd (omega (arith, owner-range n h))

-- Allocation, by the number of its refusal.
allocate-other : (k : ℕ) → (k ≡ 0 → ⊥) → (owners : List ℕ) (n : ℕ) → allocate_by k owners n ≡ record { owners = owners; answer = refused_with k }
unfolding allocate_by
allocate-other zero z owners n = absurd (z refl)
allocate-other (suc k) z owners n = refl

module _ (b : Bank) (n limit : ℕ) where
  abbrev allocate_lines : List Line
  allocate_lines = line 2 (not (is_owner n)) ∷ line 13 (at_limit b.owner n limit) ∷ line 14 (none_free b.owner) ∷ []

  pub allocate-refused : (e : Refused) → number_of e ≡ first_holding allocate_lines → Allocates b n limit (stored_answer (refused_with (number_of e))) b
  unfolding bank_allocate
  allocate-refused e is =
      let o = ap (λ (k : ℕ). allocate_by k b.owner n) (sym is) ∙ allocate-other (number_of e) (number-above e) b.owner n in
      rw o (refl, refl)

  pub allocate-given : (t : ℕ) → 0 ≡ first_holding allocate_lines → t ≡ lowest_free b.owner → Allocates b n limit (stored_answer (numbered t)) (record { owner = set b.owner (t - 1) n })
  unfolding bank_allocate allocate_by with_allocated
  allocate-given t is e = rw (sym is, sym e) (refl, refl)

-- Release, by the number of its refusal.
release-other : (k : ℕ) → (k ≡ 0 → ⊥) → (owners : List ℕ) (t : ℕ) → release_by k owners t ≡ record { owners = owners; answer = refused_with k }
unfolding release_by
release-other zero z owners t = absurd (z refl)
release-other (suc k) z owners t = refl

module _ (b : Bank) (n t : ℕ) where
  abbrev release_lines : List Line
  release_lines = line 2 (not (is_owner n)) ∷ line 15 (not_its_timer b.owner n t) ∷ []

  pub release-refused : (e : Refused) → number_of e ≡ first_holding release_lines → Releases b n t (stored_answer (refused_with (number_of e))) b
  unfolding bank_release
  release-refused e is limit =
      let o = ap (λ (k : ℕ). release_by k b.owner t) (sym is) ∙ release-other (number_of e) (number-above e) b.owner t in
      rw o (refl, refl)

  pub release-accepted : 0 ≡ first_holding release_lines → Releases b n t (stored_answer accepted) (record { owner = set b.owner (t - 1) 0 })
  unfolding bank_release release_by with_released
  release-accepted is limit = rw (sym is) (refl, refl)

  -- its timer is one of the bank's
  pub release-within : 0 ≡ first_holding release_lines → (1 ≤ t) × (t ≤ length b.owner)
  unfolding first_holding not_its_timer
  release-within is = go (is_owner n) (owner_of b.owner t == n) refl refl is
    where
      go : (x y : Bool) → is_owner n ≡ x → (owner_of b.owner t == n) ≡ y → 0 ≡ first_holding (line 2 (not x) ∷ line 15 (not y) ∷ []) → (1 ≤ t) × (t ≤ length b.owner)
      go true true d e h = its-timer b.owner n t d (eqb-true _ _ e)
      go true false d e h = absurd (omega arith)
      go false y d e h = absurd (omega arith)

-- the owner of a timer is what the table by number has
pub owner-numbered : (os : List ℕ) (t : ℕ) → by_number 0 os t ≡ owner_of os t
unfolding owner_of
owner-numbered os zero = refl
owner-numbered os (suc t) =
    let own : suc t - 1 ≡ t = omega arith in
    rw (ne_eqb (suc t) 0 (λ z. omega arith), own) refl
