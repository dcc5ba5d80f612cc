-- What a delete leaves of the roll: those who stay keep their order, by age and of call.
-- Assumes nothing.
use Prim.Native.Nat.{ℕ, suc, ◌-◌, ◌≤◌, ◌<◌}
use native.Mathlib.Omega.{arith}
use mathlib.Core.Path.{◌≡◌, refl, sym, ap, ap₂, ◌∙◌}
use mathlib.Core.Bool.{Bool, true, false, not, ◌&&◌}
use mathlib.Core.List.{List, map}
use lib.ListN.{length, take, get_or, set}
use borrow.Author.Tests.{eq-eqb, ne_eqb, eqb-true, eqb-false}
use Rattle.std.specs.Prelude.{if◌then◌else◌, ◌==◌}
use Rattle.lists.specs.Lists.{Every, some?, keep, padded}
use Rattle.lists.specs.Tables.{table}
use Rattle.lists.proofs.Alike.{keep-each}
use Rattle.lists.proofs.Decided.{turned}
use Rattle.lists.proofs.Every.{every-so, every-both}
use Rattle.lists.proofs.Keyed.{some-less, first-less}
use Rattle.lists.proofs.Mapped.{map-length, map-keep}
use Rattle.lists.proofs.Owned.{every-there}
use Rattle.lists.proofs.Padded.{take-padded}
use Rattle.lists.proofs.Places.{get_or-blank}
use Rattle.lists.proofs.Tables.{table-alike, table-set, map-table}
use Rattle.lists.proofs.Truth.{and-true, and-false}
use Rattle.sets.specs.Sets.{has?, set_of, single, set_without, switched_set}
use Rattle.sets.proofs.Bits.{has-set, set-alike}
use Rattle.sets.proofs.LeftOut.{single-has, turned-without}
use Rattle.rules.specs.declared.Grant.{Grant}
use Rattle.rules.specs.declared.Roll.{Roll}
use Rattle.rules.specs.Holds.{Applet}
use Rattle.rules.specs.Applets.{has_number, nobody, in_order}
use Rattle.rules.proofs.Listed.{every-in_order}
use Rattle.applets.specs.declared.Lineup.{Lineup}
use Rattle.applets.specs.ByNumber.{at, grant_of, roll_of, selectable_set, registered_set, made_table, poll_table, table_with}
use Rattle.applets.specs.Rolls.{lineup_of, roll_without}
use Rattle.applets.proofs.Made.{with-one}
use Rattle.applets.proofs.Order.{keep-order, length-order}

-- the roll by its parts
pub roll-parts
    : (s : Roll) (n : ℕ) {k i own present : ℕ} {age order : Lineup} {none : Grant}
    → k ≡ s.count
    → i ≡ n - 1
    → own ≡ single n
    → present ≡ set_without s.present own
    → order ≡ lineup_of (keep (has? present) (take k s.order))
    → age ≡ lineup_of (keep (has? present) (take k s.age))
    → none ≡ grant_of nobody
    → ◌≡◌ {A = Roll} (record { present = present; count = age.count; age = age.at; order = order.at; grants = set s.grants i none }) (roll_without s n)
unfolding roll_without lineup_of
roll-parts s n k i o p q r z = rw (r, q, p, o, z, i, k) refl

abbrev numbers_of : List Applet → List ℕ
numbers_of l = map (λ (x : Applet). x.number) l

-- the applets without one
module _ (l : List Applet) (n : ℕ) where
  abbrev less : List Applet
  less = keep (λ (x : Applet). not (has_number n x)) l

  at_less : (k : ℕ) → at less k ≡ (if n == k then nobody else at l k)
  at_less k = first-less (λ (x : Applet). x.number) nobody k n l

  some-is-less : (k : ℕ) → some? (has_number k) less ≡ (if n == k then false else some? (has_number k) l)
  some-is-less k = some-less (λ (x : Applet). x.number) nobody k n l

  -- a set by a test of the applets, which nobody passes
  module _ (f : Applet → Bool) (none : f nobody ≡ false) where
    pub set-less : set_without (set_of (λ k. f (at l k))) (single n) ≡ set_of (λ k. f (at less k))
    set-less = set-alike _ _ each
      where
        each : (k : ℕ) → 1 ≤ k → k ≤ 8 → (has? (set_of (λ k. f (at l k))) k && not (has? (single n) k)) ≡ f (at less k)
        each k a b =
            ap₂ (λ (x y : Bool). x && not y) (has-set (λ k. f (at l k)) k a b) (single-has n k a b)
            ∙ go (n == k)
            ∙ ap f (sym (at_less k))
          where
            go : (b : Bool) → (f (at l k) && not b) ≡ f (if b then nobody else at l k)
            go true = and-false (f (at l k)) ∙ sym none
            go false = and-true (f (at l k))

  -- a table by number, which has nobody's in the place of one that is not there
  module _ {A : Type 0} (f : Applet → A) (low : 1 ≤ n) where
    pub table-less : set (table 8 (λ i. f (at l (suc i)))) (n - 1) (f nobody) ≡ table 8 (λ i. f (at less (suc i)))
    table-less = table-set 8 (λ i. f (at l (suc i))) (n - 1) (f nobody) ∙ table-alike 8 _ _ each
      where
        same : (i : ℕ) (b : Bool) → (n == suc i) ≡ b → (i == n - 1) ≡ b
        same i true e = let q : n ≡ suc i = eqb-true n (suc i) e in eq-eqb i (n - 1) (omega arith)
        same i false e = ne_eqb i (n - 1) (λ z. eqb-false n (suc i) e (omega arith))

        each : (i : ℕ) → i < 8 → (if i == n - 1 then f nobody else f (at l (suc i))) ≡ f (at less (suc i))
        each i h = ap (λ (b : Bool). if b then f nobody else f (at l (suc i))) (same i (n == suc i) refl) ∙ go (n == suc i) ∙ ap f (sym (at_less (suc i)))
          where
            go : (b : Bool) → (if b then f nobody else f (at l (suc i))) ≡ f (if b then nobody else at l (suc i))
            go true = refl
            go false = refl

  -- what calls change
  pub registered-less : (e : ℕ) → set_without (registered_set l e) (single n) ≡ registered_set less e
  unfolding registered_set
  registered-less e = set-less (λ (x : Applet). get_or x.events e false) (get_or-blank false 20 e)

  pub all-less : map (λ (s : ℕ). set_without s (single n)) (table 20 (registered_set l)) ≡ table 20 (registered_set less)
  all-less = map-table (λ (s : ℕ). set_without s (single n)) 20 (registered_set l) ∙ table-alike 20 _ _ (λ e h. registered-less e)

  pub selectable-less : switched_set (selectable_set l) n false ≡ selectable_set less
  unfolding selectable_set
  selectable-less = turned-without (set_of (λ k. (at l k).selectable)) n ∙ set-less (λ (x : Applet). x.selectable) refl

  with-less : (f : Applet → ℕ) → table_with 0 (table 8 (λ i. f (at l (suc i)))) n (f nobody) ≡ table 8 (λ i. f (at less (suc i)))
  with-less f = with-one (λ k. f (at l k)) _ n (f nobody) (λ k. ap f (at_less k) ∙ go (n == k) (at l k))
    where
      go : (b : Bool) (x : Applet) → f (if b then nobody else x) ≡ (if b then f nobody else f x)
      go true x = refl
      go false x = refl

  pub made-less : table_with 0 (made_table l) n 0 ≡ made_table less
  unfolding made_table
  made-less = with-less (λ (x : Applet). x.made)

  pub poll-less : table_with 0 (poll_table l) n 0 ≡ poll_table less
  unfolding poll_table
  poll-less = with-less (λ (x : Applet). x.poll)

-- THE ROLL
module _ (l : List Applet) (n : ℕ) (low : 1 ≤ n) (in-range : Every (λ (x : Applet). (1 ≤ x.number) × (x.number ≤ 8)) l) where
  abbrev stay : Applet → Bool
  stay x = not (has_number n x)

  abbrev gone : ℕ
  gone = set_without (set_of (λ k. some? (has_number k) l)) (single n)

  gone-has : (k : ℕ) → 1 ≤ k → k ≤ 8 → has? gone k ≡ (some? (has_number k) l && not (n == k))
  gone-has k a b =
      has-set (λ k. has? (set_of (λ k. some? (has_number k) l)) k && not (has? (single n) k)) k a b
      ∙ ap₂ (λ (x y : Bool). x && not y) (has-set (λ k. some? (has_number k) l) k a b) (single-has n k a b)

  gone-is : gone ≡ set_of (λ k. some? (has_number k) (less l n))
  gone-is = set-alike _ _ each
    where
      each : (k : ℕ) → 1 ≤ k → k ≤ 8 → (has? (set_of (λ k. some? (has_number k) l)) k && not (has? (single n) k)) ≡ some? (has_number k) (less l n)
      each k a b =
          ap₂ (λ (x y : Bool). x && not y) (has-set (λ k. some? (has_number k) l) k a b) (single-has n k a b)
          ∙ go (n == k) (some? (has_number k) l) ∙ sym (some-is-less l n k)
        where
          go : (b s : Bool) → (s && not b) ≡ (if b then false else s)
          go true true = refl
          go true false = refl
          go false true = refl
          go false false = refl

  -- of the applets, those in the set are those that stay
  stays-are : Every (λ (x : Applet). has? gone x.number ≡ stay x) l
  stays-are = every-so _ _ one l (every-both _ _ l in-range (every-there (λ (x : Applet). x.number) l))
    where
      one : (x : Applet) → ((1 ≤ x.number) × (x.number ≤ 8)) × (some? (λ (y : Applet). y.number == x.number) l ≡ true) → has? gone x.number ≡ stay x
      one x (r, s) = gone-has x.number r.0 r.1 ∙ ap₂ (λ (a b : Bool). a && not b) s (turned n x.number)

  -- those that stay, in any order of the applets
  kept-numbers : (h : List Applet) → Every (λ (x : Applet). has? gone x.number ≡ stay x) h → keep (has? gone) (numbers_of h) ≡ numbers_of (keep stay h)
  kept-numbers h e = sym (ap numbers_of (sym (keep-each (λ (x : Applet). has? gone x.number) stay h e)) ∙ map-keep (λ (x : Applet). x.number) (has? gone) h)

  age-less : keep (has? gone) (take (length l) (padded 8 0 (numbers_of l))) ≡ numbers_of (less l n)
  age-less =
      ap (λ (k : ℕ). keep (has? gone) (take k (padded 8 0 (numbers_of l)))) (sym (map-length (λ (x : Applet). x.number) l))
      ∙ ap (keep (has? gone)) (take-padded 8 0 (numbers_of l))
      ∙ kept-numbers l stays-are

  order-less : keep (has? gone) (take (length l) (padded 8 0 (numbers_of (in_order l)))) ≡ numbers_of (in_order (less l n))
  order-less =
      ap (λ (k : ℕ). keep (has? gone) (take k (padded 8 0 (numbers_of (in_order l))))) (sym (map-length (λ (x : Applet). x.number) (in_order l) ∙ length-order l))
      ∙ ap (keep (has? gone)) (take-padded 8 0 (numbers_of (in_order l)))
      ∙ kept-numbers (in_order l) (every-in_order _ l stays-are)
      ∙ sym (ap numbers_of (keep-order stay l))

  pub roll-less : roll_without (roll_of l) n ≡ roll_of (less l n)
  unfolding roll_without roll_of
  roll-less = rw (age-less, order-less, table-less l n grant_of low, gone-is, map-length (λ (x : Applet). x.number) (less l n)) refl
