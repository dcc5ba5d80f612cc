-- A table by number with another value for one of them, and after a change of its applet; and the pair that the next entry takes.
-- Assumes nothing.
use Prim.Native.Nat.{ℕ, suc, ◌-◌, ◌<◌}
use native.Mathlib.Omega.{arith}
use mathlib.Core.Path.{◌≡◌, refl, sym, ap, ap₂, ◌∙◌}
use mathlib.Core.Bool.{Bool, true, false}
use mathlib.Core.List.{List}
use mathlib.Core.Logic.{◌⊎◌, inl, inr}
use lib.ListN.{length, get_or, set}
use borrow.Author.Tests.{eqb-true, eqb-false, eq-eqb, ne_eqb}
use Rattle.std.specs.Prelude.{if◌then◌else◌, ◌==◌}
use Rattle.lists.specs.Lists.{some?, change}
use Rattle.lists.specs.Tables.{table}
use Rattle.lists.proofs.Decided.{turned}
use Rattle.lists.proofs.Padded.{get-padded}
use Rattle.lists.proofs.Places.{from_one, past-last}
use Rattle.lists.proofs.Tables.{table_at, table-alike, table-set, table-list}
use Rattle.sets.specs.Sets.{is_number}
use Rattle.sets.proofs.Bits.{is-number, no_number}
use Rattle.rules.specs.Holds.{Applet, with_one_more, with_poll}
use Rattle.rules.specs.Applets.{has_number, entries}
use Rattle.rules.specs.Rows.{no_pair, next_pair}
use Rattle.applets.specs.ByNumber.{at, bare, by_number, grant_of, made_table, poll_table, table_with}
use Rattle.applets.proofs.Numbers.{at-change}

-- a table of eight by its numbers
module _ {A : Type 0} (d : A) (l : List A) (eight : length l ≡ 8) (n : ℕ) where
  pub number-held : (i : ℕ) (e : A) → i ≡ n - 1 → is_number n ≡ true → get_or l i e ≡ by_number d l n
  number-held i e at-it h =
      let k = is-number n h in
      ap (λ (j : ℕ). get_or l j e) at-it ∙ from_one d l n e (λ z. omega (arith, k)) (omega (arith, k, eight))

  pub number-none : is_number n ≡ false → d ≡ by_number d l n
  number-none h = go (no_number n h)
    where
      go : (n ≡ 0) ⊎ (8 < n) → d ≡ by_number d l n
      go (inl z) = rw z refl
      go (inr g) = past-last d l n (λ z. omega arith) (omega (arith, eight))

-- an array of eight by its places, with another value for a number
module _ {A : Type 0} (d : A) (l : List A) (eight : length l ≡ 8) (n : ℕ) (k : A) where
  by-places : l ≡ table 8 (λ i. get_or l i d)
  by-places = sym (table-list l d) ∙ ap (λ (m : ℕ). table m (λ i. get_or l i d)) eight

  pub with-set : (j : ℕ) → j ≡ n - 1 → is_number n ≡ true → set l j k ≡ table_with d l n k
  unfolding table_with
  with-set j at-it h =
      ap (λ (j : ℕ). set l j k) at-it
      ∙ ap (λ (m : List A). set m (n - 1) k) by-places
      ∙ table-set 8 (λ i. get_or l i d) (n - 1) k
      ∙ table-alike 8 _ _ (λ i h. ap (λ (b : Bool). if b then k else get_or l i d) (place i))
    where
      place : (i : ℕ) → (i == n - 1) ≡ (suc i == n)
      place i = go (i == n - 1) refl
        where
          go : (b : Bool) → (i == n - 1) ≡ b → b ≡ (suc i == n)
          go true e = let q = eqb-true i (n - 1) e in sym (eq-eqb (suc i) n (omega (arith, q, is-number n h)))
          go false e = sym (ne_eqb (suc i) n (λ z. eqb-false i (n - 1) e (omega arith)))

  pub with-still : is_number n ≡ false → l ≡ table_with d l n k
  unfolding table_with
  with-still h = by-places ∙ table-alike 8 _ _ (λ i f. ap (λ (b : Bool). if b then k else get_or l i d) (sym (ne_eqb (suc i) n (past i f (no_number n h)))))
    where
      past : (i : ℕ) → i < 8 → (n ≡ 0) ⊎ (8 < n) → suc i ≡ n → ⊥
      past i f (inl z) e = omega arith
      past i f (inr g) e = omega arith

-- where what is by number becomes another value for one number
pub with-one : (f g : ℕ → ℕ) (n v : ℕ) → ((k : ℕ) → g k ≡ (if n == k then v else f k)) → table_with 0 (table 8 (λ i. f (suc i))) n v ≡ table 8 (λ i. g (suc i))
unfolding table_with
with-one f g n v e = table-alike 8 _ _ each
  where
    each : (i : ℕ) → i < 8 → (if suc i == n then v else get_or (table 8 (λ j. f (suc j))) i 0) ≡ g (suc i)
    each i h = ap₂ (λ (b : Bool) (k : ℕ). if b then v else k) (turned (suc i) n) (table_at 8 (λ j. f (suc j)) i 0 h) ∙ sym (e (suc i))

-- ANY FIELD of an applet that is there, after a change of the applet
module _ (f : Applet → ℕ) (g : Applet → Applet) (same : (x : Applet) → bare (g x) ≡ bare x) where
  with-changed
      : (l : List Applet) (n : ℕ) → some? (has_number n) l ≡ true → table_with 0 (table 8 (λ i. f (at l (suc i)))) n (f (g (at l n))) ≡ table 8 (λ i. f (at (change (has_number n) g l) (suc i)))
  with-changed l n there = with-one (λ k. f (at l k)) _ n (f (g (at l n))) (λ k. ap f (at-change l n g there same k) ∙ go k (n == k) refl)
    where
      go : (k : ℕ) (b : Bool) → (n == k) ≡ b → f (if b then g (at l k) else at l k) ≡ (if b then f (g (at l n)) else f (at l k))
      go k true e = ap (λ (j : ℕ). f (g (at l j))) (sym (eqb-true n k e))
      go k false e = refl

module _ (l : List Applet) (n : ℕ) (there : some? (has_number n) l ≡ true) where
  pub made_more : table_with 0 (made_table l) n (suc (at l n).made) ≡ made_table (change (has_number n) with_one_more l)
  unfolding made_table
  made_more = with-changed (λ (x : Applet). x.made) with_one_more (λ x. refl) l n there

  pub poll-changed : (s : ℕ) → table_with 0 (poll_table l) n s ≡ poll_table (change (has_number n) (with_poll s) l)
  unfolding poll_table
  poll-changed s = with-changed (λ (x : Applet). x.poll) (with_poll s) (λ x. refl) l n there

-- the pair of the next entry, by what its applet was installed with
pub pair-next : (x : Applet) → x.made < entries x → get_or (grant_of x).pairs x.made no_pair ≡ next_pair x
unfolding grant_of next_pair
pair-next x h = get-padded 4 no_pair x.limits.pairs x.made no_pair h
