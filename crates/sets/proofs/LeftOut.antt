-- What is left out of a set: one number, and what another set has.
-- Assumes nothing.
use Prim.Native.Nat.{ℕ, ◌≤◌}
use mathlib.Core.Path.{◌≡◌, refl, sym, ap, ap₂, ◌∙◌}
use mathlib.Core.Bool.{Bool, true, false, not, ◌&&◌}
use Rattle.std.specs.Prelude.{if◌then◌else◌, ◌==◌}
use Rattle.lists.proofs.Decided.{turned}
use Rattle.sets.specs.Sets.{has?, single, meets, set_without, switched_set}
use Rattle.sets.proofs.Bits.{has-set, set-alike, some-each}

pub single-has : (n k : ℕ) → 1 ≤ k → k ≤ 8 → has? (single n) k ≡ (n == k)
unfolding single
single-has n k a b = has-set (λ j. j == n) k a b ∙ turned k n

-- a set with a number turned off is the set without it
pub turned-without : (s n : ℕ) → switched_set s n false ≡ set_without s (single n)
turned-without s n = set-alike _ _ (λ k a b. go (has? s k) (k == n) ∙ ap (λ (o : Bool). has? s k && not o) (turned k n ∙ sym (single-has n k a b)))
  where
    go : (x o : Bool) → (if o then false else x) ≡ (x && not o)
    go true true = refl
    go true false = refl
    go false true = refl
    go false false = refl

-- what is left out of one set is of no account in the other
pub meets-without : (a b s : ℕ) → meets (set_without a s) (set_without b s) ≡ meets a (set_without b s)
meets-without a b s = some-each _ _ one
  where
    go : (x y o : Bool) → ((x && not o) && (y && not o)) ≡ (x && (y && not o))
    go true true true = refl
    go true false true = refl
    go true y false = refl
    go false y o = refl

    one : (k : ℕ) → 1 ≤ k → k ≤ 8 → (has? (set_without a s) k && has? (set_without b s) k) ≡ (has? a k && has? (set_without b s) k)
    one k h i =
        let left = has-set (λ j. has? b j && not (has? s j)) k h i in
        ap₂ (λ (x y : Bool). x && y) (has-set (λ j. has? a j && not (has? s j)) k h i) left
        ∙ go (has? a k) (has? b k) (has? s k)
        ∙ ap (λ (y : Bool). has? a k && y) (sym left)
