-- A set of the numbers 1 to 8 as a byte: its digits, lowest first, say of each number whether it is in the set.
use Rattle.std.specs.Prelude.{ℕ, zero, suc, ◌+◌, ◌*◌, ◌/◌, ◌%◌, Bool, false, not, ◌&&◌, List, [], ◌∷◌, map, get_or}
use Rattle.lists.specs.Tests.{◌≤?◌}
use Rattle.std.specs.Prelude.{if◌then◌else◌, ◌==◌}
use Rattle.lists.specs.Lists.{some?}

unfoldable pub numbers : List ℕ
numbers = 1 ∷ 2 ∷ 3 ∷ 4 ∷ 5 ∷ 6 ∷ 7 ∷ 8 ∷ []

unfoldable pub is_number : ℕ → Bool
is_number n = 1 ≤? n && n ≤? 8

-- the first k digits of a number, lowest first
unfoldable pub digits : ℕ → ℕ → List Bool
digits zero s = []
digits (suc k) s = (s % 2 == 1) ∷ digits k (s / 2)

-- the number with these digits
unfoldable pub valued : List Bool → ℕ
valued [] = 0
valued (b ∷ l) = (if b then 1 else 0) + valued l * 2

-- the number is in the set; none outside 1 to 8 is
unfoldable pub has? : (set number : ℕ) → Bool
has? s n = get_or (false ∷ digits 8 s) n false

-- the set of those that pass
unfoldable pub set_of : (ℕ → Bool) → ℕ
set_of p = valued (map p numbers)

unfoldable pub single : ℕ → ℕ
single n = set_of (λ k. k == n)

-- those in both
abbrev pub set_both : (a b : ℕ) → ℕ
set_both a b = set_of (λ k. has? a k && has? b k)

-- the sets have a number in common
abbrev pub meets : (a b : ℕ) → Bool
meets a b = some? (λ k. has? a k && has? b k) numbers

-- those of the first that are not in the second
abbrev pub set_without : (a b : ℕ) → ℕ
set_without a b = set_of (λ k. has? a k && not (has? b k))

-- the set with the number, or without it
abbrev pub switched_set : (set number : ℕ) → Bool → ℕ
switched_set s n on = set_of (λ k. if k == n then on else has? s k)
