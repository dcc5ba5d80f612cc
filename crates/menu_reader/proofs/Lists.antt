-- Lists that grow at the end: each of them passes, no number stands twice; and the part of a list that is there.
-- Assumes nothing.
use Prim.Native.Nat.{ℕ, ◌+◌, ◌-◌, ◌≤◌}
use native.Mathlib.Omega.{arith}
use mathlib.Core.Path.{◌≡◌, refl, sym, ap, ◌∙◌}
use mathlib.Core.Bool.{Bool, true, false, ◌&&◌, ◌||◌}
use mathlib.Core.List.{List, [], ◌∷◌, ◌++◌}
use lib.ListN.{take, length-take}
use lib.Seq.{take_all}
use Rattle.std.specs.Prelude.{◌==◌}
use Rattle.lists.specs.Lists.{every?, some?, in?, repeats?}
use Rattle.lists.proofs.Truth.{and_assoc, or-false, or-true}
use Rattle.lists.proofs.Decided.{neither, clashing, turned}
use Rattle.lists.proofs.Firsts.{some-append}

-- a part from a to a + n is held whole where it fits
pub part_held : (a n most : ℕ) (l : List ℕ) → n ≤ most → take most (take (a + n - a) l) ≡ take n l
part_held a n most l h =
    let e : a + n - a ≡ n = omega arith in
    take_all most (take (a + n - a) l) (omega (arith, length-take (a + n - a) l)) ∙ ap (λ (k : ℕ). take k l) e

-- each of two lists passes
pub every_two : {A : Type 0} (p : A → Bool) (l k : List A) → every? p (l ++ k) ≡ (every? p l && every? p k)
unfolding every?
every_two p [] k = refl
every_two p (x ∷ l) k = rw (every_two p l k) (sym (and_assoc (p x) (every? p l) (every? p k)))

-- a number that is not there, at the end
pub fresh-more : (l : List ℕ) (n : ℕ) → repeats? l [] ≡ false → in? n l ≡ false → repeats? (l ++ (n ∷ [])) [] ≡ false
unfolding repeats? in? some?
fresh-more [] n e f = refl
fresh-more (m ∷ l) n e f =
    let h = neither (in? m l || false) (repeats? l []) e in
    let a : in? m l ≡ false = sym (or-false (in? m l)) ∙ h.0 in
    let g = neither (m == n) (in? n l) f in
    let b : (n == m) ≡ false = turned n m ∙ g.0 in
    let r : repeats? (l ++ (n ∷ [])) [] ≡ false = fresh-more l n h.1 g.1 in
    let s : some? (λ k. k == m) (l ++ (n ∷ [])) ≡ false = some-append (λ k. k == m) l (n ∷ []) ∙ rw (a, b) refl in
    rw (s, r) refl

-- a number that is there, anywhere behind it
pub twice : (l : List ℕ) (n : ℕ) (k : List ℕ) → in? n l ≡ true → repeats? (l ++ (n ∷ k)) [] ≡ true
unfolding repeats? in? some?
twice [] n k e = absurd (clashing e refl)
twice (m ∷ l) n k e = go (m == n) refl (twice l n k)
  where
    go : (b : Bool) → (m == n) ≡ b → (in? n l ≡ true → repeats? (l ++ (n ∷ k)) [] ≡ true) → ((some? (λ j. j == m) (l ++ (n ∷ k)) || false) || repeats? (l ++ (n ∷ k)) []) ≡ true
    go true q r =
        let b : (n == m) ≡ true = turned n m ∙ q in
        let s : some? (λ j. j == m) (l ++ (n ∷ k)) ≡ true = some-append (λ j. j == m) l (n ∷ k) ∙ rw b (or-true (in? m l)) in
        rw s refl
    go false q r =
        let t : in? n l ≡ true = sym (ap (λ (b : Bool). b || in? n l) q) ∙ e in
        rw (r t) (or-true (some? (λ j. j == m) (l ++ (n ∷ k)) || false))
