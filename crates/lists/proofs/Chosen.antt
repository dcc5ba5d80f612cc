-- Numbers chosen from a list: which are among them, and that a choice is settled by that.
-- Assumes nothing.
use Prim.Native.Nat.{ℕ}
use mathlib.Core.Path.{◌≡◌, refl, sym, ap, ◌∙◌}
use mathlib.Core.Bool.{Bool, true, false, ◌&&◌, ◌||◌}
use mathlib.Core.List.{List, [], ◌∷◌}
use borrow.Author.Tests.{eqb-true}
use Rattle.std.specs.Prelude.{if◌then◌else◌, ◌==◌}
use Rattle.lists.specs.Lists.{Every, some?, keep, in?}
use Rattle.lists.proofs.Decided.{same}
use Rattle.lists.proofs.Truth.{and-false}
use Rattle.lists.proofs.Every.{every-so}
use Rattle.lists.proofs.Alike.{keep-each}
use Rattle.lists.proofs.Changes.{keep-keep}

pub in-keep : (p : ℕ → Bool) (n : ℕ) (l : List ℕ) → in? n (keep p l) ≡ (in? n l && p n)
unfolding in? some? keep
in-keep p n [] = refl
in-keep p n (x ∷ l) = go (p x) (x == n) refl refl (in-keep p n l)
  where
    at : {b : Bool} → p x ≡ b → (x == n) ≡ true → p n ≡ b
    at e z = sym (ap p (eqb-true x n z)) ∙ e

    go : (a b : Bool) → p x ≡ a → (x == n) ≡ b → in? n (keep p l) ≡ (in? n l && p n)
        → in? n (if a then x ∷ keep p l else keep p l) ≡ ((b || in? n l) && p n)
    go true true e z i = ap (λ (b : Bool). b || in? n (keep p l)) z ∙ sym (at e z)
    go true false e z i = ap (λ (b : Bool). b || in? n (keep p l)) z ∙ i
    go false true e z i = i ∙ rw (at e z) (and-false (in? n l))
    go false false e z i = i

pub each_in : (l : List ℕ) → Every (λ n. in? n l ≡ true) l
unfolding Every in? some?
each_in [] = tt
each_in (x ∷ l) = (ap (λ (b : Bool). b || in? x l) (same x), every-so (λ n. in? n l ≡ true) _ (λ n e. later (x == n) e) l (each_in l))
  where
    later : (a : Bool) {b : Bool} → b ≡ true → (a || b) ≡ true
    later true e = refl
    later false e = e

-- what is among those chosen chooses them
pub chosen : (p : ℕ → Bool) (l : List ℕ) → keep p l ≡ keep (λ n. in? n (keep p l)) l
chosen p l = keep-each p _ l (every-so (λ n. in? n l ≡ true) _ (λ n e. sym (in-keep p n l ∙ ap (λ (b : Bool). b && p n) e)) l (each_in l))

pub chosen-again : (p : ℕ → Bool) {w : List ℕ} (l : List ℕ) → w ≡ keep (λ n. in? n w) l → keep p w ≡ keep (λ n. in? n (keep p w)) l
chosen-again p {w} l e =
    let both : keep p w ≡ keep (λ n. in? n w && p n) l = ap (keep p) e ∙ keep-keep p (λ n. in? n w) _ (λ n. refl) l in
    rw both (chosen (λ n. in? n w && p n) l)
