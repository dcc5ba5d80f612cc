-- Laws of writing into a lent buffer: one behind the other.
-- Assumes nothing.
use Prim.Native.Nat.{ℕ, zero, suc, ◌+◌, ◌-◌, ◌≤◌}
use native.Mathlib.Omega.{arith}
use mathlib.Core.Path.{◌≡◌, refl, sym, ap, ◌∙◌}
use mathlib.Core.List.{List, [], ◌++◌, append_assoc}
use lib.ListN.{length, take, drop, replicate, length-append, take-append-drop}
use lib.Seq.{length-take-le, take_at, drop_at, drop-drop}
use Rattle.lists.specs.Lists.{padded}
use Rattle.lists.specs.Wrote.{put_at, Wrote}

module _ (b : List ℕ) (at : ℕ) (s : List ℕ) (fits : at + length s ≤ length b) where
  front : length (take at b ++ s) ≡ at + length s
  front = length-append (take at b) s ∙ ap (λ n. n + length s) (length-take-le at b (omega arith))

  put-put : (t : List ℕ) → put_at (put_at b at s) (at + length s) t ≡ put_at b at (s ++ t)
  unfolding put_at
  put-put t =
      let e : take at b ++ (s ++ drop (at + length s) b) ≡ (take at b ++ s) ++ drop (at + length s) b = sym (append_assoc (take at b) s _) in
      let k : at + length s + length t ≡ at + length (s ++ t) = omega (arith, length-append s t) in
      let d : drop (at + length s + length t) ((take at b ++ s) ++ drop (at + length s) b) ≡ drop (at + length (s ++ t)) b =
      sym (drop-drop (length t) (at + length s) _)
      ∙ ap (drop (length t)) (drop_at (take at b ++ s) _ (at + length s) front)
      ∙ drop-drop (length t) (at + length s) b
      ∙ ap (λ n. drop n b) k
      in
      rw (e, take_at (take at b ++ s) _ (at + length s) front, d) (simp append_assoc)

-- written, and then what stands behind it
pub Wrote-then
    : {b : List ℕ} {at : ℕ} {s c t d : List ℕ} {n k : ℕ}
    → Wrote b at s c n → Wrote c n t d k → at + length s ≤ length b → Wrote b at (s ++ t) d k
Wrote-then {b} {at} {s} {c} {t} w v h =
    record {
      next = omega (arith, w.next, v.next, length-append s t);
      after = v.after ∙ rw (w.after, w.next) (put-put b at s h t);
      long = v.long ∙ w.long;
    }

pub wrote_none : (b : List ℕ) (at : ℕ) → Wrote b at [] b at
unfolding put_at
wrote_none b at =
    let z : at ≡ at + 0 = omega arith in
    record { next = z; after = sym (take-append-drop at b) ∙ ap (λ n. take at b ++ drop n b) z; long = refl }

-- what was written, said otherwise
pub wrote_as : {b : List ℕ} {at : ℕ} {s t c : List ℕ} {n : ℕ} → s ≡ t → Wrote b at s c n → Wrote b at t c n
wrote_as e w = rw e at w

pub wrote_of : {A : Type 0} (f : A → List ℕ) {b : List ℕ} {at : ℕ} {c : List ℕ} {n : ℕ} {x y : A} → x ≡ y → Wrote b at (f y) c n → Wrote b at (f x) c n
wrote_of f e w = rw e w

-- what was written at the front of blanks has blanks behind
drop-blanks : (n k z : ℕ) → drop k (replicate n z) ≡ replicate (n - k) z
drop-blanks n zero z = let e : n ≡ n - 0 = omega arith in ap (λ k. replicate k z) e
drop-blanks zero (suc k) z = let e : 0 ≡ 0 - suc k = omega arith in ap (λ n. replicate n z) e
drop-blanks (suc n) (suc k) z = let e : n - k ≡ suc n - suc k = omega arith in drop-blanks n k z ∙ ap (λ n. replicate n z) e

pub wrote-padded : (cap z : ℕ) {s c : List ℕ} {n : ℕ} → Wrote (replicate cap z) 0 s c n → c ≡ padded cap z s
unfolding put_at padded
wrote-padded cap z {s} w =
    let e : 0 + length s ≡ length s = omega arith in
    w.after ∙ ap (λ n. s ++ drop n (replicate cap z)) e ∙ ap (λ l. s ++ l) (drop-blanks cap (length s) z)
