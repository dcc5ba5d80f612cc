-- Laws of what was written at the front of a buffer, or of a part of one.
-- Assumes nothing.
use Prim.Native.Nat.{ℕ, ◌+◌, ◌-◌, ◌≤◌}
use native.Mathlib.Omega.{arith}
use mathlib.Core.Path.{◌≡◌, refl, sym, ap, ◌∙◌}
use mathlib.Core.List.{List, ◌++◌, append_assoc}
use lib.ListN.{length, take, drop, length-append, length-drop, take-append-drop}
use lib.Seq.{length-take-le, take_at, drop-append-le, drop-drop}
use borrow.Rule.Slice.PartMut.{put_mid, same_len_mid}
use Rattle.lists.specs.Wrote.{put_at, Wrote}

-- what was written at the front of a buffer ends within it
pub wrote-within : {b s d : List ℕ} {n : ℕ} → Wrote b 0 s d n → n ≤ length b
unfolding put_at
wrote-within {b} {s} w = omega (arith, w.next, w.long, ap length w.after, length-append s (drop (0 + length s) b))

-- and is the front of the buffer
pub wrote-front : {b s d : List ℕ} {n : ℕ} → Wrote b 0 s d n → take n d ≡ s
unfolding put_at
wrote-front {b} {s} {n = n} w =
    let long : length s ≡ n = omega (arith, w.next) in
    rw w.after (take_at s (drop (0 + length s) b) n long)

-- what was written at the front of a part stands in the whole where the part stands
pub wrote-part : (c : List ℕ) (at k : ℕ) {s d : List ℕ} {n : ℕ} → Wrote (take k (drop at c)) 0 s d n → Wrote c at s (put_mid at k c d) (at + n)
unfolding put_at
wrote-part c at k {s} {d} w =
    let part = take k (drop at c) in
    let behind = drop k (drop at c) in
    let z : 0 + length s ≡ length s = omega arith in
    let h : length s ≤ length part = omega (arith, wrote-within w, w.next) in
    let f : d ≡ s ++ drop (length s) part = w.after ∙ ap (λ n. s ++ drop n part) z in
    let g : drop (length s) part ++ behind ≡ drop (at + length s) c = sym (drop-append-le (length s) part behind h) ∙ ap (drop (length s)) (take-append-drop k (drop at c)) ∙ drop-drop (length s) at c in
    record {
      next = omega (arith, w.next);
      after = ap (λ l. take at c ++ l) (ap (λ l. l ++ behind) f ∙ append_assoc s (drop (length s) part) behind ∙ ap (λ l. s ++ l) g);
      long = same_len_mid at k c d w.long;
    }

-- what was copied over a part that is as long
pub wrote_over : (c : List ℕ) (at : ℕ) (s : List ℕ) {d : List ℕ} → at + length s ≤ length c → d ≡ s → Wrote c at s (put_mid at (at + length s - at) c d) (at + length s)
unfolding put_at
wrote_over c at s {d} h e =
    let k : at + length s - at ≡ length s = omega arith in
    let g : drop (at + length s - at) (drop at c) ≡ drop (at + length s) c = ap (λ n. drop n (drop at c)) k ∙ drop-drop (length s) at c in
    let a : put_mid at (at + length s - at) c d ≡ put_at c at s = ap (λ l. take at c ++ l) (ap (λ l. l ++ drop (at + length s - at) (drop at c)) e ∙ ap (λ l. s ++ l) g) in
    record {
      next = refl;
      after = a;
      long = same_len_mid at (at + length s - at) c d (omega (arith, ap length e, length-take-le (at + length s - at) (drop at c) (omega (arith, length-drop at c))));
    }
