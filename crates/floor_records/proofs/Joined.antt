-- Whole records and then the rest: the lines of the rest stand behind, from the next number on and with the card that is left.
-- Assumes nothing.
use Prim.Native.Nat.{ℕ, zero, suc, ◌+◌, ◌*◌, ◌≤◌}
use native.Mathlib.Omega.{arith}
use mathlib.Core.Path.{◌≡◌, sym, ap, ◌∙◌}
use mathlib.Core.List.{List, [], ◌∷◌, ◌++◌, append_assoc, append-nil}
use lib.ListN.{length, take, drop, length-append, length-drop}
use lib.Seq.{take-append-le, drop-append-le}
use Rattle.lists.specs.Lists.{gather}
use Rattle.rules.specs.Holds.{Model}
use Rattle.rules.specs.Floor.{step_line}
use Rattle.floor_records.specs.Pieces.{records_in, lines_of, card_after_piece}
use Rattle.floor_records.specs.Turns.{Whole}
use Rattle.floor_records.proofs.PieceLaws.{lines_none, card-none, lines-first, card-first}

lines_join : (n k : ℕ) (m : Model) (a b : List ℕ) → length a ≡ 24 * n → lines_of k m (a ++ b) ≡ lines_of k m a ++ lines_of (k + n) (card_after_piece k m a) b
lines_join zero k m [] b e =
    let z : k ≡ k + 0 = omega arith in
    rw (lines_none k m, card-none k m) (ap (λ n. lines_of n m b) z)
lines_join zero k m (x ∷ a) b e = absurd (omega arith)
lines_join (suc n) k m a b e =
    let long : 24 ≤ length a = omega arith in
    let o = step_line k m (take 24 a) in
    let number : suc k + n ≡ k + suc n = omega arith in
    let rest = lines_join n (suc k) o.card (drop 24 a) b (omega (arith, length-drop 24 a)) in
    let on = ap (λ j. lines_of j (card_after_piece (suc k) o.card (drop 24 a)) b) number in
    rw (lines-first k m (a ++ b) (omega (arith, length-append a b)), take-append-le 24 a b long, drop-append-le 24 a b long, rest, on, lines-first k m a (omega arith), card-first k m a (omega arith))
    (sym (append_assoc o.line (lines_of (suc k) o.card (drop 24 a)) _))

-- the number that follows, as the piece says it
pub piece-join
    : (k : ℕ) (m : Model) (p : List ℕ) (l : List (List ℕ)) → Whole (p ∷ l)
    → lines_of k m (gather (λ s. s) (p ∷ l)) ≡ lines_of k m p ++ lines_of (k + records_in p) (card_after_piece k m p) (gather (λ s. s) l)
unfolding gather Whole
piece-join k m p [] h = ap (lines_of k m) (append-nil p) ∙ sym (ap (λ s. lines_of k m p ++ s) (lines_none _ _) ∙ append-nil (lines_of k m p))
piece-join k m p (q ∷ l) h =
    let e : length p ≡ 24 * records_in p = omega (arith, h.0) in
    lines_join (records_in p) k m p (gather (λ s. s) (q ∷ l)) e

pub whole-rest : (p : List ℕ) (l : List (List ℕ)) → Whole (p ∷ l) → Whole l
unfolding Whole
whole-rest p [] h = tt
whole-rest p (q ∷ l) h = h.1
