-- Laws of the loop over a piece: what stands in the buffer, and what is to come.
-- Assumes nothing.
use Prim.Native.Nat.{ℕ, min, ◌+◌, ◌-◌, ◌*◌, ◌≤◌, ◌<◌}
use native.Mathlib.Omega.{arith}
use native.Mathlib.Numerals.{add-one}
use mathlib.Core.Bool.{Bool, true, false}
use mathlib.Core.Path.{◌≡◌, refl, sym, ap, ◌∙◌}
use mathlib.Core.List.{List, [], ◌++◌, append_assoc, append-nil}
use lib.ListN.{length, take, drop, length-take, length-drop, drop_of_length-le}
use lib.Seq.{take_all, take-append_seam, drop-append_seam}
use borrow.Rule.Slice.PartMut.{put_mid}
use borrow.Author.Tests.{ltb-true, ltb-false}
use Rattle.lists.specs.Tests.{◌<?◌}
use Rattle.lists.specs.Wrote.{Wrote}
use Rattle.lists.proofs.Writing.{wrote_none, Wrote-then, wrote_as}
use Rattle.rules.specs.Holds.{Model}
use Rattle.rules.specs.Floor.{step_line}
use Rattle.card.specs.declared.Card.{Card}
use Rattle.card.specs.View.{view, stored, Left}
use Rattle.card.proofs.Left.{left-form}
use Rattle.floor_records.specs.Pieces.{records_in, lines_of, card_after_piece, ObeysAll}
use Rattle.lists.proofs.WrittenParts.{wrote-within, wrote-part}
use Rattle.floor_records.proofs.ObeyLaws.{Obeys}
use Rattle.floor_records.proofs.Reached.{reached-by-card, reached-left, reached-seen, reached-again}
use Rattle.floor_records.proofs.PieceLaws.{lines_none, card-none, lines-first, card-first}

-- a line has at most as many bytes as the part of the buffer that it was given
pub line-short : (c : List ℕ) (at : ℕ) {s d : List ℕ} {n : ℕ} → Wrote (take (at + 540 - at) (drop at c)) 0 s d n → n ≤ 540
line-short c at w = omega (arith, wrote-within w, length-take (at + 540 - at) (drop at c))

-- where the loop stands: what is left of the piece gives the rest of its lines, and the card after it
pub record Begun (k : ℕ) (m : Model) (s b rest : List ℕ) (card : Card) (next at : ℕ) (c : List ℕ) : Type 0 where
  pub counted : next + records_in rest ≡ k + records_in s
  pub short : at + 540 * records_in rest ≤ 540 * records_in s
  pub left : Left card
  pub card-after : card_after_piece next (view card) rest ≡ card_after_piece k m s
  pub front : List ℕ
  pub wrote : Wrote b 0 front c at
  pub lines : front ++ lines_of next (view card) rest ≡ lines_of k m s

pub begun-none : {k next : ℕ} {s rest b : List ℕ} {card : Card} → Left card → rest ≡ s → next ≡ k → Begun k (view card) s b rest card next 0 b
begun-none {b = b} l e f =
    rw (e, f) (record { counted = refl; short = omega arith; left = l; card-after = refl; front = []; wrote = wrote_none b 0; lines = refl })

module _ {k : ℕ} {m : Model} {s b : List ℕ} (room : 540 * records_in s ≤ length b) {rest : List ℕ} {card : Card} {next at : ℕ} {c : List ℕ} where
  pub Begun-more
      : {behind d bytes : List ℕ} {after : Card} {n : ℕ} → 0 < length rest → bytes ≡ take 24 rest → behind ≡ drop 24 rest → Begun k m s b rest card next at c
      → Obeys (step_line next (view card) bytes) (take (at + 540 - at) (drop at c)) d after n
      → Begun k m s b behind after (next + 1) (at + n) (put_mid at (at + 540 - at) c d)
  Begun-more {behind} {d} {after = after} {n} some e on g obeys =
      let o = step_line next (view card) (take 24 rest) in
      let w : Obeys o (take (at + 540 - at) (drop at c)) d after n = rw e at obeys in
      let reached = reached-again next (take 24 rest) (reached-by-card card g.left) in
      let seen : view after ≡ o.card = ap view w.same ∙ reached-seen reached in
      let fewer : records_in rest ≡ 1 + records_in behind = omega (arith, ap length on, length-drop 24 rest) in
      record {
        counted = omega (arith, g.counted, fewer);
        short = omega (arith, g.short, fewer, line-short c at w.wrote);
        left = rw w.same (reached-left reached);
        card-after = rw (add-one next, seen, on) (sym (card-first next (view card) rest some) ∙ g.card-after);
        front = g.front ++ o.line;
        wrote = Wrote-then g.wrote (wrote-part c at (at + 540 - at) w.wrote) (omega (arith, g.wrote.next, g.short, fewer));
        lines =
            rw (add-one next, seen, on)
            (append_assoc g.front o.line _ ∙ ap (λ l. g.front ++ l) (sym (lines-first next (view card) rest some)) ∙ g.lines);
      }

pub Begun-all
    : {k : ℕ} {m : Model} {s b rest : List ℕ} {card : Card} {next at : ℕ} {c : List ℕ}
    → length rest ≡ 0 → Begun k m s b rest card next at c → ObeysAll k m s b c (record { card = card; number = next; len = at })
Begun-all {s} {rest} {card} {next} h g =
    let none : rest ≡ [] = drop_of_length-le rest {i = 0} (omega arith) in
    let card-is : view card ≡ card_after_piece _ _ s = sym (ap (card_after_piece next (view card)) none ∙ card-none next (view card)) ∙ g.card-after in
    let lines_are : g.front ≡ lines_of _ _ s = sym (append-nil g.front) ∙ sym (ap (λ l. g.front ++ l) (ap (lines_of next (view card)) none ∙ lines_none next (view card))) ∙ g.lines in
    record {
      card = left-form card g.left ∙ ap stored card-is;
      left = g.left;
      next = omega (arith, g.counted, h);
      wrote = wrote_as lines_are g.wrote;
    }

-- the record that comes off the front of what is left, and what is then left
pub first_off : {rest bytes behind : List ℕ} → rest ≡ bytes ++ behind → length bytes ≡ min 24 (length rest) → (bytes ≡ take 24 rest) × (behind ≡ drop 24 rest)
first_off {rest} {bytes} {behind} e h = go (length rest <? 24) refl
  where
    n : ℕ
    n = length bytes

    front : bytes ≡ take n rest
    front = sym (ap (take n) e ∙ take-append_seam bytes behind)

    back : behind ≡ drop n rest
    back = sym (ap (drop n) e ∙ drop-append_seam bytes behind)

    go : (b : Bool) → (length rest <? 24) ≡ b → (bytes ≡ take 24 rest) × (behind ≡ drop 24 rest)
    go true f =
        let few = ltb-true (length rest) 24 f in
        let all : length rest ≤ n = omega (arith, h) in
        let some : length rest ≤ 24 = omega (arith, few) in
        (front ∙ take_all n rest all ∙ sym (take_all 24 rest some), back ∙ drop_of_length-le rest all ∙ sym (drop_of_length-le rest some))
    go false f =
        let many = ltb-false (length rest) 24 f in
        let is : n ≡ 24 = omega (arith, h, many) in
        (front ∙ ap (λ k. take k rest) is, back ∙ ap (λ k. drop k rest) is)
