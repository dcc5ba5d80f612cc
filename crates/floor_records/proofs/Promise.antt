-- THE FLOOR PROGRAM'S PROMISE: what its turns write for the pieces of an input is what the rules say of the whole input, however it was cut
-- into pieces of whole records. Assumes nothing.
use Prim.Native.Nat.{ℕ}
use mathlib.Core.Path.{◌≡◌, refl, sym, ap, ◌∙◌}
use mathlib.Core.List.{List, [], ◌++◌}
use Rattle.lists.specs.Lists.{gather}
use Rattle.rules.specs.Holds.{document, fresh}
use Rattle.rules.specs.Beside.{fresh_card, fresh_by}
use Rattle.rules.specs.Refusals.{first_holding}
use Rattle.rules.specs.Runs.{card_after}
use Rattle.rules.specs.Floor.{floor_lines}
use Rattle.card.specs.declared.Card.{Card}
use Rattle.card.specs.declared.Reply.{Reply}
use Rattle.card.specs.View.{view, Left}
use Rattle.card.specs.Replies.{fresh_reply, MakesFresh}
use Rattle.card.proofs.FreshCard.{fresh-left}
use Rattle.floor_records.specs.Pieces.{lines_of}
use Rattle.floor_records.specs.Turns.{Whole, Turns, none, turn}
use Rattle.lists.proofs.WrittenParts.{wrote-front}
use Rattle.floor_records.proofs.PieceLaws.{lines_none}
use Rattle.floor_records.proofs.Reached.{reached-by-card, reached-seen, reached-after}
use Rattle.floor_records.proofs.Joined.{piece-join, whole-rest}

turns-lines : {c : Card} {k : ℕ} {l : List (List ℕ)} {w : List ℕ} → Left c → Whole l → Turns c k l w → w ≡ lines_of k (view c) (gather (λ s. s) l)
unfolding gather
turns-lines {c} {k} left h none = sym (lines_none k (view c))
turns-lines {c} {k} left h (turn {p = p} {r = r} {l = l} {w = w} o t) =
    let seen = ap view o.card ∙ reached-seen (reached-after k p (reached-by-card c left)) in
    let rest = turns-lines o.left (whole-rest p l h) t in
    ap (λ s. s ++ w) (wrote-front o.wrote) ∙ ap (λ s. lines_of k (view c) p ++ s) (rw (seen, o.next) at rest) ∙ sym (piece-join k (view c) p l h)

fresh-seen : view (fresh_reply (fresh_card document [])).card ≡ fresh document []
unfolding fresh_reply fresh_card fresh_by first_holding card_after
fresh-seen = reached-seen {m = fresh document []} (record { title = []; calls = []; is = refl })

-- from a fresh card with an empty title and number 1 on
pub floor-writes-its-lines
    : (made : Reply) → MakesFresh [] made → {pieces : List (List ℕ)} {written : List ℕ}
    → Whole pieces → Turns made.card 1 pieces written → written ≡ floor_lines (gather (λ s. s) pieces)
unfolding floor_lines lines_of
floor-writes-its-lines made e h t =
    let left : Left made.card = rw e (fresh-left []) in
    let seen : view made.card ≡ fresh document [] = ap (λ (x : Reply). view x.card) e ∙ fresh-seen in
    rw seen at (turns-lines left h t)
