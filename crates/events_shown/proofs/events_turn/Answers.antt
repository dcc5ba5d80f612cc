-- `events_turn` meets its contract.
-- Assumes nothing.
use native.Mathlib.Omega.{arith}
use mathlib.Core.Path.{refl, ap₂, ◌∙◌}
use mathlib.Core.Bool.{Bool, not, beq}
use borrow.Author.Tests.{lt-leb, le-leb, le-ltb, lt-ltb}
use Rattle.events_shown.specs.Turns.{is_download}
use Rattle.events_shown.proofs.Places.{meets-swap}
use Rattle.events_shown.proofs.events_turn.Goals as goal

pub returns-then-place-lt-MT_CALL : goal.returns-then-place-lt-MT_CALL
unfolding is_download
returns-then-place-lt-MT_CALL c = rw (lt-leb 5 _ c.if-place-lt-MT_CALL.true) refl

pub returns-then-place-gt-BROWSING_STATUS : goal.returns-then-place-gt-BROWSING_STATUS
unfolding is_download
returns-then-place-gt-BROWSING_STATUS c = rw (le-leb 5 _ c.if-place-lt-MT_CALL.false, le-ltb c.args.place 18 (omega arith)) refl

pub returns : goal.returns
unfolding is_download
returns c = rw (le-leb 5 _ c.if-place-lt-MT_CALL.false, lt-ltb c.args.place 18 (omega arith)) (c.turns.ensures ∙ ap₂ (λ (x y : Bool). not (beq x y)) (meets-swap c.args.selectable c.args.was) (meets-swap c.args.selectable c.args.is))
