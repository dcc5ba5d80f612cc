-- `switched` meets its contract.
-- Assumes nothing.
use mathlib.Core.Path.{ap, sym, ◌∙◌}
use mathlib.Core.Bool.{Bool}
use Rattle.std.specs.Prelude.{if◌then◌else◌, ◌==◌}
use Rattle.sets.specs.Sets.{set_of, has?}
use Rattle.sets.proofs.Bits.{turned_on, turned-off}
use Rattle.sets.proofs.switched.Goals as goal

pub returns-then-on : goal.returns-then-on
returns-then-on c = turned_on _ _ _ c.ranges.set.fits c.bit-own.ensures ∙ ap (λ (on : Bool). set_of (λ k. if k == c.args.n then on else has? c.args.set k)) (sym c.if-on.true)

pub returns-else-on : goal.returns-else-on
returns-else-on c = turned-off _ _ _ c.ranges.set.fits c.bit-own.ensures ∙ ap (λ (on : Bool). set_of (λ k. if k == c.args.n then on else has? c.args.set k)) (sym c.if-on.false)
