-- `shorter` meets its contract.
use Rattle.polling.proofs.Durations.{other-only, one_only, smaller}
use Rattle.polling.proofs.shorter.Goals as goal

pub returns-then-one-eq0 : goal.returns-then-one-eq0
returns-then-one-eq0 c = other-only _ _ c.if-one-eq0.true

pub returns-then-other-eq0 : goal.returns-then-other-eq0
returns-then-other-eq0 c = one_only _ _ c.if-one-eq0.false c.if-other-eq0.true

pub returns-else-other-eq0 : goal.returns-else-other-eq0
returns-else-other-eq0 c = smaller _ _ c.if-one-eq0.false c.if-other-eq0.false c.min.ensures
