-- `tlv::is_run` tells whether a run fills its bytes. The invariant: what is left from here on decides. The measure: the bytes left.
-- Assumes nothing.
use borrow.Author.Rules.{rules}
use Rattle.rules.specs.Bytes.{Run, is_run}
use Rattle.elements.proofs.Ends.{element-falls}
use Rattle.tlv.proofs.Runs.{run-case, run-broken}
use Rattle.tlv.proofs.is_run.Goals as goal

pub loop-e-init : goal.loop-e-init
unfolding is_run
loop-e-init c = search rules

pub loop-e-smaller : goal.loop-e-smaller
loop-e-smaller c = search (element-falls, rules)

pub loop-e-preserved : goal.loop-e-preserved
loop-e-preserved c = search (run-case (λ (r : Run). r.fills), rules)

pub returns-in-Err : goal.returns-in-Err
returns-in-Err c = search (run-broken (λ (r : Run). r.fills), rules)

pub returns-in-Ok-None : goal.returns-in-Ok-None
returns-in-Ok-None c = search (run-case (λ (r : Run). r.fills), rules)
