-- `is_over` meets its contract.
use Rattle.std.proofs.Common.{rules, tests}
use Rattle.std.proofs.lemmas.Iterator.{YieldsList-from_slice}
use Rattle.std.proofs.lemmas.Iterator.Search.{any_from_yields_List}
use Rattle.lists.specs.Tests.{◌<?◌}
use Rattle.lists.proofs.Chains.{some_by}
use Rattle.rules.specs.declared.Pair.{Pair}
use Rattle.admission.proofs.is_over.Goals as goal

pub returns : goal.returns
returns c = some_by (λ (p : Pair). 127 <? p.identifier) c.args.pairs (any_from_yields_List _ _ _ _ c.any.ensures.ran (YieldsList-from_slice c.args.pairs (cc)) (λ x b q k. search (rules, tests)))
