-- `asks` meets its contract.
use Rattle.std.proofs.Common.{rules, tests}
use Rattle.std.proofs.lemmas.Iterator.{YieldsList-from_slice}
use Rattle.std.proofs.lemmas.Iterator.Search.{any_from_yields_List}
use Rattle.lists.proofs.Chains.{some_by}
use Rattle.admission.specs.Refuses.{asks_for}
use Rattle.admission.proofs.asks.Goals as goal

pub returns : goal.returns
returns c = some_by (asks_for c.args.identifier) c.args.pairs.now (any_from_yields_List _ _ _ _ c.any.ensures.ran (YieldsList-from_slice c.args.pairs.now (cc)) (λ x b q k. search (rules, tests)))
