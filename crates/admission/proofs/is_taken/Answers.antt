-- `is_taken` meets its contract.
use Rattle.std.proofs.Common.{rules, tests}
use Rattle.std.proofs.lemmas.Iterator.{YieldsList-from_slice}
use Rattle.std.proofs.lemmas.Iterator.Search.{any_from_yields_List}
use Rattle.lists.proofs.Chains.{some_by}
use Rattle.admission.specs.Refuses.{has_requested}
use Rattle.admission.proofs.is_taken.Goals as goal

pub returns : goal.returns
returns c = some_by (has_requested c.args.identifier) c.args.grants.now (any_from_yields_List _ _ _ _ c.any.ensures.ran (YieldsList-from_slice c.args.grants.now (cc)) (λ x b q k. search (rules, tests)))
