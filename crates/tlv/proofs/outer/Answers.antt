-- `tlv::outer` reads the outer tag and length, and looks at the run behind them.
-- Assumes nothing.
use borrow.Author.Rules.{rules}
use Rattle.elements.proofs.Ends.{length-fits}
use Rattle.tlv.proofs.outer.Goals as goal

pub overflow_add-start : goal.overflow_add-start
overflow_add-start c = search (length-fits, rules)
