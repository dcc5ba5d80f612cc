-- `envelopes::kind` reads the type of a command.
-- Assumes nothing.
use borrow.Author.Rules.{rules}
use Rattle.envelopes.proofs.Bytes.{found_second, second_fits}
use Rattle.envelopes.proofs.kind.Goals as goal

pub overflow_add-result : goal.overflow_add-result
overflow_add-result c = search (second_fits, rules)

pub bounds-s-details : goal.bounds-s-details
bounds-s-details c = search (found_second, rules)
