-- `elements::element_at` reads the element at a position: its tag's size and number, and its length, by the calls that follow the definition.
-- Assumes nothing.
use borrow.Author.Rules.{rules}
use Rattle.elements.proofs.Ends.{tag_fits, no_length, length-fits}
use Rattle.elements.proofs.element_at.Goals as goal

pub overflow_add-behind : goal.overflow_add-behind
overflow_add-behind c = search (tag_fits, rules)

pub returns-then-s-behind : goal.returns-then-s-behind
returns-then-s-behind c = search (no_length, rules)

pub overflow_add-next : goal.overflow_add-next
overflow_add-next c = search (length-fits, rules)
