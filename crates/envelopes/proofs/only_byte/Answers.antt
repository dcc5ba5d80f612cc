-- `envelopes::only_byte` reads the byte of an element.
-- Assumes nothing.
use borrow.Author.Rules.{rules}
use Rattle.envelopes.proofs.Bytes.{found_byte}
use Rattle.envelopes.proofs.only_byte.Goals as goal

pub bounds-s-value : goal.bounds-s-value
bounds-s-value c = search (found_byte, rules)
