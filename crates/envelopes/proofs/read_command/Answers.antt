-- `envelopes::read_command` gives what the bytes of a command say.
-- Assumes nothing.
use borrow.Author.Rules.{rules}
use Rattle.tlv.proofs.Wraps.{outer-within}
use Rattle.envelopes.proofs.read_command.Goals as goal

pub slice_bounds-instruct-count : goal.slice_bounds-instruct-count
slice_bounds-instruct-count c = search (outer-within, rules)

pub slice_bounds-instruct-start : goal.slice_bounds-instruct-start
slice_bounds-instruct-start c = search (outer-within, rules)
