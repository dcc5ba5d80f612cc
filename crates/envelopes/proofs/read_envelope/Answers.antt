-- `envelopes::read_envelope` gives what the bytes of an envelope say.
-- Assumes nothing.
use borrow.Author.Rules.{rules}
use Rattle.tlv.proofs.Wraps.{outer-within}
use Rattle.envelopes.proofs.read_envelope.Goals as goal

pub slice_bounds-decide-count : goal.slice_bounds-decide-count
slice_bounds-decide-count c = search (outer-within, rules)

pub slice_bounds-decide-start : goal.slice_bounds-decide-start
slice_bounds-decide-start c = search (outer-within, rules)
