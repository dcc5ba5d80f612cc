-- `envelopes::content_at` says where the content stands.
-- Assumes nothing.
use borrow.Author.Rules.{rules}
use Rattle.tlv.proofs.Wraps.{outer-within}
use Rattle.envelopes.proofs.content_at.Goals as goal

pub slice_bounds-decide-count : goal.slice_bounds-decide-count
slice_bounds-decide-count c = search (outer-within, rules)

pub slice_bounds-decide-start : goal.slice_bounds-decide-start
slice_bounds-decide-start c = search (outer-within, rules)

pub overflow_sub-len : goal.overflow_sub-len
overflow_sub-len c = search (outer-within, rules)
