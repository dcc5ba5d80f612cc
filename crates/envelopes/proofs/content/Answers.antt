-- `envelopes::content` gives the part of the envelope that is the content.
-- Assumes nothing.
use borrow.Author.Rules.{rules}
use Rattle.envelopes.proofs.Contents.{content-within}
use Rattle.envelopes.proofs.content.Goals as goal

pub part-requires : goal.part-requires
part-requires c = search (content-within, rules)
