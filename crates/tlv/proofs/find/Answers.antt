-- `tlv::find` gives the part of the bytes that is the value found.
-- Assumes nothing.
use borrow.Author.Rules.{rules}
use Rattle.tlv.proofs.Runs.{found-within}
use Rattle.tlv.proofs.find.Goals as goal

pub part-requires : goal.part-requires
part-requires c = search (found-within, rules)
