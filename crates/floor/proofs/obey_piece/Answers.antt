-- The lines of a piece fit the buffer.
-- Assumes nothing.
use native.Mathlib.Omega.{arith}
use Rattle.lists.proofs.WrittenParts.{wrote-within}
use Rattle.floor.proofs.obey_piece.Goals as goal

pub shared_ref_as_front-write_all : goal.shared_ref_as_front-write_all
shared_ref_as_front-write_all g c = let o = c.obey_all-run.ensures.wrote in omega (arith, wrote-within o, o.long)
