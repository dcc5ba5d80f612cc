-- `writing::held` meets its contract: what is put at the front of zeros has zeros behind it.
-- Assumes nothing.
use mathlib.Core.Path.{ap, ◌∙◌}
use lib.ListN.{take}
use Rattle.std.proofs.lemmas.List.{take_min}
use Rattle.lists.proofs.Writing.{wrote-padded, wrote_as}
use Rattle.writing.proofs.held.Goals as goal

pub returns : goal.returns
returns g c = wrote-padded g.row.N 0 (wrote_as (ap (λ n. take n c.args.bytes.now) c.min-n.ensures ∙ take_min g.row.N c.args.bytes.now) c.put.ensures)
