-- `extent_of` meets its contract. Assumes nothing.
use Rattle.commands.specs.Fits.{Fits}
use Rattle.commands.proofs.Lines.{Measured}
use Rattle.commands.proofs.extent_of.Given as goal

abbrev pub invariant-loop-row : goal.invariant-loop-row
invariant-loop-row l = (fits : Fits l.rows) → Measured l.rows fits l.selectable l.row-index l.bytes l.help
