-- What is kept fits the text.
use Rattle.std.proofs.Common.{◌≤◌}
use Rattle.compose.specs.declared.TheConstants.{TEXT}
use Rattle.compose.proofs.run.Given as goal

abbrev pub invariant-loop : goal.invariant-loop
invariant-loop g l = l.rest.0 ≤ TEXT
