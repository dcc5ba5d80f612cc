-- A turn obeys at most 512 records.
use Rattle.std.proofs.Common.{◌+◌, ◌*◌, ◌≤◌}
use Rattle.card.specs.View.{Left}
use Rattle.floor.proofs.obey_input.Given as goal

abbrev pub invariant-loop : goal.invariant-loop
invariant-loop g l = Left l.stand.card × (l.stand.number ≤ 1 + 512 * l.counter)
