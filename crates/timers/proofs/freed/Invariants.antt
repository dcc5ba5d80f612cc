-- `timers::freed` meets its contract.
use Rattle.std.proofs.Common.{◌≡◌}
use Rattle.lists.proofs.InPlace.{mapped_to}
use Rattle.rules.specs.Applets.{forget}
use Rattle.timers.proofs.freed.Given as goal

abbrev pub invariant-loop-o : goal.invariant-loop-o
invariant-loop-o l = l.o-items ≡ mapped_to (forget l.applet) l.o-index l.fn.bank.owner
