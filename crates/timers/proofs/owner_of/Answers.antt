-- `timers::owner_of` meets its contract.
use Rattle.std.proofs.Common.{◌∙◌}
use Rattle.timers.proofs.Owners.{owner-numbered}
use Rattle.timers.proofs.owner_of.Goals as goal

pub returns : goal.returns
returns c = c.by_number.ensures ∙ owner-numbered c.args.bank.owner c.args.timer
