-- `refusal` meets its contract: refusal 1, and nothing else. Assumes nothing.
use mathlib.Core.Path.{ap}
use mathlib.Core.Bool.{false}
use lib.ListN.{replicate}
use Rattle.lists.specs.Lists.{padded}
use Rattle.rules.specs.declared.Item.{Item}
use Rattle.rules.specs.declared.Menu.{Menu}
use Rattle.rules.specs.Numbers.{number_of}
use Rattle.rules.specs.Held.{stored_menu}
use Rattle.menu_reader.proofs.refusal.Goals as goal

pub returns : goal.returns
unfolding stored_menu padded number_of
returns c = rw c.number.ensures (ap {B = Menu} (λ (b : Item). record { refusal = 1; title = replicate 20 0; title_len = 0; help = false; at = replicate 12 b; count = 0 }) c.no_item-none.ensures)
