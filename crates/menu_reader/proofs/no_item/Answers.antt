-- `no_item` meets its contract: the struct is the empty item, written out. Assumes nothing.
use mathlib.Core.Path.{refl}
use Rattle.lists.specs.Lists.{padded}
use Rattle.rules.specs.Held.{stored_item}
use Rattle.menu_reader.proofs.no_item.Goals as goal

pub returns : goal.returns
unfolding stored_item padded
returns c = refl
