-- `menu::no_rows` meets its contract: twelve empty rows, of which none counts.
-- Assumes nothing.
use mathlib.Core.Path.{refl}
use Rattle.lists.specs.Lists.{padded}
use Rattle.rules.specs.Held.{stored_row, stored_rows}
use Rattle.menu.proofs.no_rows.Goals as goal

pub returns : goal.returns
unfolding stored_row stored_rows padded
returns c = refl
