-- `menu_entries::reworded` meets its contract: the row keeps the rest, with its text as `held` and `text_len` give it.
-- Assumes nothing.
use mathlib.Core.Path.{refl}
use Rattle.rules.specs.Held.{view_row, stored_row}
use Rattle.menu_entries.proofs.reworded.Goals as goal

pub returns : goal.returns
unfolding view_row stored_row
returns c = rw (c.held-bytes.ensures, c.text_len.ensures.0) refl
