-- `menu_entries::row_of` meets its contract: the row is the new one, with its text as `held` and `text_len` give it.
-- Assumes nothing.
use mathlib.Core.Path.{refl}
use Rattle.rules.specs.Held.{stored_row}
use Rattle.menu_entries.proofs.row_of.Goals as goal

pub returns : goal.returns
unfolding stored_row
returns c = rw (c.held-bytes.ensures, c.text_len.ensures.0) refl
