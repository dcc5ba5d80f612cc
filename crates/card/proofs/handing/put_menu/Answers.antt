-- `put_menu` meets its contract.
-- Assumes nothing.
use mathlib.Core.Path.{sym}
use lib.Seq.{length-take-le}
use Rattle.card.proofs.Written.{menu-wrote}
use Rattle.card.proofs.Handed.{title-most}
use borrow.Author.Rules.{rules}
use Rattle.card.proofs.handing.put_menu.Goals as goal

pub returns : goal.returns
returns c = menu-wrote _ c.requires.0 _ _ (title-most _ _ c.requires.1) c.write_menu.ensures
