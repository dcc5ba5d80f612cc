-- `items_at` meets its contract: the help mark, then what stands behind the title. Assumes nothing.
use borrow.Author.Rules.{rules}
use Rattle.lists.proofs.Decided.{clashing}
use Rattle.menu_reader.proofs.Items.{items-here, items-none}
use Rattle.menu_reader.proofs.items_at.Goals as goal

pub returns-then-help : goal.returns-then-help
returns-then-help c = items-here _ _ _ c.requires (λ z. clashing c.if-help.true z)

pub returns-then-same : goal.returns-then-same
returns-then-same c = items-none _ _ c.if-help.false (c.same.ensures.0 c.if-same.true)

pub returns : goal.returns
returns c = items-here _ _ _ (search rules) (λ z e. clashing (c.same.ensures.1 e) c.if-same.false)
