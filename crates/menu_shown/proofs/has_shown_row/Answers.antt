-- `menu_shown::has_shown_row` meets its contract: the search over the array is the one over the rows.
-- Assumes nothing.
use borrow.Author.Rules.{rules}
use borrow.Author.Tests.{tests}
use Rattle.std.proofs.lemmas.Iterator.{YieldsList-from_slice}
use Rattle.std.proofs.lemmas.Iterator.Search.{any_from_yields_List}
use Rattle.menu_shown.proofs.Answers.{shown_to, shown_row}
use Rattle.menu_shown.proofs.has_shown_row.Goals as goal

pub returns : goal.returns
returns c = shown_row c.args.rows c.args.selectable c.listed.ensures (any_from_yields_List (shown_to c.args.selectable) _ _ c.any.result c.any.ensures.ran (YieldsList-from_slice c.listed.result.now cc) (λ x b q k. search (rules, tests)))
