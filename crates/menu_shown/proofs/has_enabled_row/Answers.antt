-- `menu_shown::has_enabled_row` meets its contract: the search over the array is the one over the rows.
-- Assumes nothing.
use borrow.Author.Rules.{rules}
use borrow.Author.Tests.{tests}
use Rattle.std.proofs.lemmas.Iterator.{YieldsList-from_slice}
use Rattle.std.proofs.lemmas.Iterator.Search.{any_from_yields_List}
use Rattle.menu_shown.proofs.Answers.{enabled_of, has_row}
use Rattle.menu_shown.proofs.has_enabled_row.Goals as goal

pub returns : goal.returns
returns c = has_row c.args.rows c.args.applet c.listed.ensures (any_from_yields_List (enabled_of c.args.applet) _ _ c.any.result c.any.ensures.ran (YieldsList-from_slice c.listed.result.now cc) (λ x b q k. search (rules, tests)))
