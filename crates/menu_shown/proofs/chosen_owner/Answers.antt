-- `menu_shown::chosen_owner` meets its contract: the search over the array is the one over the rows.
-- Assumes nothing.
use mathlib.Core.Path.{ap, ◌∙◌}
use borrow.Author.Rules.{rules}
use borrow.Author.Tests.{tests}
use Rattle.std.proofs.lemmas.Iterator.{YieldsList-from_slice}
use Rattle.std.proofs.lemmas.Iterator.Search.{find_from_yields_List}
use Rattle.lists.specs.Lists.{first}
use Rattle.lists.proofs.Chains.{mapped_first}
use Rattle.rules.specs.declared.Row as held
use Rattle.rules.specs.Held.{stored_row}
use Rattle.menu.proofs.Tidy.{blank}
use Rattle.menu_shown.proofs.Answers.{asked_at, asked}
use Rattle.menu_shown.proofs.chosen_owner.Goals as goal

pub returns : goal.returns
unfolding stored_row
returns c =
    let p = asked_at c.args.identifier c.args.help in
    let f = find_from_yields_List p _ _ c.find.result c.find.ensures.ran (YieldsList-from_slice c.listed.result.now cc) (λ x b q k. search (rules, tests)) in
    mapped_first p blank (λ (x : held.Row). x.owner) _ c.listed.result.now c.find.result f c.map_or.ensures (λ x k. search rules)
    ∙ ap (λ l. (first p blank l).owner) c.listed.ensures
    ∙ asked c.args.rows c.args.identifier c.args.help c.requires
