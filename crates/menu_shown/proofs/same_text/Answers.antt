-- `menu_shown::same_text` meets its contract: the front of the array is the text of the row.
-- Assumes nothing.
use native.Mathlib.Omega.{arith}
use borrow.Author.Rules.{rules}
use mathlib.Core.Path.{◌≡◌, ap, ◌∙◌}
use lib.ListN.{length, take}
use Rattle.lists.specs.Lists.{same?}
use Rattle.rules.specs.Held.{view_row}
use Rattle.menu.proofs.Tidy.{text-within}
use Rattle.menu_shown.proofs.Answers.{tells-same}
use Rattle.menu_shown.proofs.same_text.Goals as goal

pub shared_ref_as_front-same : goal.shared_ref_as_front-same
shared_ref_as_front-same c =
    let wide : length c.args.row.now.text ≡ 15 = search rules in
    omega (arith, wide, c.from.ensures, text-within c.args.row.now c.requires)

pub returns : goal.returns
unfolding view_row
returns c = tells-same _ _ c.same.ensures ∙ ap (λ n. same? (take n c.args.row.now.text) c.args.text.now) c.from.ensures
