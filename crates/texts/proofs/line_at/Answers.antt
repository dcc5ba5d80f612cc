-- `texts::line_at` gives the piece between two line feeds, counted from 0.
-- Assumes nothing.
use mathlib.Core.Path.{refl}
use borrow.Author.Rules.{rules}
use borrow.Author.Tests.{tests}
use Rattle.std.specs.Prelude.{◌==◌, []}
use Rattle.std.specs.List.{slice_split}
use Rattle.std.proofs.lemmas.Iterator.Consumers.{nth_from_yields_List}
use Rattle.std.proofs.lemmas.Iterator.Splits.{YieldsList-from_slice_split}
use Rattle.texts.proofs.Places.{read-or}
use Rattle.texts.proofs.line_at.Goals as goal

pub returns : goal.returns
returns c =
    let a = c.args in
    let line = nth_from_yields_List _ _ a.place c.nth.ensures.ran (YieldsList-from_slice_split _ (λ b. b == 0x0A) a.text.now c.split.ensures.rest c.split.ensures.done c.split.ensures.closure (λ x r q k. search (rules, tests))) in
    read-or (slice_split (λ b. b == 0x0A) a.text.now) a.place [] _ _ _ line c.unwrap_or.ensures refl
