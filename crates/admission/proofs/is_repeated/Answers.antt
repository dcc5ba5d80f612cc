-- `is_repeated` meets its contract.
use Rattle.std.proofs.Common.{refl, sym, ◌∙◌}
use borrow.Author.Tests.{ne_eqb}
use Rattle.admission.proofs.Requests.{in-requested, has-asked}
use Rattle.admission.proofs.is_repeated.Goals as goal

pub returns-then-asks : goal.returns-then-asks
returns-then-asks c =
    c.if-asks.true
    ∙ rw (ne_eqb _ _ c.if-identifier-ne0.true, in-requested _ c.if-identifier-ne0.true _, sym c.asks.ensures ∙ c.if-asks.true) refl

pub returns-else-asks : goal.returns-else-asks
returns-else-asks c =
    rw (
      ne_eqb _ _ c.if-identifier-ne0.true,
      in-requested _ c.if-identifier-ne0.true _,
      sym c.asks.ensures ∙ c.if-asks.false,
      has-asked _ c.if-identifier-ne0.true _,
    ) c.is_taken.ensures
