-- `admission::is_out_of_range` meets its contract. By its five tests; blanks request no identifier over 127.
-- Assumes nothing.
use mathlib.Core.Path.{refl, ap, ◌∙◌}
use borrow.Author.Tests.{eq-eqb, ne_eqb, lt-ltb, le-ltb}
use Rattle.lists.specs.Tests.{◌<?◌}
use Rattle.lists.specs.Lists.{some?}
use Rattle.lists.proofs.Walk.{some-padded}
use Rattle.rules.specs.declared.Pair.{Pair}
use Rattle.rules.specs.Applets.{out_of_range, looked_at}
use Rattle.rules.specs.Rows.{no_pair}
use Rattle.admission.proofs.is_out_of_range.Goals as goal

pub returns-then-request-eq0 : goal.returns-then-request-eq0
unfolding out_of_range
returns-then-request-eq0 c = rw (eq-eqb _ _ c.if-request-eq0.true) refl

pub returns-then-request-gt-MOST_TIMERS : goal.returns-then-request-gt-MOST_TIMERS
unfolding out_of_range
returns-then-request-gt-MOST_TIMERS c = rw (ne_eqb _ _ c.if-request-eq0.false, lt-ltb _ _ c.if-request-gt-MOST_TIMERS.true) refl

pub returns-then-request-gt-MOST_ENTRIES : goal.returns-then-request-gt-MOST_ENTRIES
unfolding out_of_range
returns-then-request-gt-MOST_ENTRIES c = rw (ne_eqb _ _ c.if-request-eq0.false, le-ltb _ _ c.if-request-gt-MOST_TIMERS.false, lt-ltb _ _ c.if-request-gt-MOST_ENTRIES.true) refl

pub returns-then-request-gt-MOST_TEXT : goal.returns-then-request-gt-MOST_TEXT
unfolding out_of_range
returns-then-request-gt-MOST_TEXT c =
    rw (
      ne_eqb _ _ c.if-request-eq0.false,
      le-ltb _ _ c.if-request-gt-MOST_TIMERS.false,
      le-ltb _ _ c.if-request-gt-MOST_ENTRIES.false,
      lt-ltb _ _ c.if-request-gt-MOST_TEXT.true,
    ) refl

pub returns : goal.returns
unfolding out_of_range
returns c =
    rw (
      ne_eqb _ _ c.if-request-eq0.false,
      le-ltb _ _ c.if-request-gt-MOST_TIMERS.false,
      le-ltb _ _ c.if-request-gt-MOST_ENTRIES.false,
      le-ltb _ _ c.if-request-gt-MOST_TEXT.false,
    )
    (c.is_over.ensures
    ∙ ap (some? (λ (p : Pair). 127 <? p.identifier)) c.requires
    ∙ some-padded (λ (p : Pair). 127 <? p.identifier) no_pair refl 4 (looked_at _))
