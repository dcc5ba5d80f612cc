-- `profile`: refused where there are no bytes, else a session begins and a round is opened.
-- Assumes nothing.
use mathlib.Core.Path.{◌∙◌}
use Rattle.rules.specs.Numbers.{number_of}
use Rattle.rules.proofs.Numbers.{accepted-zero, refused-above}
use Rattle.arrivals.proofs.Answering.{marks-beside}
use Rattle.card.proofs.Left.{tidy-rows}
use Rattle.card.proofs.Profile.{begins-session, refuses-profile}
use Rattle.card.proofs.Card.profile.Goals as goal

pub has_shown_row-menu-requires : goal.has_shown_row-menu-requires
has_shown_row-menu-requires c = tidy-rows _ c.requires

pub returns-then-is_ok : goal.returns-then-is_ok
unfolding number_of
returns-then-is_ok c =
    begins-session _ c.requires _ c.when-refusal.ensures.line c.event_at-arrived.ensures c.round_after-opened.ensures c.other_marks-marks.ensures (c.marked-answer.ensures ∙ marks-beside _ _ c.and.ensures)
    c.has_shown_row-menu.ensures c.any_listened-events.ensures c.any-interval.ensures c.begun-begun.ensures (accepted-zero _ c.is_ok.ensures.value c.if-is_ok.true)

pub returns-else-is_ok : goal.returns-else-is_ok
unfolding number_of
returns-else-is_ok c = refuses-profile _ c.requires _ c.when-refusal.ensures.line c.event_at-arrived.ensures c.round_after-opened.ensures c.other_marks-marks.ensures (c.marked-answer.ensures ∙ marks-beside _ _ c.and.ensures) (refused-above _ c.is_ok.ensures.value c.if-is_ok.false)
