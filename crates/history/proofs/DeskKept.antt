-- The desk: a session has begun, and a command is outstanding, as the history names it.
-- Assumes nothing.
use mathlib.Core.Path.{◌≡◌, refl, ap, ◌∙◌}
use mathlib.Core.Bool.{Bool, true, false, not}
use mathlib.Core.List.{List, [], ◌∷◌}
use lib.ListN.{length}
use Rattle.std.specs.Prelude.{if◌then◌else◌, ◌==◌}
use Rattle.lists.specs.Lists.{some?}
use Rattle.rules.specs.declared.Due.{Due}
use Rattle.rules.specs.Holds.{Tables, Desk, Model}
use Rattle.rules.specs.Desk.{marked, with_profile, with_marks, due_after, Matter, due_matters, first_command, due_command, with_first, with_handed_out}
use Rattle.rules.specs.Calls.{Call, admin, event, entry, timer, arrival, next, proactive, system_command, envelope, profile, status, settled, send, response}
use Rattle.rules.specs.Step.{arrival_desk, proactive_desk, desk_after, tables_after, changed, answer}
use Rattle.rules.proofs.DueMarks.{command-some}
use Rattle.history.specs.Histories.{did, History}
use Rattle.history.specs.Named.{in_session, is_outstanding}
use Rattle.history.proofs.Open.{reading}
use Rattle.history.proofs.Agree.{AgreeDesk}

-- the due marks leave the session and what is outstanding
pub marks-leave : {B : Type 0} (g : Desk → B) → ((d : Desk) (x : Due) → g (with_marks d d.outstanding x) ≡ g d)
    → (before after : Tables) (d : Desk) → g (marked before after d) ≡ g d
unfolding marked
marks-leave g k before after d = go d.session
  where
    go : (b : Bool)
        → g (if b then with_marks d d.outstanding (due_after before after d.due) else d) ≡ g d
    go true = k d _
    go false = refl

-- a command that is due is handed out, and has a length
handed_out : (t : Tables) (d : Desk)
    → (with_handed_out d).outstanding ≡ (if not (length (due_command t d) == 0) then true else d.outstanding)
unfolding with_handed_out with_first due_command first_command
handed_out t d = go (due_matters d.due)
  where
    go : (l : List Matter) → (with_first d l).outstanding ≡ (if not (length (first_command t d.title l) == 0) then true else d.outstanding)
    go [] = refl
    go (x ∷ l) = rw (command-some t d.title x) refl

pub session-after : (m : Model) (h : History) (c : Call) → AgreeDesk m.desk h
    → (desk_after m c).session ≡ in_session (did c (answer m c) ∷ h)
unfolding desk_after arrival_desk proactive_desk with_profile with_handed_out with_first in_session some? reading
session-after m h (admin c) g = g.session
session-after m h (event c) g = g.session
session-after m h (entry c) g = g.session
session-after m h (timer c) g = g.session
session-after m h (arrival (envelope bytes)) g = g.session
session-after m h (arrival (profile bytes)) g = refl
session-after m h (arrival status) g = g.session
session-after m h (arrival settled) g = g.session
session-after m h next g = g.session
session-after m h (proactive (send n bytes)) g = g.session
session-after m h (proactive response) g = g.session
session-after m h (system_command buffer) g = go (due_matters m.desk.due) ∙ g.session
  where
    go : (l : List Matter) → (with_first m.desk l).session ≡ m.desk.session
    go [] = refl
    go (x ∷ l) = refl

outstanding-after : (m : Model) (h : History) (c : Call) → AgreeDesk m.desk h
    → (desk_after m c).outstanding ≡ is_outstanding (did c (answer m c) ∷ h)
unfolding desk_after arrival_desk proactive_desk with_profile answer is_outstanding reading
outstanding-after m h (admin c) g = g.outstanding
outstanding-after m h (event c) g = g.outstanding
outstanding-after m h (entry c) g = g.outstanding
outstanding-after m h (timer c) g = g.outstanding
outstanding-after m h (arrival (envelope bytes)) g = g.outstanding
outstanding-after m h (arrival (profile bytes)) g = refl
outstanding-after m h (arrival status) g = g.outstanding
outstanding-after m h (arrival settled) g = g.outstanding
outstanding-after m h next g = g.outstanding
outstanding-after m h (proactive (send n bytes)) g = refl
outstanding-after m h (proactive response) g = refl
outstanding-after m h (system_command buffer) g =
    handed_out m.tables m.desk
    ∙ ap (λ (z : Bool). if not (length (due_command m.tables m.desk) == 0) then true else z) g.outstanding

pub desk-kept : (m : Model) (h : History) (c : Call) → AgreeDesk m.desk h
    → AgreeDesk (changed m c).desk (did c (answer m c) ∷ h)
unfolding changed
desk-kept m h c g =
    record {
      session =
          marks-leave (λ d. d.session) (λ d x. refl) m.tables (tables_after m c) (desk_after m c)
          ∙ session-after m h c g;
      outstanding =
          marks-leave (λ d. d.outstanding) (λ d x. refl) m.tables (tables_after m c) (desk_after m c)
          ∙ outstanding-after m h c g;
    }
