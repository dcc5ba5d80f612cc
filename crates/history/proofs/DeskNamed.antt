-- THE DESK over any calls: the title is the one given when the card was made, the profile is the last accepted one's first 32 bytes.
-- Assumes nothing.
use Prim.Native.Nat.{ℕ, zero, suc, ◌≤◌, ◌<◌}
use native.Mathlib.Omega.{arith}
use mathlib.Core.Path.{◌≡◌, refl, sym, ap, ◌∙◌}
use mathlib.Core.Bool.{Bool, true, false}
use mathlib.Core.List.{List, [], ◌∷◌}
use lib.ListN.{length, replicate}
use borrow.Author.Tests.{lt-ltb, ltb-true}
use Rattle.lists.specs.Tests.{◌<?◌}
use Rattle.lists.specs.Lists.{keep}
use Rattle.rules.specs.Holds.{Bounds, Model, document, fresh}
use Rattle.rules.specs.Desk.{Matter, with_profile, due_matters, with_first, with_handed_out}
use Rattle.rules.specs.Calls.{Call, admin, event, entry, timer, arrival, next, proactive, system_command, envelope, profile, status, settled, send, response}
use Rattle.rules.specs.Refusals.{first_holding, refusal}
use Rattle.rules.specs.Step.{arrival_desk, proactive_desk, desk_after, tables_after, changed, answer, outcome, step}
use Rattle.rules.specs.Beside.{fresh_by, fresh_card}
use Rattle.rules.specs.Runs.{card_after}
use Rattle.runs.proofs.Run.{desk-lasts, marked-lasts}
use Rattle.history.specs.Histories.{History, did, accepted}
use Rattle.history.specs.Named.{profile_bytes, profile_named}
use Rattle.history.specs.Runs.{history_of}
use Rattle.history.proofs.Open.{reading}
use Rattle.history.proofs.Agrees.{accepted-more, accepted-same, plain}
use Rattle.history.proofs.DeskKept.{marks-leave}
use Rattle.history.proofs.Promises.{m, past}

-- A FRESH CARD has the title that is asked for ..
pub fresh-with-its-title : (b : Bounds) (title : List ℕ) → length title ≤ b.title → fresh_card b title ≡ record { refusal = 0; card = fresh b title }
unfolding fresh_card fresh_by first_holding
fresh-with-its-title b title h = rw (within (b.title <? length title) refl) refl
  where
    within : (c : Bool) → (b.title <? length title) ≡ c → c ≡ false
    within true e = absurd (omega (arith, ltb-true b.title (length title) e))
    within false e = refl

-- .. and with a title too long it is refused with 12, and is a fresh card with an empty title.
pub fresh-refused-is-fresh : (b : Bounds) (title : List ℕ) → b.title < length title → fresh_card b title ≡ record { refusal = 12; card = fresh b [] }
unfolding fresh_card fresh_by first_holding
fresh-refused-is-fresh b title h = rw (lt-ltb b.title (length title) h) refl

-- No call changes the title.
title-kept : (x : Model) (c : Call) → (step x c).after.desk.title ≡ x.desk.title
unfolding step outcome changed
title-kept x c = go (refusal x c)
  where
    go : (k : ℕ) → (outcome k x c).after.desk.title ≡ x.desk.title
    go zero = (marked-lasts x.tables (tables_after x c) (desk_after x c)).title ∙ (desk-lasts x c).title
    go (suc k) = refl

-- THE TITLE is the one that the card was made with, after any calls.
pub title-is-the-one-given : (title : List ℕ) (calls : List Call) → (m title calls).desk.title ≡ (fresh_card document title).card.desk.title
unfolding card_after
title-is-the-one-given title [] = refl
title-is-the-one-given title (c ∷ calls) = title-kept (m title calls) c ∙ title-is-the-one-given title calls

profile-after : (x : Model) (h : History) (c : Call) → x.desk.profile ≡ profile_named h → (desk_after x c).profile ≡ profile_named (did c (answer x c) ∷ h)
unfolding desk_after arrival_desk proactive_desk with_profile with_handed_out with_first profile_named profile_bytes reading
profile-after x h (admin c) e = e
profile-after x h (event c) e = e
profile-after x h (entry c) e = e
profile-after x h (timer c) e = e
profile-after x h (arrival (envelope bytes)) e = e
profile-after x h (arrival (profile bytes)) e = refl
profile-after x h (arrival status) e = e
profile-after x h (arrival settled) e = e
profile-after x h next e = e
profile-after x h (proactive (send n bytes)) e = e
profile-after x h (proactive response) e = e
profile-after x h (system_command buffer) e = go (due_matters x.desk.due) ∙ e
  where
    go : (l : List Matter) → (with_first x.desk l).profile ≡ x.desk.profile
    go [] = refl
    go (y ∷ l) = refl

profile-call : (x : Model) (h : History) (c : Call) (k : ℕ) → x.desk.profile ≡ profile_named (accepted h)
    → (outcome k x c).after.desk.profile ≡ profile_named (accepted (did c (outcome k x c).answer ∷ h))
unfolding outcome changed
profile-call x h c zero e =
    marks-leave (λ d. d.profile) (λ d y. refl) x.tables (tables_after x c) (desk_after x c)
    ∙ profile-after x (accepted h) c e
    ∙ sym (ap profile_named (accepted-more c (answer x c) h (plain x c)))
profile-call x h c (suc k) e = e ∙ sym (ap profile_named (accepted-same c k h))

profile-fresh : (k : ℕ) (title : List ℕ) → (fresh_by k document title).card.desk.profile ≡ replicate 32 0
unfolding fresh_by
profile-fresh zero title = refl
profile-fresh (suc k) title = refl

-- THE PROFILE is the last accepted one's first 32 bytes, with zeros behind, after any calls.
pub profile-is-the-last-one : (title : List ℕ) (calls : List Call) → (m title calls).desk.profile ≡ profile_named (past title calls)
unfolding card_after history_of step fresh_card accepted keep profile_named
profile-is-the-last-one title [] = profile-fresh _ title
profile-is-the-last-one title (c ∷ calls) = profile-call (m title calls) (history_of title calls) c _ (profile-is-the-last-one title calls)
