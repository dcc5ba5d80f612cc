-- One hand-out, and the response to it: when it is accepted, what it writes and what is due afterwards.
-- Assumes nothing.
use Prim.Native.Nat.{ℕ, ◌≤◌}
use native.Mathlib.Omega.{arith}
use mathlib.Core.Path.{◌≡◌, refl, ap, ◌∙◌}
use mathlib.Core.Bool.{Bool, true, false, not, ◌&&◌, false≢true}
use mathlib.Core.List.{List, [], ◌∷◌}
use lib.ListN.{length, drop, length-drop}
use lib.Seq.{take-append_seam}
use borrow.Author.Tests.{le-ltb}
use Rattle.std.specs.Prelude.{if◌then◌else◌}
use Rattle.lists.specs.Lists.{Every, keep, empty?}
use Rattle.lists.proofs.Decided.{clashing}
use Rattle.rules.specs.declared.Due.{Due}
use Rattle.rules.specs.Holds.{Desk, Model, nothing_due}
use Rattle.rules.specs.Desk.{with_outstanding, is_due, handed_out, due_matters, due_command, with_first, with_handed_out}
use Rattle.rules.specs.Calls.{Outcome, proactive, system_command, response}
use Rattle.rules.specs.Refusals.{first_holding, proactive_lines, lines, refusal}
use Rattle.rules.specs.Step.{proactive_desk, desk_after, tables_after, round_after, changed, answer, front, written, outcome, step}
use Rattle.rules.proofs.DueMarks.{marked-same, first-handed}
use Rattle.history.specs.Handed.{seen, handed}
use Rattle.history.specs.OnScreen.{left_due, command, hand_outs}

-- POLL INTERVAL and POLLING OFF are not both due
abbrev NeverBoth : Due → Type 0
NeverBoth d = (d.interval && d.off) ≡ false

-- handing out clears its mark, and leaves the rest due; what leaves nothing to hand out is nothing due
clears-first : (d : Desk) → NeverBoth d.due → (with_handed_out d).due ≡ left_due d.due
unfolding with_handed_out with_first handed_out due_matters keep is_due
clears-first d = go d.due.menu d.due.events d.due.interval d.due.off refl refl refl refl
  where
    go : (m e i o : Bool) → d.due.menu ≡ m → d.due.events ≡ e → d.due.interval ≡ i → d.due.off ≡ o → (i && o) ≡ false → (with_handed_out d).due ≡ left_due d.due
    go true e i o p q r s n = rw p refl
    go false true i o p q r s n = rw (p, q) refl
    go false false true true p q r s n = clashing refl n
    go false false true false p q r s n = rw (p, q, r, s) refl
    go false false false true p q r s n = rw (p, q, r, s) refl
    go false false false false p q r s n = rw (p, q, r, s) refl

rest-due : (d : Due) → NeverBoth d → due_matters (left_due d) ≡ drop 1 (due_matters d)
unfolding due_matters keep is_due
rest-due d = go d.menu d.events d.interval d.off refl refl refl refl
  where
    go : (m e i o : Bool) → d.menu ≡ m → d.events ≡ e → d.interval ≡ i → d.off ≡ o → (i && o) ≡ false → due_matters (left_due d) ≡ drop 1 (due_matters d)
    go true e i o p q r s n = rw (p, q, r, s) refl
    go false true i o p q r s n = rw (p, q, r, s) refl
    go false false true true p q r s n = clashing refl n
    go false false true false p q r s n = rw (p, q, r, s) refl
    go false false false true p q r s n = rw (p, q, r, s) refl
    go false false false false p q r s n = rw (p, q, r, s) refl

left-never-both : (d : Due) → NeverBoth d → NeverBoth (left_due d)
left-never-both d n = go d.menu d.events
  where
    go : (m e : Bool) → NeverBoth (if m then record { menu = false; events = d.events; interval = d.interval; off = d.off } else if e then record { menu = false; events = false; interval = d.interval; off = d.off } else nothing_due)
    go true e = n
    go false true = n
    go false false = refl

none-due : (d : Due) → due_matters d ≡ [] → d ≡ nothing_due
unfolding due_matters keep is_due empty?
none-due d e = go d.menu d.events d.interval d.off refl refl refl refl
  where
    go : (m v i o : Bool) → d.menu ≡ m → d.events ≡ v → d.interval ≡ i → d.off ≡ o → d ≡ nothing_due
    go true v i o p q r s = absurd (false≢true (rw p at (ap empty? e)))
    go false true i o p q r s = absurd (false≢true (rw (p, q) at (ap empty? e)))
    go false false true o p q r s = absurd (false≢true (rw (p, q, r) at (ap empty? e)))
    go false false false true p q r s = absurd (false≢true (rw (p, q, r, s) at (ap empty? e)))
    go false false false false p q r s = rw (p, q, r, s) refl

module _ (m : Model) (buffer : List ℕ) where
  -- it is accepted if nothing is outstanding and the buffer has room
  pub taken : m.desk.outstanding ≡ false → 256 ≤ length buffer → refusal m (system_command buffer) ≡ 0
  unfolding refusal lines first_holding
  taken idle room = rw (idle, le-ltb (length buffer) 256 room) refl

  module _ (ok : refusal m (system_command buffer) ≡ 0) where
    hands_out : step m (system_command buffer) ≡ outcome 0 m (system_command buffer)
    unfolding step
    hands_out = ap (λ (n : ℕ). outcome n m (system_command buffer)) ok

    -- it hands out the command that is due ..
    pub handed-due : command m buffer ≡ due_command m.tables m.desk
    unfolding handed outcome answer written front
    handed-due =
        ap (λ (o : Outcome). handed (seen (system_command buffer) o)) hands_out
        ∙ take-append_seam (due_command m.tables m.desk) _

    -- .. nothing due leaves the card ..
    pub nothing-due : m.desk.due ≡ nothing_due → (step m (system_command buffer)).after ≡ m
    unfolding outcome changed tables_after round_after desk_after
    nothing-due e =
        ap (λ (o : Outcome). o.after) hands_out
        ∙ ap (λ (d : Desk). record { tables = m.tables; desk = d; round = m.round }) (marked-same m.tables (with_handed_out m.desk) ∙ first-handed m.desk ∙ rw e refl)

    -- .. and its mark is cleared
    pub due-left : NeverBoth m.desk.due → (step m (system_command buffer)).after.desk.due ≡ left_due m.desk.due
    unfolding outcome changed tables_after desk_after
    due-left n =
        ap (λ (o : Outcome). o.after.desk.due) hands_out
        ∙ ap (λ (d : Desk). d.due) (marked-same m.tables (with_handed_out m.desk))
        ∙ clears-first m.desk n

-- a response, accepted or not, leaves nothing outstanding, and due what was due
pub responded : (m : Model)
    → ((step m (proactive response)).after.desk.outstanding ≡ false) × ((step m (proactive response)).after.desk.due ≡ m.desk.due)
unfolding step refusal lines proactive_lines first_holding
responded m = go m.desk.outstanding refl
  where
    go : (b : Bool) → m.desk.outstanding ≡ b
        → ((outcome (if not b then 19 else 0) m (proactive response)).after.desk.outstanding ≡ false) × ((outcome (if not b then 19 else 0) m (proactive response)).after.desk.due ≡ m.desk.due)
    go true e = unfold outcome changed tables_after desk_after proactive_desk in (ap (λ (d : Desk). d.outstanding) (marked-same m.tables (with_outstanding false m.desk)), ap (λ (d : Desk). d.due) (marked-same m.tables (with_outstanding false m.desk)))
    go false e = unfold outcome in (e, refl)

-- as many as matters are due, each followed by its response, leave nothing due
pub mended : (m : Model) (buffers : List (List ℕ)) → NeverBoth m.desk.due → m.desk.outstanding ≡ false → Every (λ (b : List ℕ). 256 ≤ length b) buffers
    → length (due_matters m.desk.due) ≤ length buffers → (hand_outs buffers m).desk.due ≡ nothing_due
unfolding hand_outs Every
mended m [] n idle room few = none-due m.desk.due (none (due_matters m.desk.due) few)
  where
    none : {A : Type 0} (l : List A) → length l ≤ 0 → l ≡ []
    none [] h = refl
    none (x ∷ l) h = absurd (omega arith)
mended m (b ∷ l) n idle (fits, room) few =
    let x = (step m (system_command b)).after in
    let after : (step x (proactive response)).after.desk.due ≡ left_due m.desk.due = (responded x).1 ∙ due-left m b (taken m b idle fits) n in
    let left : due_matters (step x (proactive response)).after.desk.due ≡ drop 1 (due_matters m.desk.due) = ap due_matters after ∙ rest-due m.desk.due n in
    mended (step x (proactive response)).after l (rw after (left-never-both m.desk.due n)) (responded x).0 room (omega (arith, ap length left, length-drop 1 (due_matters m.desk.due)))
