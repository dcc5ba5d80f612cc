-- EVERY CARD THAT A FRESH CARD AND CALLS HAVE LEFT IS SOUND: a fresh card is, and every call keeps it so.
-- Assumes nothing.
use Prim.Native.Nat.{ℕ, zero, suc, ◌≤◌}
use native.Mathlib.Omega.{arith}
use mathlib.Core.Path.{◌≡◌, refl, sym, ap, ◌∙◌}
use mathlib.Core.Bool.{Bool, true, false}
use mathlib.Core.Logic.{inl}
use mathlib.Core.List.{List, [], ◌∷◌}
use lib.ListN.{length, take, length-take, length-replicate}
use borrow.Author.Tests.{ltb-false, ne_eqb}
use Rattle.lists.specs.Tests.{◌<?◌}
use Rattle.std.specs.Prelude.{if◌then◌else◌, ◌==◌}
use Rattle.lists.specs.Lists.{Every, some?, first, count, sum, gather}
use Rattle.lists.proofs.Every.{every-replicate}
use Rattle.lists.proofs.Counts.{count-replicate}
use Rattle.lists.proofs.Padded.{length-padded}
use Rattle.rules.specs.Holds.{Bounds, Tables, Desk, Model, document, fresh}
use Rattle.rules.specs.Applets.{present, applet}
use Rattle.rules.specs.Desk.{Matter, due_after, marked, with_marks, with_profile, due_matters, with_first, with_handed_out}
use Rattle.rules.specs.Calls.{Call, admin, event, entry, timer, arrival, next, proactive, system_command, envelope, profile, status, settled, send, response}
use Rattle.rules.specs.Refusals.{line, first_holding, refusal}
use Rattle.rules.specs.Step.{tables_after, arrival_desk, proactive_desk, desk_after, changed, outcome, step}
use Rattle.rules.specs.Beside.{fresh_by, fresh_card}
use Rattle.rules.specs.Runs.{card_after}
use Rattle.rules.proofs.Bounds.{step_keeps}
use Rattle.runs.specs.Sound.{SoundTables, NobodyOrPresent, Sound, requests}
use Rattle.runs.proofs.Accepted.{lowest-none}
use Rattle.runs.proofs.Altered.{admin-sound, entry-sound}
use Rattle.runs.proofs.Registered.{event-sound, turn-sound}
use Rattle.runs.proofs.Timed.{timer-sound}
use Rattle.runs.proofs.Waiting.{none-sound, round-sound}

-- A fresh card.
fresh-tables : (b : Bounds) → b.rows ≤ 128 → (title : List ℕ) → SoundTables (fresh b title).tables
unfolding Every count sum gather present applet some? first requests
fresh-tables b few title =
    record {
      few-applets = omega arith;
      each-applet = tt;
      numbers_apart = λ n. omega arith;
      total = omega arith;
      room = few;
      requests-apart = λ i. omega arith;
      few-rows = omega arith;
      each_row = tt;
      identifiers-apart = λ i. omega arith;
      rows_made = λ n. refl;
      all-timers = length-replicate b.timers 0;
      each-timer = every-replicate (NobodyOrPresent (fresh b title).tables) b.timers 0 (inl refl);
      timer-limits = λ n h. omega (arith, count-replicate (λ o. o == n) b.timers 0 (ne_eqb 0 n (λ z. omega arith)));
      control = inl refl;
    }

fresh-with : (b : Bounds) → b.rows ≤ 128 → (title : List ℕ) → length title ≤ b.title → Sound (fresh b title)
fresh-with b few title h = record { tables = fresh-tables b few title; round = none-sound b; title = h; profile = length-replicate {A = ℕ} 32 0 }

pub fresh-sound : (b : Bounds) → b.rows ≤ 128 → (title : List ℕ) → Sound (fresh_card b title).card
unfolding fresh_card fresh_by Every
fresh-sound b few title = go (first_holding (line 12 (b.title <? length title) ∷ [])) refl
  where
    go : (n : ℕ) → first_holding (line 12 (b.title <? length title) ∷ []) ≡ n → Sound (fresh_by n b title).card
    go zero e = fresh-with b few title (ltb-false b.title (length title) (lowest-none (line 12 (b.title <? length title) ∷ []) (omega arith, tt) e).0)
    go (suc n) e = fresh-with b few [] (omega arith)

-- The tables after an accepted call.
tables-sound : (m : Model) (c : Call) → refusal m c ≡ 0 → SoundTables m.tables → SoundTables (tables_after m c)
unfolding tables_after
tables-sound m (admin c) e g = admin-sound m c e g
tables-sound m (event c) e g = event-sound m c e g
tables-sound m (entry c) e g = entry-sound m c e g
tables-sound m (timer c) e g = timer-sound m c e g
tables-sound m (arrival c) e g = g
tables-sound m next e g = turn-sound m.round.arrived _ m.tables g
tables-sound m (proactive c) e g = g
tables-sound m (system_command buffer) e g = g

-- The desk: no call changes the title, and a profile has its 32 bytes.
pub record Lasting (d e : Desk) : Type 0 where
  pub title : e.title ≡ d.title
  pub profile : length d.profile ≡ 32 → length e.profile ≡ 32

lasts : (d : Desk) → Lasting d d
lasts d = record { title = refl; profile = λ h. h }

handed-lasts : (d : Desk) → Lasting d (with_handed_out d)
unfolding with_handed_out with_first
handed-lasts d = go (due_matters d.due)
  where
    go : (l : List Matter) → Lasting d (with_first d l)
    go [] = lasts d
    go (x ∷ l) = record { title = refl; profile = λ h. h }

pub desk-lasts : (m : Model) (c : Call) → Lasting m.desk (desk_after m c)
unfolding desk_after arrival_desk proactive_desk with_profile
desk-lasts m (admin c) = lasts m.desk
desk-lasts m (event c) = lasts m.desk
desk-lasts m (entry c) = lasts m.desk
desk-lasts m (timer c) = lasts m.desk
desk-lasts m (arrival (envelope bytes)) = lasts m.desk
desk-lasts m (arrival (profile bytes)) =
    record { title = refl; profile = λ h. length-padded 32 0 (take 32 bytes) (omega (arith, length-take 32 bytes)) }
desk-lasts m (arrival status) = lasts m.desk
desk-lasts m (arrival settled) = lasts m.desk
desk-lasts m next = lasts m.desk
desk-lasts m (proactive (send n bytes)) = record { title = refl; profile = λ h. h }
desk-lasts m (proactive response) = record { title = refl; profile = λ h. h }
desk-lasts m (system_command buffer) = handed-lasts m.desk

pub marked-lasts : (before later : Tables) (d : Desk) → Lasting d (marked before later d)
unfolding marked
marked-lasts before later d = go d.session
  where
    go : (s : Bool) → Lasting d (if s then with_marks d d.outstanding (due_after before later d.due) else d)
    go true = record { title = refl; profile = λ h. h }
    go false = lasts d

-- One call.
changed-sound : (m : Model) (c : Call) → refusal m c ≡ 0 → Sound m → Sound (changed m c)
unfolding changed outcome step
changed-sound m c e s =
    let kept : (tables_after m c).bounds ≡ m.tables.bounds = sym (ap (λ (n : ℕ). (outcome n m c).after.tables.bounds) e) ∙ step_keeps m c in
    let d = desk-lasts m c in
    let k = marked-lasts m.tables (tables_after m c) (desk_after m c) in
    record {
      tables = tables-sound m c e s.tables;
      round = rw kept (round-sound m c s.round);
      title = rw (k.title, d.title, kept) s.title;
      profile = k.profile (d.profile s.profile);
    }

pub step-sound : (m : Model) (c : Call) → Sound m → Sound (step m c).after
unfolding step outcome
step-sound m c s = go (refusal m c) refl
  where
    go : (n : ℕ) → refusal m c ≡ n → Sound (outcome n m c).after
    go zero e = changed-sound m c e s
    go (suc n) e = s

-- Any calls, on a card of any bounds, and on the card of document 01.
pub after-sound : (b : Bounds) → b.rows ≤ 128 → (title : List ℕ) (calls : List Call) → Sound (card_after b title calls)
unfolding card_after
after-sound b few title [] = fresh-sound b few title
after-sound b few title (c ∷ calls) = step-sound (card_after b title calls) c (after-sound b few title calls)

pub run_sound : (title : List ℕ) (calls : List Call) → Sound (card_after document title calls)
run_sound title calls = after-sound document (omega arith) title calls
