-- Each refusal is the one that the rules give the call, where the applet was looked up and the tables are the card's.
-- Assumes nothing.
use Prim.Native.Nat.{ℕ, ◌≤◌}
use native.Mathlib.Omega.{arith}
use mathlib.Core.Path.{◌≡◌, refl, sym, ◌∙◌}
use mathlib.Core.Bool.{Bool, true, false, not}
use mathlib.Core.List.{List, [], ◌∷◌}
use lib.ListN.{length}
use borrow.Author.Tests.{ltb-false}
use Rattle.lists.specs.Tests.{◌≤?◌, ◌<?◌}
use Rattle.std.specs.Prelude.{if◌then◌else◌, Result}
use Rattle.lists.proofs.Truth.{not-not}
use Rattle.rules.specs.declared.Malformed.{Malformed}
use Rattle.rules.specs.declared.Command.{Command}
use Rattle.rules.specs.declared.Kind.{Kind}
use Rattle.rules.specs.declared.Kind.TheVariants.{Event, Issuer, Reserved, Unsupported}
use Rattle.rules.specs.Holds.{Tables, Model}
use Rattle.rules.specs.Events.{not_supported, not_to_set}
use Rattle.rules.specs.Envelopes.{command_of}
use Rattle.rules.specs.Applets.{applet}
use Rattle.rules.specs.Rows.{all_made, bad_text, not_its_row}
use Rattle.rules.specs.Calls.{EntryCall, entry, new_entry, change_entry, enable_entry, disable_entry, proactive, send}
use Rattle.rules.specs.Refusals.{Line, line, first_holding, lines, absent, entry_lines, proactive_lines, refusal}
use Rattle.events.specs.Place.{place_of}
use Rattle.refusals.specs.Lines.{unfit_text, send_refusal}

-- enable and disable
abbrev pub turning : Bool → (applet identifier : ℕ) → EntryCall
turning on n i = if on then enable_entry n i else disable_entry n i

turn_lines : (m : Model) (n i : ℕ) (on : Bool) → refusal m (entry (turning on n i)) ≡ first_holding (line 2 (absent m.tables n) ∷ line 11 (not_its_row n i m.tables.rows) ∷ [])
unfolding refusal lines entry_lines
turn_lines m n i true = refl
turn_lines m n i false = refl

-- the refusal of set, clear and ask event, with what line comes last
abbrev pub event_refusal : Bool → Kind → List Line → ℕ
event_refusal there k l = first_holding (line 2 (not there) ∷ line 7 (not_supported k) ∷ line 8 (not_to_set k) ∷ l)

-- where it is none, the applet is there and the value names an event
pub event-known : (there : Bool) (k : Kind) (l : List Line) → event_refusal there k l ≡ 0 → (there ≡ true) × (k ≡ Event (place_of k))
unfolding first_holding not_supported place_of
event-known true (Event e) l h = (refl, refl)
event-known true Issuer l h = absurd (omega arith)
event-known true Reserved l h = absurd (omega arith)
event-known true Unsupported l h = absurd (omega arith)
event-known false k l h = absurd (omega arith)

-- what is granted where nothing is refused: a short title, and room in the buffer
unlined : (k : ℕ) (b : Bool) → (k ≡ 0 → ⊥) → (if b then k else 0) ≡ 0 → b ≡ false
unlined k true z h = absurd (z h)
unlined k false z h = refl

pub title-short : (n : ℕ) {r : ℕ} → r ≡ first_holding (line 12 (20 <? n) ∷ []) → r ≡ 0 → n ≤ 20
unfolding first_holding
title-short n e z = ltb-false 20 n (unlined 12 (20 <? n) (λ h. absurd (omega arith)) (sym e ∙ z))

pub hand-room : (outstanding : Bool) (n : ℕ) {r : ℕ} → r ≡ first_holding (line 16 outstanding ∷ line 18 (n <? 256) ∷ []) → r ≡ 0 → 256 ≤ n
unfolding first_holding
hand-room true n e z = absurd (omega arith)
hand-room false n e z = ltb-false n 256 (unlined 18 (n <? 256) (λ h. absurd (omega arith)) (sym e ∙ z))

module _ (m : Model) (n : ℕ) {there : Bool} (found : there ≡ not (absent m.tables n)) where
  abbrev t : Tables
  t = m.tables

  -- new, change, enable, disable entry
  pub new-refusal
      : (help : Bool) (text : List ℕ) {entries made limit r : ℕ} {fits : Bool}
      → entries ≡ length (applet t n).limits.pairs
      → made ≡ (applet t n).made
      → limit ≡ (applet t n).limits.text
      → fits ≡ not (unfit_text limit text)
      → r ≡ first_holding (line 2 (not there) ∷ line 10 (entries ≤? made) ∷ line 12 (not fits) ∷ [])
      → r ≡ refusal m (entry (new_entry n help text))
  unfolding refusal lines entry_lines all_made bad_text
  new-refusal help text p q s f e = e ∙ rw (found, ← not-not (absent t n), p, q, f, ← not-not (unfit_text _ text), s) refl

  pub change-refusal
      : (i : ℕ) (help : Bool) (text : List ℕ) {limit r : ℕ} {its fits : Bool}
      → its ≡ not (not_its_row n i t.rows)
      → limit ≡ (applet t n).limits.text
      → fits ≡ not (unfit_text limit text)
      → r ≡ first_holding (line 2 (not there) ∷ line 11 (not its) ∷ line 12 (not fits) ∷ [])
      → r ≡ refusal m (entry (change_entry n i help text))
  unfolding refusal lines entry_lines bad_text
  change-refusal i help text o s f e = e ∙ rw (found, ← not-not (absent t n), o, ← not-not (not_its_row n i t.rows), f, ← not-not (unfit_text _ text), s) refl

  pub turn-refusal : (i : ℕ) (on : Bool) {its : Bool} {r : ℕ} → its ≡ not (not_its_row n i t.rows) → r ≡ first_holding (line 2 (not there) ∷ line 11 (not its) ∷ []) → r ≡ refusal m (entry (turning on n i))
  turn-refusal i on o e = e ∙ rw (found, ← not-not (absent t n), o, ← not-not (not_its_row n i t.rows)) refl ∙ sym (turn_lines m n i on)

  -- send
  pub send-is : (bytes : List ℕ) {k : Result Command Malformed} {r : ℕ} → k ≡ command_of bytes → r ≡ send_refusal t n there m.desk.outstanding k → r ≡ refusal m (proactive (send n bytes))
  unfolding send_refusal refusal lines proactive_lines
  send-is bytes says e = e ∙ rw (found, ← not-not (absent t n), says) refl
