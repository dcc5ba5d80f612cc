-- An accepted call: no line of the refusal table that lists it holds, and what that says of the calls that fill a table.
-- Assumes nothing.
use Prim.Native.Nat.{ℕ, ◌<◌}
use native.Mathlib.Omega.{arith}
use mathlib.Core.Path.{◌≡◌, refl}
use mathlib.Core.Bool.{Bool, true, false, ◌&&◌}
use mathlib.Core.List.{List, [], ◌∷◌}
use borrow.Author.Tests.{ltb-true}
use Rattle.lists.specs.Tests.{◌<?◌}
use Rattle.std.specs.Prelude.{if◌then◌else◌}
use Rattle.lists.specs.Lists.{Every}
use Rattle.lists.proofs.Decided.{both}
use Rattle.lists.proofs.Every.{every-so}
use Rattle.rules.specs.Holds.{Model}
use Rattle.rules.specs.Calls.{Call, admin, event, entry, timer, arrival, next, proactive, system_command}
use Rattle.rules.specs.Calls.{install, delete, lock, unlock, set_event, clear_event, ask_event, request_poll, new_entry, change_entry, enable_entry, disable_entry, allocate, release, envelope, profile, status, settled, send, response}
use Rattle.rules.specs.Refusals.{Line, first_holding, lines, admin_lines, event_lines, entry_lines, timer_lines, arrival_lines, proactive_lines, refusal}

-- where no number is given, no line holds
pub lowest-none : (l : List Line) → Every (λ (x : Line). 0 < x.number) l → first_holding l ≡ 0 → Every (λ (x : Line). x.holds ≡ false) l
unfolding Every first_holding
lowest-none [] h e = tt
lowest-none (x ∷ l) h e = go x.holds refl e (lowest-none l h.1)
  where
    go : (b : Bool) → x.holds ≡ b → (if b then x.number else first_holding l) ≡ 0 → (first_holding l ≡ 0 → Every (λ (x : Line). x.holds ≡ false) l) → (x.holds ≡ false) × Every (λ (x : Line). x.holds ≡ false) l
    go true p r f = absurd (omega (arith, h.0))
    go false p r f = (p, f r)

-- the lines that list a call stand in the order of their numbers, from 1 on
unfoldable pub lines_rise : (above : ℕ) → List Line → Bool
lines_rise n [] = true
lines_rise n (x ∷ l) = n <? x.number && lines_rise x.number l

pub lines-rise : (m : Model) (x : Call) → lines_rise 0 (lines m x) ≡ true
unfolding lines_rise lines admin_lines event_lines entry_lines timer_lines arrival_lines proactive_lines
lines-rise m (admin (install n r)) = refl
lines-rise m (admin (delete n)) = refl
lines-rise m (admin (lock n)) = refl
lines-rise m (admin (unlock n)) = refl
lines-rise m (event (set_event n v)) = refl
lines-rise m (event (clear_event n v)) = refl
lines-rise m (event (ask_event n v)) = refl
lines-rise m (event (request_poll n d)) = refl
lines-rise m (entry (new_entry n h t)) = refl
lines-rise m (entry (change_entry n i h t)) = refl
lines-rise m (entry (enable_entry n i)) = refl
lines-rise m (entry (disable_entry n i)) = refl
lines-rise m (timer (allocate n)) = refl
lines-rise m (timer (release n k)) = refl
lines-rise m (arrival (envelope s)) = refl
lines-rise m (arrival (profile s)) = refl
lines-rise m (arrival status) = refl
lines-rise m (arrival settled) = refl
lines-rise m next = refl
lines-rise m (proactive (send n s)) = refl
lines-rise m (proactive response) = refl
lines-rise m (system_command b) = refl

pub lines-above : (n : ℕ) (l : List Line) → lines_rise n l ≡ true → Every (λ (x : Line). n < x.number) l
unfolding lines_rise Every
lines-above n [] e = tt
lines-above n (x ∷ l) e =
    let h = both (n <? x.number) (lines_rise x.number l) e in
    let p : n < x.number = ltb-true n x.number h.0 in
    (p, every-so (λ (y : Line). x.number < y.number) (λ (y : Line). n < y.number) (λ y q. omega arith) l (lines-above x.number l h.1))

-- an accepted call: none of its lines holds
pub accepted : (m : Model) (c : Call) → refusal m c ≡ 0 → Every (λ (x : Line). x.holds ≡ false) (lines m c)
unfolding refusal
accepted m c e = lowest-none (lines m c) (lines-above 0 (lines m c) (lines-rise m c)) e
