-- The refusal of send, by what its bytes say.
-- Assumes nothing.
use Prim.Native.Nat.{ℕ}
use mathlib.Core.Path.{◌≡◌, refl}
use mathlib.Core.Bool.{Bool, false, not}
use mathlib.Core.List.{List, [], ◌∷◌}
use Rattle.std.specs.Prelude.{◌==◌, Result, Ok, Err}
use Rattle.rules.specs.declared.Command.{Command}
use Rattle.rules.specs.declared.Command.TheVariants.{Plain, Timer}
use Rattle.rules.specs.declared.Malformed.{Malformed}
use Rattle.rules.specs.Holds.{Tables}
use Rattle.rules.specs.Envelopes.{system_type}
use Rattle.rules.specs.Timers.{owner_of, not_its_timer}
use Rattle.rules.specs.Refusals.{line, first_holding, foreign_timer}
use Rattle.refusals.specs.Lines.{send_refusal}

module _ (t : Tables) (n : ℕ) (there outstanding : Bool) (k : Result Command Malformed) where
  pub send-plain
      : (r type : ℕ) (system : Bool) {c : Command}
      → k ≡ Ok c
      → c ≡ Plain type
      → system ≡ system_type (Ok (Plain type))
      → r ≡ first_holding (line 2 (not there) ∷ line 15 false ∷ line 16 outstanding ∷ line 17 system ∷ [])
      → r ≡ send_refusal t n there outstanding k
  unfolding send_refusal first_holding foreign_timer
  send-plain r type system p i q e = rw (p, i, ← q) e

  pub send-timer
      : (r timer owner : ℕ) (owners : List ℕ) {c : Command}
      → k ≡ Ok c
      → c ≡ Timer timer
      → t.timers ≡ owners
      → owner ≡ owner_of owners timer
      → r ≡ first_holding (line 2 (not there) ∷ line 15 (not (owner == n)) ∷ line 16 outstanding ∷ line 17 false ∷ [])
      → r ≡ send_refusal t n there outstanding k
  unfolding send_refusal first_holding foreign_timer system_type not_its_timer
  send-timer r timer owner owners p i h q e = rw (p, i, h, ← q) e

  pub send-malformed : {e : Malformed} → k ≡ Err e → 1 ≡ send_refusal t n there outstanding k
  unfolding send_refusal first_holding
  send-malformed p = rw p refl
