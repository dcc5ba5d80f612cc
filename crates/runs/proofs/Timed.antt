-- The timer calls keep the tables sound.
-- Assumes nothing.
use native.Mathlib.Omega.{arith}
use mathlib.Core.Path.{◌≡◌, refl}
use mathlib.Core.Logic.{inl, inr}
use Rattle.rules.specs.Holds.{Model}
use Rattle.rules.specs.Timers.{with_allocated, with_released}
use Rattle.rules.specs.Calls.{TimerCall, timer, allocate, release}
use Rattle.rules.specs.Refusals.{refusal}
use Rattle.rules.specs.Step.{timer_tables}
use Rattle.runs.specs.Sound.{SoundTables}
use Rattle.runs.proofs.Filled.{allocates}
use Rattle.runs.proofs.Frames.{timer-frame}

pub timer-sound : (m : Model) (c : TimerCall) → refusal m (timer c) ≡ 0 → SoundTables m.tables → SoundTables (timer_tables m.tables c)
unfolding timer_tables with_allocated with_released
timer-sound m (allocate n) e g = let a = allocates m n e in timer-frame m.tables _ n (inr a.here) (λ h. a.under) g
timer-sound m (release n k) e g = timer-frame m.tables _ 0 (inl refl) (λ h. absurd (omega arith)) g
