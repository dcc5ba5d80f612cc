-- `admission::granted` meets its contract. By its two calls.
-- Assumes nothing.
use mathlib.Core.Path.{refl}
use Rattle.rules.specs.Applets.{newcomer}
use Rattle.applets.specs.ByNumber.{grant_of}
use Rattle.admission.proofs.granted.Goals as goal

pub returns : goal.returns
unfolding grant_of newcomer
returns c = λ n. rw (c.pair_count-entries.ensures.0, c.looked_at-pairs.ensures) refl
