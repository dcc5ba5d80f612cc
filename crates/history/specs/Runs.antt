-- The history of a run: each call with the answer that the rules give it.
use Rattle.std.specs.Prelude.{ℕ, List, [], ◌∷◌}
use Rattle.rules.specs.Holds.{document}
use Rattle.rules.specs.Calls.{Call}
use Rattle.rules.specs.Step.{step}
use Rattle.rules.specs.Runs.{card_after}
use Rattle.history.specs.Histories.{did, History}

-- the history of calls on a fresh card with this title; the newest call stands first
unfoldable pub history_of : (title : List ℕ) → List Call → History
history_of title [] = []
history_of title (c ∷ calls) = did c (step (card_after document title calls) c).answer ∷ history_of title calls
