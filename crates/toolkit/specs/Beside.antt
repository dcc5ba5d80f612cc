-- What a caller in C gets of the calls beside the card.
use Rattle.std.specs.Prelude.{ℕ, ◌≡◌, true, false, List, Option, Some, None}
use Rattle.rules.specs.declared.Span.{Span}
use Rattle.rules.specs.Holds.{document}
use Rattle.rules.specs.Bytes.{found}
use Rattle.rules.specs.Envelopes.{content_at}
use Rattle.rules.specs.Beside.{FreshOutcome, fresh_card}
use Rattle.card.specs.View.{stored}
use Rattle.toolkit.specs.declared.Made.{Made}
use Rattle.toolkit.specs.declared.Spot.{Spot}

-- a fresh card and its refusal
unfoldable pub made_of : FreshOutcome → Made
made_of o = record { card = stored o.card; refusal = o.refusal }

-- where something was found; nowhere, an empty part
unfoldable pub spot_of : Option Span → Spot
spot_of (Some span) = record { start = span.start; len = span.len; there = true }
spot_of None = record { start = 0; len = 0; there = false }

-- The contracts of the doors: a fresh card with a title; an element of a run; the content of an envelope
abbrev pub Makes : (title : List ℕ) → Made → Type 0
Makes title made = made ≡ made_of (fresh_card document title)

abbrev pub Finds : (run : List ℕ) (tag occurrence : ℕ) → Spot → Type 0
Finds run tag occurrence spot = spot ≡ spot_of (found run tag occurrence)

abbrev pub FindsContent : (envelope : List ℕ) → Spot → Type 0
FindsContent envelope spot = spot ≡ spot_of (content_at envelope)
