-- The round as the card holds it: what arrived by its kind and number, and those who wait as a set.
use Rattle.std.specs.Prelude.{ℕ, false}
use Rattle.lists.specs.Lists.{keep, in?}
use Rattle.sets.specs.Sets.{has?, set_of, switched_set}
use Rattle.rules.specs.declared.Round as held
use Rattle.rules.specs.Holds.{Round, document}
use Rattle.rules.specs.Applets.{numbers}
use Rattle.rules.specs.Held.{view_arrival, stored_arrival}

unfoldable pub view_round : held.Round → Round
view_round r = record { is_open = r.«open»; arrived = view_arrival r.arrived; waiting = keep (has? r.waiting) (numbers document) }

unfoldable pub stored_round : Round → held.Round
stored_round r = record { «open» = r.is_open; arrived = stored_arrival r.arrived; waiting = set_of (λ n. in? n r.waiting) }

-- a number leaves it
abbrev pub leaving : held.Round → (number : ℕ) → held.Round
leaving r n = record { «open» = r.«open»; arrived = r.arrived; waiting = switched_set r.waiting n false }
