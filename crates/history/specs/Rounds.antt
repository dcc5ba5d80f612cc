-- What an entry of a history says was done in a round: an arrival opens one; a next names an applet, or nobody.
use Rattle.std.specs.Prelude.{ℕ, Bool, true, false, ◌&&◌, ◌||◌}
use Rattle.lists.specs.Lists.{empty?, in?}
use Rattle.rules.specs.Calls.{Call, admin, event, entry, timer, arrival, next, proactive, system_command}
use Rattle.rules.specs.Calls.{ArrivalCall, envelope, profile, status, settled}
use Rattle.history.specs.Histories.{Entry}
use Rattle.history.specs.Deeds.{of_arrival, deletes}

-- An arrival opens a round, a settled moment too.
unfoldable pub opens : Entry → Bool
opens e = of_arrival false (λ c. true) e.call

unfoldable pub is_settled : ArrivalCall → Bool
is_settled (envelope bytes) = false
is_settled (profile bytes) = false
is_settled status = false
is_settled settled = true

unfoldable pub settles : Entry → Bool
settles e = of_arrival false is_settled e.call

-- A next gives a turn: it names applet n, or finds nobody.
unfoldable pub is_next : Call → Bool
is_next (admin c) = false
is_next (event c) = false
is_next (entry c) = false
is_next (timer c) = false
is_next (arrival c) = false
is_next next = true
is_next (proactive c) = false
is_next (system_command buffer) = false

unfoldable pub is_turn : Entry → Bool
is_turn e = is_next e.call

unfoldable pub names : (applet : ℕ) → Entry → Bool
names n e = is_turn e && in? n e.answer.called

unfoldable pub finds_nobody : Entry → Bool
finds_nobody e = is_turn e && empty? e.answer.called

-- Applet n leaves the round: it is named, or deleted.
unfoldable pub leaves : (applet : ℕ) → Entry → Bool
leaves n e = names n e || deletes n e
