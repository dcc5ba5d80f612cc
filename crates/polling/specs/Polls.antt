-- The requests for poll intervals as a table by applet number: who requests one, the system interval, and what of polling is due.
use Rattle.std.specs.Prelude.{ℕ, suc, Bool, not, ◌&&◌, List, [], ◌∷◌, get_or}
use Rattle.std.specs.Prelude.{if◌then◌else◌, ◌==◌}
use Rattle.lists.specs.Lists.{keep, smallest}
use Rattle.lists.specs.Tables.{table}
use Rattle.sets.specs.Sets.{has?, set_of}
use Rattle.applets.specs.ByNumber.{by_number}
use Rattle.polling.specs.declared.Polling.{Polling}

-- the set of those whose request is not none
unfoldable pub polling_set : (polls : List ℕ) → ℕ
polling_set polls = set_of (λ n. not (by_number 0 polls n == 0))

-- the system interval, where those of a set are the selectable ones: the smallest request that is not none; 0 where there is none
unfoldable pub interval_of : (polls : List ℕ) (set : ℕ) → ℕ
interval_of polls set = smallest (keep (λ s. not (s == 0)) (table 8 (λ i. if has? set (suc i) then get_or polls i 0 else 0)))

-- of two intervals the shorter; 0 is none
abbrev pub shorter_of : (one other : ℕ) → ℕ
shorter_of one other = smallest (keep (λ s. not (s == 0)) (one ∷ other ∷ []))

-- what of polling is due after a call, by the interval before and after it: in a session a change marks POLL INTERVAL or POLLING OFF,
-- and the other not
abbrev pub polling_after : (session interval off : Bool) (before after : ℕ) → Polling
polling_after session interval off before after =
    if session && not (before == after)
    then record { interval = not (after == 0); off = after == 0 }
    else record { interval = interval; off = off }
