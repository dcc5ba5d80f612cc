-- A card that the doors for C have left, with their calls as a caller in C saw them; and the calls that records of the floor program make.
use Rattle.std.specs.Prelude.{ℕ, zero, suc, ◌≡◌, List, [], ◌∷◌, take, drop}
use Rattle.std.specs.Prelude.{if◌then◌else◌}
use Rattle.lists.specs.Lists.{empty?}
use Rattle.rules.specs.declared.Answer.{Answer}
use Rattle.rules.specs.Calls.{Call}
use Rattle.rules.specs.Floor.{Order, call, no_call, order_of}
use Rattle.card.specs.declared.Card.{Card}
use Rattle.history.specs.Histories.{did}
use Rattle.history.specs.Handed.{Seen}
use Rattle.toolkit.specs.declared.Made.{Made}
use Rattle.toolkit.specs.Does.{Does}
use Rattle.toolkit.specs.Beside.{Makes}
use Rattle.promises.specs.Watched.{leaving, on_paper, calls_of, Watched}

-- A FRESH CARD FROM ITS DOOR, and then any calls through theirs; `Makes` and `Does` are the contracts of the doors
pub data Doored (title : List ℕ) : List Seen → Card → Type 0 where
  made : (m : Made) → Makes title m → Doored title [] m.card
  more : {l : List Seen} {c k : Card} (x : Call) (a : Answer) (buffer : List ℕ) → Does c x k a buffer → Doored title l c → Doored title (leaving (did x (on_paper a)) buffer ∷ l) k

-- the calls with the one that a record makes, if it makes one, and with those that all records of some bytes make, by at most so many; the newest first
unfoldable pub with_order : Order → List Call → List Call
with_order (call x) calls = x ∷ calls
with_order no_call calls = calls

unfoldable pub with_records : (most : ℕ) → List ℕ → List Call → List Call
with_records zero s calls = calls
with_records (suc n) s calls = if empty? s then calls else with_records n (drop 24 s) (with_order (order_of (take 24 s)) calls)

-- the public functions have left this card by these calls
pub record WatchedBy (title : List ℕ) (calls : List Call) (c : Card) : Type 0 where
  pub seen : List Seen
  pub watched : Watched title seen c
  pub made : calls_of seen ≡ calls
