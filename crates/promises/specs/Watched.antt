-- A card that the public functions have left, with their calls as they were seen: each with the answer that the method gave, as
-- document 01 puts it, and with what it left in the buffer lent to it.
use Rattle.std.specs.Prelude.{ℕ, List, [], ◌∷◌, map}
use Rattle.std.specs.Prelude.{if◌then◌else◌, ◌==◌}
use Rattle.rules.specs.declared.Answer as held
use Rattle.rules.specs.Calls.{Answer, Call}
use Rattle.card.specs.declared.Card.{Card}
use Rattle.card.specs.declared.Reply.{Reply}
use Rattle.card.specs.Replies.{Replies, Fills, MakesFresh}
use Rattle.history.specs.Histories.{Entry, did, History}
use Rattle.history.specs.Handed.{Seen}

-- seen with this left in the buffer
abbrev pub leaving : Entry → (buffer : List ℕ) → Seen
leaving e b = record { entry = e; buffer = b }

-- the calls that were seen, and their history
abbrev pub entries_of : List Seen → History
entries_of l = map (λ (s : Seen). s.entry) l

abbrev pub calls_of : List Seen → List Call
calls_of l = map (λ (s : Seen). s.entry.call) l

-- the call that was seen, the number of its refusal (0: accepted), and the one that it called, if any
abbrev pub call_of : Seen → Call
call_of s = s.entry.call

abbrev pub refusal_of : Seen → ℕ
refusal_of s = s.entry.answer.refusal

abbrev pub called_by : Seen → List ℕ
called_by s = s.entry.answer.called

-- the answer that the struct holds, as document 01 puts it; 0 stands for nobody
unfoldable pub on_paper : held.Answer → Answer
on_paper a =
    record {
      refusal = a.refusal;
      number = a.number;
      says = a.says;
      called = if a.called == 0 then [] else a.called ∷ [];
      marks = a.marks;
    }

-- ONE CALL ON A CARD: as it is seen, and the card that its method hands back. `Replies` and `Fills` are the contract of the method.
pub data Next (c : Card) : Seen → Card → Type 0 where
  call : (x : Call) (r : Reply) (buffer : List ℕ) → Replies c x r → Fills c x buffer → Next c (leaving (did x (on_paper r.answer)) buffer) r.card

-- A FRESH CARD, and then any calls, each on the card that the one before handed back; the newest call stands first.
pub data Watched (title : List ℕ) : List Seen → Card → Type 0 where
  made : (r : Reply) → MakesFresh title r → Watched title [] r.card
  more : {l : List Seen} {c k : Card} {s : Seen} → Next c s k → Watched title l c → Watched title (s ∷ l) k
