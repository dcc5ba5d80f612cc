-- A history: calls with their answers, the newest first, refused ones included.
use Rattle.std.specs.Prelude.{Bool, true, false, List, [], ◌∷◌}
use Rattle.std.specs.Prelude.{if◌then◌else◌, ◌==◌}
use Rattle.lists.specs.Lists.{keep}
use Rattle.rules.specs.Calls.{Call, Answer}

-- a call and its answer
pub record Entry : Type 0 where
  pub call : Call
  pub answer : Answer

abbrev pub did : Call → Answer → Entry
did c a = record { call = c; answer = a }

abbrev pub History : Type 0
History = List Entry

-- the history of accepted calls
unfoldable pub accepted : History → History
accepted h = keep (λ (e : Entry). e.answer.refusal == 0) h

-- This was done, and that not since.
unfoldable pub stands : (done undone : Entry → Bool) → History → Bool
stands done undone [] = false
stands done undone (e ∷ h) = if undone e then false else if done e then true else stands done undone h
