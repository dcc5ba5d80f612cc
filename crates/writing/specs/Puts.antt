-- What a writer asks of a place in a lent buffer, and what it leaves there.
use Rattle.std.specs.Prelude.{ℕ, List, ◌≡◌, ◌+◌, ◌≤◌, length}
use Rattle.lists.specs.Wrote.{Wrote}
use Rattle.writing.specs.declared.Out.{Out}

-- n bytes more have room
abbrev pub Room : Out → ℕ → Type 0
Room o n = o.at + n ≤ length o.buf.now

-- s was written, and p is the place behind it in the same buffer
pub record Puts (o : Out) (s : List ℕ) (p : Out) : Type 0 where
  pub same : p.buf.ghost_name ≡ o.buf.ghost_name
  pub wrote : Wrote o.buf.now o.at s p.buf.now p.at
