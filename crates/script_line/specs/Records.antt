-- What the functions that fill a record promise; and a record that the floor program takes: document 01's rule for a record that makes a call.
use Rattle.std.specs.Prelude.{ℕ, ◌+◌, ◌≤◌, ◌≡◌, Bool, true, false, Option, Some, None, Result, Ok, Err, List, length, get_or, take, drop}
use Rattle.script_line.specs.Lines.{Said, Place, bytes_from, record_of, lettered, Meaning, form_of}
use Rattle.script_line.specs.declared.Cause.{Cause}
use Rattle.script_line.specs.declared.Kind.{Kind}
use Rattle.script_line.specs.declared.Kind.TheVariants.{Install, Entry, Event, Nothing}
use Rattle.script_line.specs.declared.Form.{Form}
use Rattle.script_line.specs.declared.Form.TheVariants.{Applet, Bytes, Alone}

-- n argument bytes, the first being b, are what a letter of this kind takes
abbrev pub Fills : Kind → ℕ → ℕ → Type 0
Fills Install n b = n ≡ 12
Fills Entry n b = (1 ≤ n) × (b ≤ 1)
Fills Event n b = n ≡ 2
Fills Nothing n b = n ≡ 0

-- the same of any letter, with the applet's number
abbrev pub Suits : Option Form → ℕ → ℕ → ℕ → Type 0
Suits (Some (Applet kind)) applet n b = Fills kind n b
Suits (Some Bytes) applet n b = applet ≡ 0
Suits (Some Alone) applet n b = (applet ≡ 0) × (n ≡ 0)
Suits None applet n b = ⊥

-- a record that the floor program takes
pub record Taken (s : List ℕ) : Type 0 where
  pub long : length s ≡ 24
  pub few : get_or s 2 0 ≤ 20
  pub suits : Suits (form_of (get_or s 0 0)) (get_or s 1 0) (get_or s 2 0) (get_or s 3 0)
  pub rest : (k : ℕ) → get_or s 2 0 + 3 ≤ k → get_or s k 0 ≡ 0

-- the first n bytes of a room are what was said, and those behind them are as they were
pub record Held (x : Said) (n : ℕ) (before after : List ℕ) : Type 0 where
  pub few : n ≤ length before
  pub said : x ≡ Ok (take n after)
  pub kept : drop n after ≡ drop n before

-- the same, where more is said by what is left of a line
pub record HeldSoFar (x : Said) (place : Place) (left : List ℕ) (n : ℕ) (before after : List ℕ) : Type 0 where
  pub few : n ≤ length before
  pub on : x ≡ bytes_from (length before) (take n after) place left
  pub kept : drop n after ≡ drop n before

-- the same of all that follows a letter, whichever it is
pub record Followed (form : Form) (left : List ℕ) (applet n : ℕ) (before after : List ℕ) : Type 0 where
  pub few : n ≤ length before
  pub means : (letter : ℕ) → lettered (Some form) letter left ≡ Ok (Some (record_of letter applet (take n after)))
  pub kept : drop n after ≡ drop n before

-- what an answer and the 24 bytes say
abbrev pub heard : Result Bool Cause → List ℕ → Meaning
heard (Ok true) s = Ok (Some s)
heard (Ok false) s = Ok None
heard (Err c) s = Err c
