-- The answer to an arrival, and the desk after a profile.
use Rattle.std.specs.Prelude.{ℕ, ◌≡◌, false, List}
use Rattle.std.specs.Prelude.{if◌then◌else◌, ◌==◌}
use Rattle.rules.specs.declared.Answer.{Answer}
use Rattle.rules.specs.declared.Desk as held
use Rattle.rules.specs.declared.Due.{Due}
use Rattle.rules.specs.declared.Marks.{Marks}
use Rattle.rules.specs.Holds.{Tables, Desk}
use Rattle.rules.specs.Arrivals.{no_marks}
use Rattle.rules.specs.Desk.{due_at_first, with_profile}
use Rattle.rules.specs.Held.{stored_desk}

-- the refusal's number and the marks, of which there are none with a refusal
abbrev pub answering : (refusal : ℕ) → Marks → Answer
answering r marks = record { refusal = r; number = 0; says = false; called = 0; marks = if r == 0 then marks else no_marks }

-- r is the desk k after a profile, on every card where what is due is what is not empty
abbrev pub Begins : (bytes : List ℕ) → Due → (k r : held.Desk) → Type 0
Begins bytes due k r = (t : Tables) (d : Desk) → due ≡ due_at_first t → k ≡ stored_desk d → r ≡ stored_desk (with_profile t bytes d)
