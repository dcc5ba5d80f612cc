-- Lines of the table, by what was looked up.
use Rattle.std.specs.Prelude.{ℕ, Bool, not, ◌||◌, List, [], ◌∷◌, length}
use Rattle.lists.specs.Tests.{◌<?◌}
use Rattle.std.specs.Prelude.{◌==◌, Result}
use Rattle.rules.specs.declared.Malformed.{Malformed}
use Rattle.rules.specs.declared.Command.{Command}
use Rattle.rules.specs.Holds.{Tables}
use Rattle.rules.specs.Envelopes.{bad_command, system_type}
use Rattle.rules.specs.Refusals.{line, first_holding, foreign_timer}

-- refusal 12, by the applet's limit
abbrev pub unfit_text : (limit : ℕ) (text : List ℕ) → Bool
unfit_text limit text = length text == 0 || limit <? length text

-- the refusal of send, by what its bytes say and whether the applet is there and a command outstanding
unfoldable pub send_refusal : Tables → (applet : ℕ) (there outstanding : Bool) → Result Command Malformed → ℕ
send_refusal t n there outstanding k =
    first_holding (line 1 (bad_command k) ∷ line 2 (not there) ∷ line 15 (foreign_timer t n k) ∷ line 16 outstanding ∷ line 17 (system_type k) ∷ [])
