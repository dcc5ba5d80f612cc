-- Annex D of 000, "Menu order example": each of its tables, by the texts. The terminal is handed every command before the next step.
-- Assumes nothing.
use Prim.Native.Nat.{ℕ}
use Prim.Native.String.{String}
use mathlib.Core.Path.{◌≡◌, refl}
use mathlib.Core.Bool.{false}
use mathlib.Core.List.{List, [], ◌∷◌, ◌++◌, map}
use lib.ListN.{replicate, take}
use Rattle.lists.specs.Text.{ascii, bytes}
use Rattle.rules.specs.Holds.{Row, document}
use Rattle.rules.specs.Calls.{Call, Outcome, admin, entry, arrival, proactive, system_command}
use Rattle.rules.specs.Calls.{delete, lock, unlock, new_entry, profile, response}
use Rattle.rules.specs.Step.{step}
use Rattle.rules.specs.Commands.{Item}
use Rattle.rules.specs.Beside.{menu_reader}
use Rattle.rules.specs.Cases.{left_by, installing, pair}
use Rattle.rules.proofs.Compute.{compute}

abbrev hand_out : Call
hand_out = system_command (replicate 256 0)

-- the texts of the menu list, and of the SET UP MENU command that is handed out, read back
abbrev listed : List Call → List (List ℕ)
listed l = map (λ (r : Row). r.text) (left_by l).tables.rows

abbrev items_of : Outcome → List (List ℕ)
items_of o = map (λ (i : Item). i.text) (menu_reader document (take o.answer.number o.buffer)).menu.items

abbrev commanded : List Call → List (List ℕ)
commanded l = items_of (step (left_by l) hand_out)

-- a table of the annex: after these calls its column of names is the menu list, and its last column the command
abbrev Shows : List Call → (names command : List String) → Type 0
Shows l names command = (listed l ≡ map ascii names) × (commanded l ≡ map ascii command)

-- the command is handed out and answered, and further calls follow
abbrev then : List Call → List Call → List Call
then l more = l ++ hand_out ∷ proactive response ∷ more

-- an applet is installed with an entry at a position, and makes it
abbrev comes : (applet position : ℕ) → String → List Call
comes n p name = installing n 0 1 15 (pair p 0 ∷ []) ∷ entry (new_entry n false (ascii name)) ∷ []

abbrev d1 : List Call
d1 = arrival (profile (bytes "FF")) ∷ []

-- Legacy1 is an applet of its own, since D.8 locks it alone; Legacy2, 3 and 4 are entries of another.
abbrev d2 : List Call
d2 =
    then d1
    (comes 1 0 "Legacy1"
    ++ installing 2 0 3 15 (pair 0 0 ∷ pair 0 0 ∷ pair 0 0 ∷ [])
    ∷ entry (new_entry 2 false (ascii "Legacy2"))
    ∷ entry (new_entry 2 false (ascii "Legacy3"))
    ∷ entry (new_entry 2 false (ascii "Legacy4"))
    ∷ [])

abbrev d3 : List Call
d3 = then d2 (comes 3 3 "A")

abbrev d4 : List Call
d4 = then d3 (comes 4 3 "B")

abbrev d5-1 : List Call
d5-1 = then d4 (installing 5 0 2 15 (pair 2 0 ∷ pair 3 0 ∷ []) ∷ entry (new_entry 5 false (ascii "C1")) ∷ [])

abbrev d5-2 : List Call
d5-2 = then d5-1 (entry (new_entry 5 false (ascii "C2")) ∷ [])

abbrev d6 : List Call
d6 = then d5-2 (comes 6 0 "D")

abbrev d7 : List Call
d7 = then d6 (comes 7 20 "E")

abbrev d8 : List Call
d8 = then d7 (admin (lock 1) ∷ admin (lock 3) ∷ [])

abbrev d9 : List Call
d9 = then d8 (admin (unlock 1) ∷ admin (unlock 3) ∷ [])

abbrev d10 : List Call
d10 = then d9 (admin (delete 3) ∷ [])

abbrev first-eight : List String
first-eight = "Legacy1" ∷ "C1" ∷ "C2" ∷ "Legacy2" ∷ "B" ∷ "A" ∷ "Legacy3" ∷ "Legacy4" ∷ []

abbrev all-ten : List String
all-ten = first-eight ++ "D" ∷ "E" ∷ []

abbrev both : List Call → List String → Type 0
both l names = Shows l names names

pub record AnnexD : Type 0 where
  pub D1 : both d1 []
  pub D2 : both d2 ("Legacy1" ∷ "Legacy2" ∷ "Legacy3" ∷ "Legacy4" ∷ [])
  pub D3 : both d3 ("Legacy1" ∷ "Legacy2" ∷ "A" ∷ "Legacy3" ∷ "Legacy4" ∷ [])
  pub D4 : both d4 ("Legacy1" ∷ "Legacy2" ∷ "B" ∷ "A" ∷ "Legacy3" ∷ "Legacy4" ∷ [])
  pub D5-1 : both d5-1 ("Legacy1" ∷ "C1" ∷ "Legacy2" ∷ "B" ∷ "A" ∷ "Legacy3" ∷ "Legacy4" ∷ [])
  pub D5-2 : both d5-2 first-eight
  pub D6 : both d6 (first-eight ++ "D" ∷ [])
  pub D7 : both d7 all-ten
  pub D8 : Shows d8 all-ten ("C1" ∷ "C2" ∷ "Legacy2" ∷ "B" ∷ "Legacy3" ∷ "Legacy4" ∷ "D" ∷ "E" ∷ [])
  pub D9 : both d9 all-ten
  pub D10 : both d10 ("Legacy1" ∷ "C1" ∷ "C2" ∷ "Legacy2" ∷ "B" ∷ "Legacy3" ∷ "Legacy4" ∷ "D" ∷ "E" ∷ [])

pub annex-d : AnnexD
unfolding compute
annex-d =
    record {
      D1 = (refl, refl);
      D2 = (refl, refl);
      D3 = (refl, refl);
      D4 = (refl, refl);
      D5-1 = (refl, refl);
      D5-2 = (refl, refl);
      D6 = (refl, refl);
      D7 = (refl, refl);
      D8 = (refl, refl);
      D9 = (refl, refl);
      D10 = (refl, refl);
    }
