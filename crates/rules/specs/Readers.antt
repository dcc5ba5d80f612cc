-- What the readers promise of the bytes that they are given: the contracts of finding an element, of the handler's content, and of reading envelopes, commands and menus.
use Rattle.std.specs.Prelude.{ℕ, ◌≡◌, Bool, List, Option, Result}
use Rattle.rules.specs.declared.Malformed.{Malformed}
use Rattle.rules.specs.declared.Span.{Span}
use Rattle.rules.specs.declared.Envelope.{Envelope}
use Rattle.rules.specs.declared.Command.{Command}
use Rattle.rules.specs.declared.Menu.{Menu}
use Rattle.rules.specs.Holds.{document}
use Rattle.rules.specs.Bytes.{found, is_found, part_of}
use Rattle.rules.specs.Envelopes.{envelope_of, content_at, content_of, command_of}
use Rattle.rules.specs.Beside.{menu_reader}
use Rattle.rules.specs.Held.{stored_menu}

-- where the value of an element stands, its bytes, and whether there is one
abbrev pub Locates : (run : List ℕ) (tag occurrence : ℕ) → Option Span → Type 0
Locates run tag occurrence place = place ≡ found run tag occurrence

abbrev pub GivesValue : (run : List ℕ) (tag occurrence : ℕ) → (part : List ℕ) → Type 0
GivesValue run tag occurrence part = part ≡ part_of run (found run tag occurrence)

abbrev pub TellsOf : (run : List ℕ) (tag occurrence : ℕ) → Bool → Type 0
TellsOf run tag occurrence told = told ≡ is_found (found run tag occurrence)

-- where the handler's content stands, and its bytes
abbrev pub LocatesContent : (envelope : List ℕ) → Option Span → Type 0
LocatesContent envelope place = place ≡ content_at envelope

abbrev pub GivesContent : (envelope : List ℕ) → (part : List ℕ) → Type 0
GivesContent envelope part = part ≡ content_of envelope

-- what an envelope, a command and a menu command say
abbrev pub ReadsEnvelope : (bytes : List ℕ) → Result Envelope Malformed → Type 0
ReadsEnvelope bytes e = e ≡ envelope_of bytes

abbrev pub ReadsCommand : (bytes : List ℕ) → Result Command Malformed → Type 0
ReadsCommand bytes c = c ≡ command_of bytes

abbrev pub ReadsMenu : (bytes : List ℕ) → Menu → Type 0
ReadsMenu bytes menu = menu ≡ stored_menu (menu_reader document bytes)
