-- The structs of src/ as the rules see them. A list stands in an array with its count beside it and zeros behind it, so that
-- each content has exactly one form: `view_row` and its like read a struct, `stored_row` and its like give the one that holds it.
use Rattle.std.specs.Prelude.{◌≤◌, ◌≡◌, false, List, [], map, length, take, get_or}
use Rattle.std.specs.Prelude.{if◌then◌else◌, ◌==◌}
use Rattle.lists.specs.Lists.{padded}
use Rattle.rules.specs.declared.Row as held-row
use Rattle.rules.specs.declared.Desk as held-desk
use Rattle.rules.specs.declared.Item as held-item
use Rattle.rules.specs.declared.Menu as held-menu
use Rattle.rules.specs.declared.Answer as held-answer
use Rattle.rules.specs.declared.Arrived.{Arrived}
use Rattle.rules.specs.declared.Rows.{Rows}
use Rattle.rules.specs.Holds.{Row, Desk, document, Arrival, event, choice, help, expiry, status, nothing}
use Rattle.rules.specs.Commands.{Item}
use Rattle.rules.specs.Calls.{Answer}
use Rattle.rules.specs.Beside.{ReadOutcome}

unfoldable pub view_row : held-row.Row → Row
view_row r =
    record { identifier = r.identifier; owner = r.owner; text = take r.len r.text; help = r.help; enabled = r.enabled }

unfoldable pub stored_row : Row → held-row.Row
stored_row r =
    record {
      identifier = r.identifier;
      owner = r.owner;
      help = r.help;
      enabled = r.enabled;
      text = padded document.text 0 r.text;
      len = length r.text;
    }

abbrev pub no_row : Row
no_row = record { identifier = 0; owner = 0; text = []; help = false; enabled = false }

-- the menu list
unfoldable pub view_rows : Rows → List Row
view_rows s = map view_row (take s.count s.at)

unfoldable pub stored_rows : List Row → Rows
stored_rows l = record { at = padded document.rows (stored_row no_row) (map stored_row l); count = length l }

-- the table stands in its one form
pub record TidyRows (s : Rows) : Type 0 where
  pub few : s.count ≤ document.rows
  pub form : s ≡ stored_rows (view_rows s)

unfoldable pub view_desk : held-desk.Desk → Desk
view_desk d =
    record {
      title = take d.title_len d.title;
      profile = d.profile;
      session = d.session;
      outstanding = d.outstanding;
      due = d.due;
    }

unfoldable pub stored_desk : Desk → held-desk.Desk
stored_desk d =
    record {
      due = d.due;
      session = d.session;
      outstanding = d.outstanding;
      title_len = length d.title;
      title = padded document.title 0 d.title;
      profile = d.profile;
    }

-- what arrived, by its kind and a number
unfoldable pub view_arrival : Arrived → Arrival
view_arrival a =
    if a.kind == 1 then event a.number else
    if a.kind == 2 then choice a.number else
    if a.kind == 3 then help a.number else
    if a.kind == 4 then expiry a.number else
    if a.kind == 5 then status else nothing

unfoldable pub stored_arrival : Arrival → Arrived
stored_arrival (event e) = record { kind = 1; number = e }
stored_arrival (choice i) = record { kind = 2; number = i }
stored_arrival (help i) = record { kind = 3; number = i }
stored_arrival (expiry k) = record { kind = 4; number = k }
stored_arrival status = record { kind = 5; number = 0 }
stored_arrival nothing = record { kind = 0; number = 0 }

-- the same for what the menu reader hands back
unfoldable pub stored_item : Item → held-item.Item
stored_item i = record { identifier = i.identifier; text = padded document.text 0 i.text; len = length i.text }

unfoldable pub stored_menu : ReadOutcome → held-menu.Menu
stored_menu o =
    record {
      refusal = o.refusal;
      title = padded document.title 0 o.menu.title;
      title_len = length o.menu.title;
      help = o.menu.help;
      at = padded document.rows (stored_item (record { identifier = 0; text = [] })) (map stored_item o.menu.items);
      count = length o.menu.items;
    }

-- an answer; 0 where nobody is called
unfoldable pub stored_answer : Answer → held-answer.Answer
stored_answer a =
    record {
      refusal = a.refusal;
      number = a.number;
      says = a.says;
      called = get_or a.called 0 0;
      marks = a.marks;
    }
