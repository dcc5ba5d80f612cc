-- What the card holds (document 01, "What the card holds").
use Rattle.std.specs.Prelude.{ℕ, suc, Bool, false, List, [], replicate, set}
use Rattle.rules.specs.declared.Pair.{Pair}
use Rattle.rules.specs.declared.Due.{Due}

-- What an applet may have: its limits, as it was installed with them.
pub record Limits : Type 0 where
  pub timers : ℕ  -- 0 to 8
  pub text : ℕ  -- the length of a text, 0 to 15
  pub pairs : List Pair  -- for each entry of its limit, 0 to 4: the requested position, 0 to 255, and identifier, 0 to 127

-- An applet.
pub record Applet : Type 0 where
  pub number : ℕ  -- 1 to 8
  pub priority : ℕ  -- 1 to 255
  pub limits : Limits
  pub made : ℕ  -- how many of its entries are made
  pub selectable : Bool  -- or locked
  pub events : List Bool  -- whether it is registered, by the event's place; call control is not kept here
  pub poll : ℕ  -- the poll interval that it requests, in seconds; 0 is none

-- A row of the menu list.
pub record Row : Type 0 where
  pub identifier : ℕ
  pub owner : ℕ
  pub text : List ℕ
  pub help : Bool
  pub enabled : Bool

-- How much a card holds; fixed when it is made.
pub record Bounds : Type 0 where
  pub applets : ℕ
  pub rows : ℕ
  pub timers : ℕ
  pub entries : ℕ  -- the largest entry limit
  pub text : ℕ  -- the largest text limit
  pub title : ℕ

-- the bounds of document 01
abbrev pub document : Bounds
document = record { applets = 8; rows = 12; timers = 8; entries = 4; text = 15; title = 20 }

-- The tables: what the history of accepted calls names.
pub record Tables : Type 0 where
  pub bounds : Bounds
  pub applets : List Applet  -- those present, in order of installation
  pub rows : List Row  -- the menu list
  pub timers : List ℕ  -- the owner of each timer; 0 is free
  pub control : ℕ  -- the owner of call control; 0 is nobody

-- What arrives: an event, a menu choice, a request for help on a row, the end of a timer, a STATUS, or nothing that anybody registers for.
pub data Arrival : Type 0 where
  event : (place : ℕ) → Arrival
  choice : (identifier : ℕ) → Arrival
  help : (identifier : ℕ) → Arrival
  expiry : (timer : ℕ) → Arrival
  status : Arrival
  nothing : Arrival

-- The round: what arrived last, while its applets get their turns (document 02, Ask 2).
pub record Round : Type 0 where
  pub is_open : Bool
  pub arrived : Arrival
  pub waiting : List ℕ  -- the numbers, ascending, of those who were registered on arrival and are neither named nor deleted since

-- The desk: what lies between the card and the terminal.
pub record Desk : Type 0 where
  pub title : List ℕ  -- the menu title
  pub profile : List ℕ  -- the first 32 bytes of the terminal profile
  pub session : Bool  -- a CAT session has begun
  pub outstanding : Bool  -- a proactive command is outstanding
  pub due : Due  -- the due marks: menu, event list, and one of POLL INTERVAL and POLLING OFF

-- THE CARD.
pub record Model : Type 0 where
  pub tables : Tables
  pub desk : Desk
  pub round : Round

abbrev pub nothing_due : Due
nothing_due = record { menu = false; events = false; interval = false; off = false }

abbrev pub no_round : Round
no_round = record { is_open = false; arrived = nothing; waiting = [] }

-- a card with this title on which no call was made
abbrev pub fresh : Bounds → List ℕ → Model
fresh b title =
    record {
      tables = record { bounds = b; applets = []; rows = []; timers = replicate b.timers 0; control = 0 };
      desk = record { title = title; profile = replicate 32 0; session = false; outstanding = false; due = nothing_due };
      round = no_round;
    }

-- Copies with one part changed.
abbrev pub with_applets : Tables → List Applet → Tables
with_applets t x = record { bounds = t.bounds; applets = x; rows = t.rows; timers = t.timers; control = t.control }

abbrev pub with_rows : Tables → List Row → Tables
with_rows t x = record { bounds = t.bounds; applets = t.applets; rows = x; timers = t.timers; control = t.control }

abbrev pub with_timers : Tables → List ℕ → Tables
with_timers t x = record { bounds = t.bounds; applets = t.applets; rows = t.rows; timers = x; control = t.control }

abbrev pub with_control : Tables → ℕ → Tables
with_control t x = record { bounds = t.bounds; applets = t.applets; rows = t.rows; timers = t.timers; control = x }

abbrev pub with_state : Applet → (made : ℕ) (selectable : Bool) (events : List Bool) (poll : ℕ) → Applet
with_state x made selectable events poll =
    record {
      number = x.number;
      priority = x.priority;
      limits = x.limits;
      made = made;
      selectable = selectable;
      events = events;
      poll = poll;
    }

abbrev pub with_one_more : Applet → Applet
with_one_more x = with_state x (suc x.made) x.selectable x.events x.poll

abbrev pub with_selectable : Bool → Applet → Applet
with_selectable b x = with_state x x.made b x.events x.poll

abbrev pub with_event : (event : ℕ) → Bool → Applet → Applet
with_event e b x = with_state x x.made x.selectable (set x.events e b) x.poll

abbrev pub with_poll : (seconds : ℕ) → Applet → Applet
with_poll s x = with_state x x.made x.selectable x.events s
