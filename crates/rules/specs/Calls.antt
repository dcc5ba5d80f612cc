-- The public calls of the card with their raw inputs, and what they answer.
use Rattle.std.specs.Prelude.{ℕ, Bool, false, List, [], ℤ, Result, Ok, Err}
use Rattle.rules.specs.declared.refused.Refused.{Refused}
use Rattle.rules.specs.declared.Request.{Request}
use Rattle.rules.specs.declared.Marks.{Marks}
use Rattle.rules.specs.Holds.{Model}
use Rattle.rules.specs.Arrivals.{no_marks}
use Rattle.rules.specs.Numbers.{number_of}

-- The calls, by what they touch. An applet is any number, an event value and a duration any signed number, bytes any bytes.
pub data AdminCall : Type 0 where
  install : (applet : ℕ) → Request → AdminCall
  delete lock unlock : (applet : ℕ) → AdminCall

pub data EventCall : Type 0 where
  set_event clear_event ask_event : (applet : ℕ) (value : ℤ) → EventCall
  request_poll : (applet : ℕ) (duration : ℤ) → EventCall

pub data EntryCall : Type 0 where
  new_entry : (applet : ℕ) (help : Bool) (text : List ℕ) → EntryCall
  change_entry : (applet identifier : ℕ) (help : Bool) (text : List ℕ) → EntryCall
  enable_entry disable_entry : (applet identifier : ℕ) → EntryCall

pub data TimerCall : Type 0 where
  allocate : (applet : ℕ) → TimerCall
  release : (applet timer : ℕ) → TimerCall

pub data ArrivalCall : Type 0 where
  envelope profile : (bytes : List ℕ) → ArrivalCall
  status settled : ArrivalCall

pub data ProactiveCall : Type 0 where
  send : (applet : ℕ) (bytes : List ℕ) → ProactiveCall
  response : ProactiveCall

pub data Call : Type 0 where
  admin : AdminCall → Call
  event : EventCall → Call
  entry : EntryCall → Call
  timer : TimerCall → Call
  arrival : ArrivalCall → Call
  next : Call
  proactive : ProactiveCall → Call
  system_command : (buffer : List ℕ) → Call

-- An answer: the refusal's number (0: accepted), a number (an identifier, a timer, or the length of a command), a yes or no,
-- the list of the applet called, of one or none, and the marks.
pub record Answer : Type 0 where
  pub refusal : ℕ
  pub number : ℕ
  pub says : Bool
  pub called : List ℕ
  pub marks : Marks

-- A call's outcome: the card afterwards, the answer, and what stands in the lent buffer (empty where none is lent).
pub record Outcome : Type 0 where
  pub after : Model
  pub answer : Answer
  pub buffer : List ℕ

-- an answer that names nobody
abbrev pub plainly : (refusal number : ℕ) (says : Bool) → Answer
plainly r n says = record { refusal = r; number = n; says = says; called = []; marks = no_marks }

-- a refusal's number and no other answer
abbrev pub refused_with : ℕ → Answer
refused_with r = plainly r 0 false

-- accepted, with nothing to tell; with a number; with a yes or no
abbrev pub accepted : Answer
accepted = plainly 0 0 false

abbrev pub numbered : ℕ → Answer
numbered n = plainly 0 n false

abbrev pub saying : Bool → Answer
saying b = plainly 0 0 b

-- accepted, with the marks; with the one called
abbrev pub marking : Marks → Answer
marking marks = record { refusal = 0; number = 0; says = false; called = []; marks = marks }

abbrev pub calling : List ℕ → Answer
calling l = record { refusal = 0; number = 0; says = false; called = l; marks = no_marks }

-- the answer with what an accepted call gives, or the refusal
unfoldable pub answer_with : {A : Type 0} → (A → Answer) → Result A Refused → Answer
answer_with told (Ok given) = told given
answer_with told (Err refusal) = refused_with (number_of refusal)
