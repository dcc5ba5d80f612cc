-- The look-backs on examples, by computation: an order form with equal titles, a release, a delete, rounds with one-shots, a screen, polling.
-- Assumes nothing.
use Prim.Native.Nat.{ℕ}
use mathlib.Core.Path.{◌≡◌, refl, ap}
use mathlib.Core.Bool.{true, false}
use mathlib.Core.List.{List, [], ◌∷◌, map}
use lib.IntN.{pos}
use lib.ListN.{replicate}
use Rattle.lists.specs.Text.{ascii, bytes}
use Rattle.lists.proofs.Decided.{clashing}
use Rattle.rules.specs.Holds.{Row, document}
use Rattle.rules.specs.Commands.{Item}
use Rattle.rules.specs.Runs.{card_after}
use Rattle.rules.specs.Desk.{menu, event_list, poll_interval, polling_off, due_matters}
use Rattle.rules.specs.Calls.{Call, admin, event, entry, timer, arrival, next, proactive, system_command, lock, unlock, delete, set_event, request_poll, new_entry, change_entry, disable_entry, allocate, release, profile, settled, response}
use Rattle.rules.proofs.Compute.{compute}
use Rattle.rules.specs.Cases.{plain}
use Rattle.history.specs.Histories.{accepted}
use Rattle.history.specs.Rounds.{is_next}
use Rattle.history.specs.Named.{has_one_shot, timer_owner, rows_named}
use Rattle.history.specs.Called.{is_open, gets_turn}
use Rattle.history.specs.Named as named'
use Rattle.history.specs.Called as called'
use Rattle.history.specs.Runs.{history_of}
use Rattle.history.specs.Handed.{seen_of, handed_since, screen, codes_handed, last_polling, interval_named}
use Rattle.history.specs.Handed as handed'
use Rattle.history.proofs.Open.{reading}
use Rattle.history.proofs.Promises.{past}
use Rattle.history.proofs.OneShot.{Each, FiresOnce, one-shot-fires-exactly-once}

-- a new entry of applet n with a title
abbrev titled : ℕ → List ℕ → Call
titled n title = entry (new_entry n false title)

-- six entries, three titled Pick list and three Crate label; the newest call stands first
abbrev order_form : List Call
order_form =
    titled 2 (ascii "Crate label")
    ∷ titled 2 (ascii "Crate label")
    ∷ titled 2 (ascii "Crate label")
    ∷ titled 1 (ascii "Pick list")
    ∷ titled 1 (ascii "Pick list")
    ∷ titled 1 (ascii "Pick list")
    ∷ plain 2 0 3
    ∷ plain 1 2 3
    ∷ []

abbrev identifiers : List Call → List ℕ
identifiers calls = map (λ (r : Row). r.identifier) (rows_named (past [] calls))

-- a round that settled opened, for the one-shots of 1 and 2: of equal priority, so that the later installed comes first
abbrev opened : List Call
opened = arrival settled ∷ event (set_event 2 (pos 123)) ∷ event (set_event 1 (pos 123)) ∷ order_form

-- 1 is deleted, installed and registered again while it waits
abbrev replaced : List Call
replaced = event (set_event 1 (pos 123)) ∷ plain 1 0 0 ∷ admin (delete 1) ∷ next ∷ opened

-- a session on that order form: the menu is handed out; applet 1, which is registered for MT call, is locked; then the menu is handed
-- out again, and the event list
abbrev hand_out : Call
hand_out = system_command (replicate 256 0)

abbrev first : List Call
first = hand_out ∷ arrival (profile (1 ∷ [])) ∷ event (set_event 1 (pos 12)) ∷ order_form

abbrev locked : List Call
locked = admin (lock 1) ∷ hand_out ∷ proactive response ∷ first

abbrev again : List Call
again = hand_out ∷ proactive response ∷ hand_out ∷ proactive response ∷ locked

-- a session with two applets that request 300 and 20 seconds; the second is locked, then the first, and what is due is handed out each time
abbrev polled : List Call
polled = hand_out ∷ arrival (profile (1 ∷ [])) ∷ event (request_poll 2 (pos 20)) ∷ event (request_poll 1 (pos 300)) ∷ plain 2 0 0 ∷ plain 1 0 0 ∷ []

abbrev slower : List Call
slower = hand_out ∷ proactive response ∷ admin (lock 2) ∷ polled

abbrev unpolled : List Call
unpolled = admin (lock 1) ∷ slower

-- the command for polling that was last handed out
abbrev last_handed : List Call → List ℕ
last_handed calls = last_polling (handed_since (seen_of [] calls))

-- the identifiers on the screen
abbrev on_screen : List Call → List ℕ
on_screen calls = map (λ (i : Item). i.identifier) (screen [] (seen_of [] calls)).items

pub record Examples : Type 0 where
  -- six rows are named, with identifiers of their own; a delete leaves the other applet's
  pub six-rows : identifiers order_form ≡ 133 ∷ 132 ∷ 131 ∷ 130 ∷ 129 ∷ 128 ∷ []
  pub three-left : identifiers (admin (delete 2) ∷ order_form) ≡ 130 ∷ 129 ∷ 128 ∷ []
  -- the text last given, the enabled mark last set
  pub rewritten : rows_named (past [] (entry (disable_entry 1 128) ∷ entry (change_entry 1 128 true (ascii "Crates")) ∷ titled 1 (ascii "Pick list") ∷ plain 1 0 1 ∷ [])) ≡ record { identifier = 128; owner = 1; text = ascii "Crates"; help = true; enabled = false } ∷ []
  -- a timer that is given, released, and given again; a refused release
  pub given : timer_owner 1 (past [] (timer (allocate 1) ∷ order_form)) ≡ 1
  pub released : timer_owner 1 (past [] (timer (release 1 1) ∷ timer (allocate 1) ∷ order_form)) ≡ 0
  pub not-released : timer_owner 1 (past [] (timer (release 2 1) ∷ timer (allocate 1) ∷ order_form)) ≡ 1
  -- the first turn is of 2, the second of 1; it is of nobody if 1 is locked, and of 1 if it is unlocked in time; one unlocked late follows
  -- a later one; one that was deleted has left the round
  pub first-of-2 : gets_turn 2 (past [] opened) ≡ true
  pub not-of-1 : gets_turn 1 (past [] opened) ≡ false
  pub then-of-1 : gets_turn 1 (past [] (next ∷ opened)) ≡ true
  pub not-while-locked : gets_turn 1 (past [] (admin (lock 1) ∷ next ∷ opened)) ≡ false
  pub unlocked-in-time : gets_turn 1 (past [] (admin (unlock 1) ∷ admin (lock 1) ∷ next ∷ opened)) ≡ true
  pub after-a-later-one : gets_turn 2 (past [] (admin (unlock 2) ∷ next ∷ admin (lock 2) ∷ opened)) ≡ true
  pub not-after-delete : gets_turn 1 (past [] replaced) ≡ false
  -- the round is open until next finds nobody
  pub still_open : is_open (past [] (next ∷ next ∷ opened)) ≡ true
  pub closed : is_open (past [] (next ∷ next ∷ next ∷ opened)) ≡ false
  -- a one-shot stays as settled opens the round, and while others get their turns; at its own it is used up
  pub stays : has_one_shot 1 (past [] (next ∷ opened)) ≡ true
  pub used-up : has_one_shot 1 (past [] (next ∷ next ∷ opened)) ≡ false
  -- six items are handed out, and one code; the lock makes both due and leaves the screen; two hand-outs mend it
  pub six-shown : on_screen first ≡ 128 ∷ 129 ∷ 130 ∷ 131 ∷ 132 ∷ 133 ∷ []
  pub six-left : on_screen locked ≡ 128 ∷ 129 ∷ 130 ∷ 131 ∷ 132 ∷ 133 ∷ []
  pub both-due : due_matters (card_after document [] locked).desk.due ≡ menu ∷ event_list ∷ []
  pub three-shown : on_screen again ≡ 131 ∷ 132 ∷ 133 ∷ []
  pub one_code : codes_handed (seen_of [] locked) ≡ 0x00 ∷ []
  pub no_code : codes_handed (seen_of [] again) ≡ []
  -- the smallest request is named and handed out in seconds; with its applet locked the other's, in minutes; with both locked none is named
  pub twenty-named : interval_named (past [] polled) ≡ 20
  pub twenty-handed : last_handed polled ≡ bytes "D0 0D 81 03 01 03 00 82 02 81 82 84 02 01 14"
  pub five-minutes : last_handed slower ≡ bytes "D0 0D 81 03 01 03 00 82 02 81 82 84 02 00 05"
  pub none_named : interval_named (past [] unpolled) ≡ 0
  pub off-due : due_matters (card_after document [] unpolled).desk.due ≡ polling_off ∷ []
  pub off-handed : last_handed (hand_out ∷ proactive response ∷ unpolled) ≡ bytes "D0 09 81 03 01 04 00 82 02 81 82"
  -- the first unlocked again before that: POLL INTERVAL is due, and POLLING OFF no more
  pub interval-due : due_matters (card_after document [] (admin (unlock 1) ∷ unpolled)).desk.due ≡ poll_interval ∷ []

pub examples : Examples
unfolding compute accepted history_of reading named'.is_selectable named'.is_registered named'.uses_up named'.has_one_shot named'.owns_timer named'.one_to_eight named'.the_one named'.timer_owner named'.row_made named'.rows_since named'.rows_named handed'.seen_of handed'.handed handed'.begins handed'.handed_since handed'.last_menu handed'.screen handed'.codes_in handed'.is_event_list handed'.last_list handed'.codes_handed named'.poll_of called'.is_named called'.is_callable called'.arrived called'.since called'.on_arrival called'.is_open called'.waits called'.is_due called'.is_before called'.gets_turn named'.settled_opened named'.priority_of named'.is_later handed'.is_polling handed'.last_polling handed'.interval_named
examples =
    record {
      six-rows = refl;
      three-left = refl;
      rewritten = refl;
      given = refl;
      released = refl;
      not-released = refl;
      first-of-2 = refl;
      not-of-1 = refl;
      then-of-1 = refl;
      not-while-locked = refl;
      unlocked-in-time = refl;
      after-a-later-one = refl;
      not-after-delete = refl;
      still_open = refl;
      closed = refl;
      stays = refl;
      used-up = refl;
      six-shown = refl;
      six-left = refl;
      both-due = refl;
      three-shown = refl;
      one_code = refl;
      no_code = refl;
      twenty-named = refl;
      twenty-handed = refl;
      five-minutes = refl;
      none_named = refl;
      off-due = refl;
      off-handed = refl;
      interval-due = refl;
    }

-- A one-shot that is set, locked over a round that settled opened, and unlocked: in the next such round it gets its turn, and in the one after that not.
pub waits-while-locked : FiresOnce [] 1 (plain 1 0 1 ∷ []) (arrival settled ∷ admin (unlock 1) ∷ next ∷ admin (lock 1) ∷ arrival settled ∷ []) (next ∷ arrival settled ∷ next ∷ [])
unfolding compute accepted history_of reading named'.is_selectable named'.is_registered named'.uses_up named'.settled_opened named'.one_to_eight called'.is_named called'.is_callable called'.arrived called'.since called'.on_arrival called'.is_open called'.waits called'.is_due called'.gets_turn Each
waits-while-locked =
    one-shot-fires-exactly-once [] 1 _ _ _ refl
    ((λ ok. (refl, refl, other refl)), ((λ ok. (refl, refl, other refl)), ((λ ok. (refl, refl, λ e o. refl)), ((λ ok. (refl, refl, other refl)), ((λ ok. (refl, refl, other refl)), tt)))))
    refl refl refl ((λ ok. refl), ((λ ok. refl), ((λ ok. refl), tt)))
  where
    other : {c : Call} {P : Type 0} → is_next c ≡ false → c ≡ next → P
    other q e = clashing (ap is_next e) q
