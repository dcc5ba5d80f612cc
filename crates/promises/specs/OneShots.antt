-- A ONE-SHOT (proactive handler available, event 123) over a whole stretch of calls as they were seen, the newest first.
use Rattle.std.specs.Prelude.{ℕ, ◌≡◌, true, false, List, [], ◌∷◌, ◌++◌, pos}
use Rattle.lists.specs.Lists.{Every, times}
use Rattle.rules.specs.Events.{handler_available}
use Rattle.rules.specs.Calls.{event, next, set_event}
use Rattle.history.specs.Histories.{History, accepted}
use Rattle.history.specs.Deeds.{sets, clears, deletes}
use Rattle.history.specs.Named.{has_one_shot, settled_opened}
use Rattle.history.specs.Called.{gets_turn}
use Rattle.history.specs.Handed.{Seen}
use Rattle.promises.specs.Watched.{entries_of, call_of, refusal_of, called_by}

-- the history of the accepted ones
abbrev pub past_of : List Seen → History
past_of l = accepted (entries_of l)

-- P holds of each call of a stretch, and of all that were seen before it
unfoldable pub Each : (P : Seen → List Seen → Type 0) → (stretch before : List Seen) → Type 0
Each P [] before = Unit
Each P (s ∷ l) before = P s (l ++ before) × Each P l before

-- if accepted, the call is no clear of it, no delete of its applet, and no turn that the applet gets in a round that settled opened
abbrev pub Spares : (applet : ℕ) → Seen → (before : List Seen) → Type 0
Spares n s before =
    refusal_of s ≡ 0
    → (clears n handler_available s.entry ≡ false) × (deletes n s.entry ≡ false)
    × (call_of s ≡ next → settled_opened (past_of before) ≡ true → gets_turn n (past_of before) ≡ false)

-- if accepted, the call does not set it
abbrev pub SetsNot : (applet : ℕ) → Seen → Type 0
SetsNot n s = refusal_of s ≡ 0 → sets n handler_available s.entry ≡ false

-- the call, if it is a next in a round that settled opened, does not name the applet
abbrev pub Silent : (applet : ℕ) → Seen → (before : List Seen) → Type 0
Silent n s before = call_of s ≡ next → settled_opened (past_of before) ≡ true → times n (called_by s) ≡ 0

-- Applet n sets its one-shot; then a stretch of calls, refused ones included, without its clear, its applet's delete or a turn that the
-- applet gets in a round that settled opened; then such a turn; then any calls that do not set it again.
pub record SetAndTurned (n : ℕ) (later : List Seen) (turn : Seen) (stretch : List Seen) (setting : Seen) (before : List Seen) : Type 0 where
  pub is_set : call_of setting ≡ event (set_event n (pos 123))
  pub set-accepted : refusal_of setting ≡ 0
  pub spared : Each (Spares n) stretch (setting ∷ before)
  pub turns : call_of turn ≡ next
  pub turn-accepted : refusal_of turn ≡ 0
  pub by-settled : settled_opened (past_of (stretch ++ setting ∷ before)) ≡ true
  pub its-turn : gets_turn n (past_of (stretch ++ setting ∷ before)) ≡ true
  pub not-set-again : Every (SetsNot n) later

-- Then it FIRES EXACTLY ONCE.
pub record FiresOnce (n : ℕ) (later : List Seen) (turn : Seen) (stretch : List Seen) (setting : Seen) (before : List Seen) : Type 0 where
  -- It is registered until then, and no turn of the stretch in a round that settled opened is its ..
  pub waiting : has_one_shot n (past_of (stretch ++ setting ∷ before)) ≡ true
  pub not-before : Each (Silent n) stretch (setting ∷ before)
  -- .. at that turn it is named, once, and used up ..
  pub at-the-turn : times n (called_by turn) ≡ 1
  pub used-up : has_one_shot n (past_of (turn ∷ stretch ++ setting ∷ before)) ≡ false
  -- .. and at no later one in such a round is it named.
  pub not_after : Each (Silent n) later (turn ∷ stretch ++ setting ∷ before)
