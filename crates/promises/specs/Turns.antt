-- DEMAND 3, OF EVENTS AND ONE-SHOTS (document 02, Ask 2), of a call seen as s on card c, which it leaves as k: h is the history of the
-- accepted calls before it.
use Rattle.std.specs.Prelude.{ℕ, zero, suc, ◌≤◌, ◌≡◌, Bool, true, false, not, ◌&&◌, List, [], ◌++◌, map, length, take, get_or, ℤ}
use Rattle.std.specs.Prelude.{if◌then◌else◌, ◌==◌}
use Rattle.lists.specs.Lists.{some?, keep, count, times, in?, empty?}
use Rattle.sets.specs.Sets.{has?}
use Rattle.rules.specs.declared.Kind.TheVariants.{Event}
use Rattle.rules.specs.Holds.{Applet, Tables, Arrival, choice, help, expiry, status}
use Rattle.rules.specs.Events.{handler_available, kind_of}
use Rattle.rules.specs.Applets.{in_order}
use Rattle.rules.specs.Arrivals.{settled_arrival, wants}
use Rattle.rules.specs.Rounds.{arrived_with}
use Rattle.rules.specs.Calls.{ArrivalCall, event, arrival, next, settled, ask_event}
use Rattle.card.specs.declared.Card.{Card}
use Rattle.card.specs.View.{view}
use Rattle.history.specs.Histories.{History}
use Rattle.history.specs.Deeds.{clears, deletes}
use Rattle.history.specs.Rounds.{is_turn, names}
use Rattle.history.specs.Named.{is_selectable, is_registered, owns_timer, poll_of, rows_named, is_outstanding, settled_opened}
use Rattle.history.specs.Called.{is_chosen, is_helped, is_named, arrived, since, on_arrival, is_open, gets_turn, Names}
use Rattle.history.specs.Handed.{Seen}
use Rattle.promises.specs.Watched.{call_of, refusal_of, called_by, Next}

-- applet n has a one-shot, by the card's set
abbrev pub has_shot : Card → (applet : ℕ) → Bool
has_shot c n = has? (get_or c.registered handler_available 0) n

-- AN ACCEPTED NEXT.
pub record Turn (h : History) (c : Card) (s : Seen) (k : Card) : Type 0 where
  -- EACH NEXT NAMES THAT APPLET AND NO OTHER: the first in order that was registered on arrival, still is, is selectable and has not been
  -- named in the round; nobody, if there is none ..
  pub names-it : Names h (called_by s)
  pub one_name : (other : List ℕ) → Names h other → other ≡ called_by s
  -- .. once next finds nobody, every applet registered on arrival, not deleted since and still registered and selectable has been named ..
  pub all_named : called_by s ≡ [] → (n : ℕ) → is_named (on_arrival h) (arrived h) n ≡ true → some? (deletes n) (since h) ≡ false
      → is_selectable n h ≡ true → is_named h (arrived h) n ≡ true → some? (names n) (since h) ≡ true
  -- .. none is named twice in a round, and none that was deleted in it.
  pub none-twice : (n : ℕ) → in? n (called_by s) ≡ true → (some? (names n) (since h) ≡ false) × (some? (deletes n) (since h) ≡ false)
  -- A ROUND ENDS: after eight turns next finds nobody; it ends with the next that finds nobody, and not with the last name.
  pub ends : 8 ≤ count is_turn (since h) → called_by s ≡ []
  pub closes : k.round.«open» ≡ not (empty? (called_by s))
  -- A menu choice counts only while its row is enabled, on arrival and at the turn ..
  pub choice-counts : (n i : ℕ) → in? n (called_by s) ≡ true → arrived h ≡ choice i
      → (is_selectable n h ≡ true) × (some? (is_chosen i n) (rows_named (on_arrival h)) ≡ true) × (some? (is_chosen i n) (rows_named h) ≡ true)
  -- .. a help request only while that row also offers help ..
  pub help-counts : (n i : ℕ) → in? n (called_by s) ≡ true → arrived h ≡ help i
      → (is_selectable n h ≡ true) × (some? (is_helped i n) (rows_named (on_arrival h)) ≡ true) × (some? (is_helped i n) (rows_named h) ≡ true)
  -- .. the end of a timer calls the owner that the history names ..
  pub expiry-counts : (n t : ℕ) → in? n (called_by s) ≡ true → arrived h ≡ expiry t
      → (is_selectable n h ≡ true) × (owns_timer t n (on_arrival h) ≡ true) × (owns_timer t n h ≡ true)
  -- .. and a STATUS those whose request, as the history names it, is not none.
  pub status-counts : (n : ℕ) → in? n (called_by s) ≡ true → arrived h ≡ status
      → (is_selectable n h ≡ true) × (not (poll_of n (on_arrival h) == 0) ≡ true) × (not (poll_of n h == 0) ≡ true)
  -- Whoever gets the turn is named once, and nobody else; a ONE-SHOT is used up at a turn that its applet gets in a round that settled
  -- opened, and only there.
  pub fires : (n : ℕ) → times n (called_by s) ≡ (if gets_turn n h then 1 else 0)
  pub used-up : (n : ℕ) → has_shot k n ≡ (if gets_turn n h && settled_opened h then false else has_shot c n)

-- ANY CALL: whom it calls, and what becomes of the round and of a one-shot.
pub record Answers (h : History) (c : Card) (s : Seen) (k : Card) : Type 0 where
  -- Without a round open next gets 21; settled gets 22 while one is open, or 16 where a command is outstanding; else they are accepted.
  pub next-refused : call_of s ≡ next → refusal_of s ≡ (if is_open h then 0 else 21)
  pub settled-refused : call_of s ≡ arrival settled → refusal_of s ≡ (if is_outstanding h then 16 else if is_open h then 22 else 0)
  -- EVERY ACCEPTED ARRIVAL OPENS A ROUND, also one for which nobody is registered; it calls nobody, and neither does any call but next.
  pub opens : (x : ArrivalCall) → refusal_of s ≡ 0 → call_of s ≡ arrival x → k.round.«open» ≡ true
  pub only_next : (call_of s ≡ next → ⊥) → called_by s ≡ []
  pub turn : refusal_of s ≡ 0 → call_of s ≡ next → Turn h c s k
  -- Only settled arrives as the one-shot's event. No arrival uses a one-shot up ..
  pub only-settled : (x : ArrivalCall) → call_of s ≡ arrival x → arrived_with x ≡ settled_arrival → x ≡ settled
  pub no-arrival : (n : ℕ) (x : ArrivalCall) → call_of s ≡ arrival x → has_shot k n ≡ has_shot c n
  -- .. and any call leaves it that neither clears it nor deletes its applet nor is such a turn, and every refused call does.
  pub lasts : (n : ℕ)
      → (refusal_of s ≡ 0 → (clears n handler_available s.entry ≡ false) × (deletes n s.entry ≡ false) × (call_of s ≡ next → settled_opened h ≡ true → gets_turn n h ≡ false))
      → has_shot c n ≡ true → has_shot k n ≡ true
  -- What is asked of a registration is told as the history names it.
  pub tells : (n e : ℕ) (v : ℤ) → refusal_of s ≡ 0 → call_of s ≡ event (ask_event n v) → kind_of v ≡ Event e → s.entry.answer.says ≡ is_registered n e h

-- So many nexts, one at once after the other, and whom they name in all.
pub data NextsNamed : (c : Card) (nexts : ℕ) (named : List ℕ) (k : Card) → Type 0 where
  none : {c : Card} → NextsNamed c zero [] c
  then : {c d k : Card} {s : Seen} {n : ℕ} {l : List ℕ} → Next c s d → call_of s ≡ next → NextsNamed d n l k → NextsNamed c (suc n) (called_by s ++ l) k

-- The list of document 01: all whom an arrival is for and who are selectable, in order.
unfoldable pub old_list : Tables → Arrival → List ℕ
old_list t a = map (λ (x : Applet). x.number) (in_order (keep (λ (x : Applet). x.selectable && wants t a x) t.applets))

-- AN ACCEPTED ARRIVAL ON CARD c, which it leaves as d, FOLLOWED AT ONCE BY NEXTS ..
pub record NamesTheOldList (c : Card) (x : ArrivalCall) (d : Card) : Type 0 where
  -- .. names the old list in the old order ..
  pub named : (n : ℕ) (l : List ℕ) (k : Card) → NextsNamed d n l k → l ≡ take n (old_list (view c).tables (arrived_with x))
  -- .. and one next more ends the round.
  pub over : (n : ℕ) (l : List ℕ) (k : Card) → NextsNamed d n l k → n ≡ suc (length (old_list (view c).tables (arrived_with x))) → k.round.«open» ≡ false
