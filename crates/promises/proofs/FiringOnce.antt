-- A ONE-SHOT FIRES EXACTLY ONCE, over a whole stretch of calls as they were seen: from what is promised of one call. Assumes nothing.
use Prim.Native.Nat.{ℕ, zero, suc}
use native.Mathlib.Omega.{arith}
use mathlib.Core.Path.{◌≡◌, refl, sym, ap, ◌∙◌}
use mathlib.Core.Bool.{Bool, true, false}
use mathlib.Core.List.{List, [], ◌∷◌, ◌++◌}
use lib.IntN.{pos}
use Rattle.std.specs.Prelude.{if◌then◌else◌}
use Rattle.lists.specs.Lists.{Every, count, times}
use Rattle.lists.proofs.Decided.{same}
use Rattle.rules.specs.Events.{handler_available}
use Rattle.rules.specs.Calls.{Call, Answer, event, next, set_event}
use Rattle.rules.proofs.Compute.{compute}
use Rattle.card.specs.declared.Card.{Card}
use Rattle.history.specs.Histories.{did, History}
use Rattle.history.specs.Named.{is_registered, has_one_shot, uses_up, settled_opened}
use Rattle.history.specs.Called.{gets_turn}
use Rattle.history.specs.Handed.{Seen}
use Rattle.history.proofs.Open.{reading}
use Rattle.history.proofs.Agrees.{accepted-more}
use Rattle.history.proofs.OneShot.{none-set, no-turn-without-one}
use Rattle.promises.specs.Watched.{entries_of, call_of, refusal_of, called_by, Next, Watched, more}
use Rattle.promises.specs.Turns.{has_shot}
use Rattle.promises.specs.OneShots.{past_of, Each, Spares, SetsNot, Silent, SetAndTurned, FiresOnce}
use Rattle.promises.proofs.Carried.{holds-of-it, judged-of-it, answers-of-it}

module _ (title : List ℕ) (n : ℕ) where
  -- applet n has a one-shot after these calls: by the history as by the card's set
  abbrev Has : List Seen → Bool
  Has l = has_one_shot n (past_of l)

  in_is : {l : List Seen} {c : Card} → Watched title l c → has_shot c n ≡ Has l
  unfolding has_one_shot
  in_is w = (holds-of-it w).registered n handler_available (omega arith) refl

  -- a set registers it
  by-set : (a : Answer) (g : History) → has_one_shot n (did (event (set_event n (pos 123))) a ∷ g) ≡ true
  unfolding has_one_shot is_registered uses_up reading compute
  by-set a g = rw (same n) refl

  set-it : (s : Seen) (l : List Seen) → call_of s ≡ event (set_event n (pos 123)) → refusal_of s ≡ 0 → Has (s ∷ l) ≡ true
  set-it s l e ok =
      ap (has_one_shot n) (accepted-more (call_of s) s.entry.answer (entries_of l) ok)
      ∙ ap (λ (y : Call). has_one_shot n (did y s.entry.answer ∷ past_of l)) e
      ∙ by-set s.entry.answer (past_of l)

  -- it waits
  waits : (a b : List Seen) {c : Card} → Watched title (a ++ b) c → Each (Spares n) a b → Has b ≡ true → Has (a ++ b) ≡ true
  unfolding Each
  waits [] b w e i = i
  waits (s ∷ a) b (more {k = k} x w) e i =
      sym (in_is (more x w))
      ∙ (answers-of-it w s k x).lasts n e.0 (in_is w ∙ waits a b w e.1 i)

  -- used up, it stays so
  stays : (a b : List Seen) {c : Card} → Watched title (a ++ b) c → Every (SetsNot n) a → Has b ≡ false → Has (a ++ b) ≡ false
  unfolding Every has_one_shot
  stays [] b w e i = i
  stays (s ∷ a) b (more {c = c} {k = k} x w) e i = go (refusal_of s) refl (stays a b w e.1 i)
    where
      go : (r : ℕ) → refusal_of s ≡ r → Has (a ++ b) ≡ false → Has (s ∷ a ++ b) ≡ false
      go zero ok j = ap (has_one_shot n) (accepted-more (call_of s) s.entry.answer (entries_of (a ++ b)) ok) ∙ none-set title n _ _ (e.0 ok) j
      go (suc r) no_way j = sym (in_is (more x w)) ∙ ap (λ (d : Card). has_shot d n) ((judged-of-it w s k x).refused r no_way).0 ∙ in_is w ∙ j

  -- a next does not name the applet if it gets no turn
  silent : {l : List Seen} {c k : Card} {s : Seen} → Watched title l c → Next c s k
      → (refusal_of s ≡ 0 → call_of s ≡ next → settled_opened (past_of l) ≡ true → gets_turn n (past_of l) ≡ false) → Silent n s l
  unfolding times count
  silent {l} {c} {k} {s} w x f e o = go (refusal_of s) refl
    where
      go : (r : ℕ) → refusal_of s ≡ r → times n (called_by s) ≡ 0
      go zero ok = ((answers-of-it w s k x).turn ok e).fires n ∙ ap (λ (b : Bool). if b then 1 else 0) (f ok e o)
      go (suc r) no_way = ap (λ (a : Answer). times n a.called) ((judged-of-it w s k x).refused r no_way).2

  before-it : (a b : List Seen) {c : Card} → Watched title (a ++ b) c → Each (Spares n) a b → Each (Silent n) a b
  unfolding Each
  before-it [] b w e = tt
  before-it (s ∷ a) b (more x w) e = (silent w x (λ ok. (e.0 ok).2), before-it a b w e.1)

  after-it : (a b : List Seen) {c : Card} → Watched title (a ++ b) c → Every (SetsNot n) a → Has b ≡ false → Each (Silent n) a b
  unfolding Every Each
  after-it [] b w e i = tt
  after-it (s ∷ a) b (more x w) e i = (silent w x (λ ok q o. no-turn-without-one n (past_of (a ++ b)) o (stays a b w e.1 i)), after-it a b w e.1 i)

  -- the card before a stretch is one that the functions have left
  below : {R : Type 0} (a b : List Seen) {c : Card} → Watched title (a ++ b) c → ((d : Card) → Watched title b d → R) → R
  below [] b w f = f _ w
  below (s ∷ a) b (more x w) f = below a b w f

  pub fires-once : (later : List Seen) (turn : Seen) (stretch : List Seen) (setting : Seen) (before : List Seen) {c : Card}
      → Watched title (later ++ (turn ∷ stretch ++ setting ∷ before)) c → SetAndTurned n later turn stretch setting before → FiresOnce n later turn stretch setting before
  fires-once later turn stretch setting before v p = below later (turn ∷ stretch ++ setting ∷ before) v go
    where
      go : (d : Card) → Watched title (turn ∷ stretch ++ setting ∷ before) d → FiresOnce n later turn stretch setting before
      go k (more x w) =
          let its = (answers-of-it w turn k x).turn p.turn-accepted p.turns in
          let gone : Has (turn ∷ stretch ++ setting ∷ before) ≡ false = sym (in_is (more x w)) ∙ its.used-up n ∙ rw (p.its-turn, p.by-settled) refl in
          record {
            waiting = waits stretch (setting ∷ before) w p.spared (set-it setting before p.is_set p.set-accepted);
            not-before = before-it stretch (setting ∷ before) w p.spared;
            at-the-turn = its.fires n ∙ rw p.its-turn refl;
            used-up = gone;
            not_after = after-it later (turn ∷ stretch ++ setting ∷ before) v p.not-set-again gone;
          }
