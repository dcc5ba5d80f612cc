-- THE ONE-SHOT (proactive handler available, event 123): the first turn that it gets in a round that settled opened uses it up, and only
-- there; over a whole stretch of calls it fires exactly once. Assumes nothing.
use Prim.Native.Nat.{ℕ, zero, suc}
use mathlib.Core.Path.{◌≡◌, refl, ap, ◌∙◌}
use mathlib.Core.Bool.{Bool, true, false, ◌&&◌, ◌||◌}
use mathlib.Core.List.{List, [], ◌∷◌, ◌++◌}
use lib.IntN.{pos}
use Rattle.std.specs.Prelude.{if◌then◌else◌}
use Rattle.lists.specs.Lists.{count, times}
use Rattle.lists.proofs.Decided.{same}
use Rattle.lists.proofs.Times.{if-same}
use Rattle.lists.proofs.Truth.{and-false}
use Rattle.rules.specs.Holds.{Arrival}
use Rattle.rules.specs.Events.{handler_available}
use Rattle.rules.specs.Calls.{Call, ArrivalCall, admin, event, entry, timer, arrival, next, proactive, system_command, set_event}
use Rattle.rules.specs.Step.{step}
use Rattle.rules.proofs.Compute.{compute}
use Rattle.rules.proofs.OnRefusal.{refused}
use Rattle.history.specs.Histories.{Entry, History, did}
use Rattle.history.specs.Deeds.{sets, clears, deletes}
use Rattle.history.specs.Named.{is_selectable, is_registered, has_one_shot, settled_opened, uses_up}
use Rattle.history.specs.Called.{is_named, is_callable, arrived, is_open, is_due, gets_turn}
use Rattle.history.specs.Runs.{history_of}
use Rattle.history.proofs.Open.{reading}
use Rattle.history.proofs.Agrees.{accepted-more}
use Rattle.history.proofs.Answered.{refuses}
use Rattle.history.proofs.Settled.{settled-arrived, by-settled}
use Rattle.history.proofs.Promises.{m, past, refused-call-leaves-the-past}
use Rattle.history.proofs.Turns.{next-names-whose-turn-it-is, named-once}

module _ (title : List ℕ) (calls : List Call) (n : ℕ) where
  -- A ONE-SHOT IS USED UP at a turn that its applet gets in a round that settled opened ..
  pub one-shot-is-used-up : (step (m title calls) next).answer.refusal ≡ 0
      → has_one_shot n (past title (next ∷ calls)) ≡ (if gets_turn n (past title calls) && settled_opened (past title calls) then false else has_one_shot n (past title calls))
  unfolding history_of has_one_shot is_registered uses_up reading
  one-shot-is-used-up ok =
      ap (has_one_shot n) (accepted-more next _ (history_of title calls) ok)
      ∙ rw (next-names-whose-turn-it-is title calls ok n) refl

  -- .. never as an arrival opens a round, a settled moment or any other ..
  pub no-arrival-uses-it-up : (c : ArrivalCall) → (step (m title calls) (arrival c)).answer.refusal ≡ 0
      → has_one_shot n (past title (arrival c ∷ calls)) ≡ has_one_shot n (past title calls)
  unfolding history_of has_one_shot is_registered uses_up reading
  no-arrival-uses-it-up c ok = ap (has_one_shot n) (accepted-more (arrival c) _ (history_of title calls) ok)

  -- .. and any accepted call leaves it that neither clears it, nor deletes its applet, nor uses it up.
  pub one-shot-lasts : (c : Call) → (step (m title calls) c).answer.refusal ≡ 0
      → clears n handler_available (did c (step (m title calls) c).answer) ≡ false → deletes n (did c (step (m title calls) c).answer) ≡ false
      → uses_up n handler_available (did c (step (m title calls) c).answer) (past title calls) ≡ false → has_one_shot n (past title calls) ≡ true
      → has_one_shot n (past title (c ∷ calls)) ≡ true
  unfolding history_of has_one_shot is_registered
  one-shot-lasts c ok x y z e =
      ap (has_one_shot n) (accepted-more c _ (history_of title calls) ok)
      ∙ rw (x, y, z, e) (if-same (sets n handler_available (did c (step (m title calls) c).answer)) true)

-- Without one an applet gets no turn in a round that settled opened.
pub no-turn-without-one : (n : ℕ) (h : History) → settled_opened h ≡ true → has_one_shot n h ≡ false → gets_turn n h ≡ false
unfolding gets_turn is_due is_callable is_named has_one_shot
no-turn-without-one n h o e =
    let i : is_named h (arrived h) n ≡ false = ap (λ (a : Arrival). is_named h a n) (settled-arrived (arrived h) (by-settled h ∙ o)) ∙ e in
    rw (i, and-false (is_selectable n h), and-false (is_open h)) refl

-- P holds of each call of a stretch, and of all the calls that came before it; the newest call stands first
unfoldable pub Each : (P : Call → List Call → Type 0) → (stretch calls : List Call) → Type 0
Each P [] calls = Unit
Each P (c ∷ l) calls = P c (l ++ calls) × Each P l calls

module _ (title : List ℕ) (n : ℕ) where
  -- the call was accepted, and what the history says of it
  abbrev pub Accepted : Call → (before : List Call) → Type 0
  Accepted c before = (step (m title before) c).answer.refusal ≡ 0

  abbrev pub entry_of : Call → (before : List Call) → Entry
  entry_of c before = did c (step (m title before) c).answer

  -- applet n sets its one-shot
  abbrev pub sets_it : Call
  sets_it = event (set_event n (pos 123))

  -- if accepted, the call is no clear of it, no delete of its applet, and no turn that the applet gets in a round that settled opened
  abbrev pub Spares : Call → (before : List Call) → Type 0
  Spares c before =
      Accepted c before
      → (clears n handler_available (entry_of c before) ≡ false) × (deletes n (entry_of c before) ≡ false)
      × (c ≡ next → settled_opened (past title before) ≡ true → gets_turn n (past title before) ≡ false)

  -- if accepted, the call does not set it
  abbrev pub SetsNot : Call → (before : List Call) → Type 0
  SetsNot c before = Accepted c before → sets n handler_available (entry_of c before) ≡ false

  -- the call, if it is a next in a round that settled opened, does not name the applet
  abbrev pub Silent : Call → (before : List Call) → Type 0
  Silent c before = c ≡ next → settled_opened (past title before) ≡ true → times n (step (m title before) next).answer.called ≡ 0

  -- what is spared is not used up
  not-used : (c : Call) (before : List Call) → Accepted c before → (c ≡ next → settled_opened (past title before) ≡ true → gets_turn n (past title before) ≡ false)
      → uses_up n handler_available (entry_of c before) (past title before) ≡ false
  unfolding uses_up reading
  not-used (admin c) before ok f = refl
  not-used (event c) before ok f = refl
  not-used (entry c) before ok f = refl
  not-used (timer c) before ok f = refl
  not-used (arrival c) before ok f = refl
  not-used next before ok f = rw (next-names-whose-turn-it-is title before ok n) (go (settled_opened (past title before)) refl)
    where
      go : (b : Bool) → settled_opened (past title before) ≡ b → (gets_turn n (past title before) && b) ≡ false
      go true o = rw (f refl o) refl
      go false o = and-false (gets_turn n (past title before))
  not-used (proactive c) before ok f = refl
  not-used (system_command buffer) before ok f = refl

  -- accepted, the set registers it
  set-has-it : (calls : List Call) → Accepted sets_it calls → has_one_shot n (past title (sets_it ∷ calls)) ≡ true
  unfolding history_of has_one_shot is_registered uses_up reading compute
  set-has-it calls ok = ap (has_one_shot n) (accepted-more sets_it _ (history_of title calls) ok) ∙ rw (same n) refl

  -- it waits
  pub one-shot-waits : (stretch calls : List Call) → Each Spares stretch calls → has_one_shot n (past title calls) ≡ true → has_one_shot n (past title (stretch ++ calls)) ≡ true
  unfolding Each
  one-shot-waits [] calls s e = e
  one-shot-waits (c ∷ l) calls s e = go (step (m title (l ++ calls)) c).answer.refusal refl (one-shot-waits l calls s.1 e)
    where
      go : (k : ℕ) → (step (m title (l ++ calls)) c).answer.refusal ≡ k → has_one_shot n (past title (l ++ calls)) ≡ true → has_one_shot n (past title (c ∷ l ++ calls)) ≡ true
      go zero ok i = let f = s.0 ok in one-shot-lasts title (l ++ calls) n c ok f.0 f.1 (not-used c (l ++ calls) ok f.2) i
      go (suc k) no_way i = ap (has_one_shot n) (refused-call-leaves-the-past title (l ++ calls) c k no_way) ∙ i

  -- used up, it stays so
  pub none-set : (x : Entry) (h : History) → sets n handler_available x ≡ false → is_registered n handler_available h ≡ false → is_registered n handler_available (x ∷ h) ≡ false
  unfolding is_registered
  none-set x h s e =
      rw (s, e) (ap (λ (b : Bool). if clears n handler_available x || deletes n x then false else b) (if-same (uses_up n handler_available x h) false) ∙ if-same (clears n handler_available x || deletes n x) false)

  stays-used : (stretch calls : List Call) → Each SetsNot stretch calls → has_one_shot n (past title calls) ≡ false → has_one_shot n (past title (stretch ++ calls)) ≡ false
  unfolding Each has_one_shot history_of
  stays-used [] calls s e = e
  stays-used (c ∷ l) calls s e = go (step (m title (l ++ calls)) c).answer.refusal refl (stays-used l calls s.1 e)
    where
      go : (k : ℕ) → (step (m title (l ++ calls)) c).answer.refusal ≡ k → has_one_shot n (past title (l ++ calls)) ≡ false → has_one_shot n (past title (c ∷ l ++ calls)) ≡ false
      go zero ok i = ap (has_one_shot n) (accepted-more c _ (history_of title (l ++ calls)) ok) ∙ none-set _ _ (s.0 ok) i
      go (suc k) no_way i = ap (has_one_shot n) (refused-call-leaves-the-past title (l ++ calls) c k no_way) ∙ i

  -- next does not name an applet that gets no turn
  not_named : (c : Call) (before : List Call) → (Accepted c before → c ≡ next → settled_opened (past title before) ≡ true → gets_turn n (past title before) ≡ false) → Silent c before
  unfolding times count
  not_named c before f e o = go (step (m title before) next).answer.refusal refl
    where
      go : (k : ℕ) → (step (m title before) next).answer.refusal ≡ k → times n (step (m title before) next).answer.called ≡ 0
      go zero ok = named-once title before ok n ∙ ap (λ (b : Bool). if b then 1 else 0) (f (ap (λ x. (step (m title before) x).answer.refusal) e ∙ ok) e o)
      go (suc k) no_way = ap (λ o. times n o.answer.called) (refused (m title before) next k (refuses (m title before) next k no_way))

  spared-silent : (stretch calls : List Call) → Each Spares stretch calls → Each Silent stretch calls
  unfolding Each
  spared-silent [] calls s = tt
  spared-silent (c ∷ l) calls s = (not_named c (l ++ calls) (λ ok. (s.0 ok).2), spared-silent l calls s.1)

  used-silent : (stretch calls : List Call) → Each SetsNot stretch calls → has_one_shot n (past title calls) ≡ false → Each Silent stretch calls
  unfolding Each
  used-silent [] calls s e = tt
  used-silent (c ∷ l) calls s e =
      (not_named c (l ++ calls) (λ ok q o. no-turn-without-one n (past title (l ++ calls)) o (stays-used l calls s.1 e)), used-silent l calls s.1 e)

  -- What becomes of a one-shot: set after these calls, then a stretch of calls, then a turn in a round that settled opened, then later calls.
  pub record FiresOnce (calls stretch later : List Call) : Type 0 where
    -- it is registered all the time, and no turn of the stretch in such a round is its ..
    pub waiting : has_one_shot n (past title (stretch ++ sets_it ∷ calls)) ≡ true
    pub not-before : Each Silent stretch (sets_it ∷ calls)
    -- .. at that turn it is named, once, and used up ..
    pub at-the-turn : times n (step (m title (stretch ++ sets_it ∷ calls)) next).answer.called ≡ 1
    pub used-up : has_one_shot n (past title (next ∷ stretch ++ sets_it ∷ calls)) ≡ false
    -- .. and at no later one is it named.
    pub not_after : Each Silent later (next ∷ stretch ++ sets_it ∷ calls)

  -- A ONE-SHOT FIRES EXACTLY ONCE: set; then any calls, refused ones included, without its clear, its applet's delete or a turn that it
  -- gets in a round that settled opened; then such a turn; then any calls that do not set it again.
  pub one-shot-fires-exactly-once : (calls stretch later : List Call)
      → Accepted sets_it calls
      → Each Spares stretch (sets_it ∷ calls)
      → Accepted next (stretch ++ sets_it ∷ calls)
      → settled_opened (past title (stretch ++ sets_it ∷ calls)) ≡ true
      → gets_turn n (past title (stretch ++ sets_it ∷ calls)) ≡ true
      → Each SetsNot later (next ∷ stretch ++ sets_it ∷ calls)
      → FiresOnce calls stretch later
  one-shot-fires-exactly-once calls stretch later set-ok spared ok opened turn unset =
      let gone : has_one_shot n (past title (next ∷ stretch ++ sets_it ∷ calls)) ≡ false = one-shot-is-used-up title (stretch ++ sets_it ∷ calls) n ok ∙ rw (turn, opened) refl in
      record {
        waiting = one-shot-waits stretch (sets_it ∷ calls) spared (set-has-it calls set-ok);
        not-before = spared-silent stretch (sets_it ∷ calls) spared;
        at-the-turn = named-once title (stretch ++ sets_it ∷ calls) ok n ∙ rw turn refl;
        used-up = gone;
        not_after = used-silent later _ unset gone;
      }
