-- The round: whether one is open, what arrived, and who waits, as the history names it.
-- Assumes nothing.
use Prim.Native.Nat.{ℕ, ◌≤◌}
use native.Mathlib.Omega.{arith}
use mathlib.Core.Path.{◌≡◌, refl, sym, ap, ◌∙◌}
use mathlib.Core.Bool.{Bool, true, false, not, ◌&&◌, ◌||◌}
use mathlib.Core.List.{List, [], ◌∷◌}
use lib.ListN.{take}
use Rattle.std.specs.Prelude.{if◌then◌else◌, ◌==◌}
use Rattle.lists.specs.Lists.{some?, empty?, in?}
use Rattle.lists.specs.Tables.{table}
use Rattle.lists.proofs.Decided.{clashing, turned}
use Rattle.lists.proofs.Truth.{and-false, and-true, or-false}
use Rattle.lists.proofs.Chosen.{in-keep}
use Rattle.rules.specs.Holds.{Bounds, Round, Model, Arrival}
use Rattle.rules.specs.Applets.{numbers, present, applet}
use Rattle.rules.specs.Arrivals.{wants}
use Rattle.rules.specs.Calls.{Call, accepted, calling, admin, event, entry, timer, arrival, next, proactive, system_command, install, delete, lock, unlock}
use Rattle.rules.specs.Refusals.{first_holding, lines, refusal}
use Rattle.rules.specs.Rounds.{arrived_with, opened, without, turns, named, round_with}
use Rattle.rules.specs.Step.{admin_round, round_after, answer}
use Rattle.runs.proofs.Looked.{number-from, number-to}
use Rattle.history.specs.Histories.{Entry, did, History}
use Rattle.history.specs.Rounds.{opens, leaves}
use Rattle.history.specs.Named.{one_to_eight}
use Rattle.history.specs.Called.{is_named, arrived, since, on_arrival, is_open, waits}
use Rattle.history.proofs.Open.{reading}
use Rattle.history.proofs.Agree.{AgreeTables, AgreeRound, Ground}
use Rattle.history.proofs.Calling.{wants-as-named}
use Rattle.history.proofs.Eight.{among-eight}

-- next is accepted only while a round is open
pub is_open_lem : (m : Model) → refusal m next ≡ 0 → m.round.is_open ≡ true
unfolding refusal lines first_holding
is_open_lem m ok = go m.round.is_open ok
  where
    go : (b : Bool) → ◌≡◌ {A = ℕ} (if not b then 21 else 0) 0 → b ≡ true
    go true e = refl
    go false e = absurd (omega arith)

module _ (r : Round) (h : History) (k : History) (g : AgreeRound r h) (opened? : is_open k ≡ is_open h) (same : arrived k ≡ arrived h) where
  -- an entry that is of no round
  stays : ((n : ℕ) → waits n k ≡ waits n h) → AgreeRound r k
  stays w = record { openness = g.openness ∙ sym opened?; arrival = λ o. g.arrival o ∙ sym same; waiting = λ o n j. g.waiting o n j ∙ sym (w n) }

  -- a number leaves the round
  leaves-it : (b : ℕ) → ((n : ℕ) → waits n k ≡ (waits n h && not (n == b))) → AgreeRound (without b r) k
  leaves-it b w =
      record {
        openness = g.openness ∙ sym opened?;
        arrival = λ o. g.arrival o ∙ sym same;
        waiting = λ o n j. in-keep (λ i. not (i == b)) n r.waiting ∙ ap (λ (x : Bool). x && not (n == b)) (g.waiting o n j) ∙ sym (w n);
      }

-- one that leaves the round waits no longer
pub waits-less : (n b : ℕ) (x : Entry) (h : History) → opens x ≡ false → leaves n x ≡ (n == b) → waits n (x ∷ h) ≡ (waits n h && not (n == b))
unfolding waits since on_arrival arrived some?
waits-less n b x h o e = rw (o, e) (less (is_named (on_arrival h) (arrived h) n) (n == b) (some? (leaves n) (since h)))
  where
    less : (a b c : Bool) → (a && not (b || c)) ≡ (a && not c && not b)
    less true true c = sym (and-false (not c))
    less true false c = sym (and-true (not c))
    less false b c = refl

-- An arrival opens a round: all whom it is for wait.
opens-round : (m : Model) (h : History) → Ground m → AgreeTables m.tables h → (a : Arrival) (n : ℕ) → 1 ≤ n
    → in? n (opened m.tables a).waiting ≡ is_named h a n
unfolding opened table one_to_eight
opens-round m h s g a n k =
    in-keep (λ i. present m.tables i && wants m.tables a (applet m.tables i)) n (numbers m.tables.bounds)
    ∙ go (present m.tables n) refl
    ∙ wants-as-named m.tables h s.sound.tables g a n k
  where
    among : present m.tables n ≡ true → in? n (numbers m.tables.bounds) ≡ true
    among q =
        let b = s.bounds in
        ap (λ (z : Bounds). in? n (numbers z)) b
        ∙ among-eight n (number-from m.tables s.sound.tables n q) (omega (arith, number-to m.tables s.sound.tables n q, ap (λ (z : Bounds). z.applets) b))

    go : (b : Bool) → present m.tables n ≡ b
        → (in? n (numbers m.tables.bounds) && (b && wants m.tables a (applet m.tables n))) ≡ (b && wants m.tables a (applet m.tables n))
    go true q = rw (among q) refl
    go false q = and-false (in? n (numbers m.tables.bounds))

-- A turn: nobody is found, or the first leaves the round.
turn-agrees : (r : Round) (h : History) (l : List ℕ) → AgreeRound r h → AgreeRound (round_with (take 1 l) r) (did next (calling (take 1 l)) ∷ h)
unfolding round_with is_open arrived empty? in? some? reading
turn-agrees r h [] g = record { openness = refl; arrival = λ o. clashing o refl; waiting = λ o. clashing o refl }
turn-agrees r h (b ∷ l) g = leaves-it r h _ g refl refl b (λ n. waits-less n b (did next (calling (b ∷ []))) h refl (or-false (b == n || false) ∙ or-false (b == n) ∙ turned b n))

pub round-kept : (m : Model) (h : History) (c : Call) → refusal m c ≡ 0 → Ground m → AgreeTables m.tables h → AgreeRound m.round h
    → AgreeRound (round_after m c) (did c (answer m c) ∷ h)
unfolding round_after admin_round answer is_open arrived waits since on_arrival some? reading
round-kept m h (admin (install b r)) ok s t g = stays _ h _ g refl refl (λ n. refl)
round-kept m h (admin (delete b)) ok s t g = leaves-it _ h _ g refl refl b (λ n. waits-less n b (did (admin (delete b)) accepted) h refl (turned b n))
round-kept m h (admin (lock b)) ok s t g = stays _ h _ g refl refl (λ n. refl)
round-kept m h (admin (unlock b)) ok s t g = stays _ h _ g refl refl (λ n. refl)
round-kept m h (event c) ok s t g = stays _ h _ g refl refl (λ n. refl)
round-kept m h (entry c) ok s t g = stays _ h _ g refl refl (λ n. refl)
round-kept m h (timer c) ok s t g = stays _ h _ g refl refl (λ n. refl)
round-kept m h (arrival c) ok s t g =
    record { openness = unfold opened in refl; arrival = λ o. unfold opened in refl; waiting = λ o n k. opens-round m h s t (arrived_with c) n k ∙ sym (and-true _) }
round-kept m h next ok s t g = unfold named in turn-agrees m.round h (turns m.tables m.round) g
round-kept m h (proactive c) ok s t g = stays _ h _ g refl refl (λ n. refl)
round-kept m h (system_command buffer) ok s t g = stays _ h _ g refl refl (λ n. refl)
