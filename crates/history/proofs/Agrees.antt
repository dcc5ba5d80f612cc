-- After any sequence of calls on a fresh card the card agrees with its history: one induction over all calls.
-- Assumes nothing.
use Prim.Native.Nat.{ℕ, zero, suc, ◌-◌}
use native.Mathlib.Omega.{arith}
use mathlib.Core.Path.{◌≡◌, refl, sym, ap, subst, ◌∙◌}
use mathlib.Core.Bool.{false}
use mathlib.Core.List.{List, [], ◌∷◌}
use lib.ListN.{replicate}
use lib.Dec.{eqb-suc-zero}
use borrow.Author.Tests.{ne_eqb}
use Rattle.std.specs.Prelude.{if◌then◌else◌, ◌==◌}
use Rattle.lists.specs.Lists.{Every, Ordered, some?, first, keep}
use Rattle.lists.proofs.Decided.{clashing}
use Rattle.lists.proofs.Places.{get_or-blank}
use Rattle.lists.proofs.Times.{if-same}
use Rattle.rules.specs.Holds.{Model, document, fresh}
use Rattle.rules.specs.Applets.{present, applet}
use Rattle.rules.specs.Timers.{owner_of}
use Rattle.rules.specs.Calls.{Call, Answer, refused_with, admin, event, entry, timer, arrival, next, proactive, system_command, set_event, clear_event, ask_event, request_poll, new_entry, change_entry, enable_entry, disable_entry, allocate, release, envelope, profile, status, settled}
use Rattle.rules.specs.Refusals.{refusal}
use Rattle.rules.specs.Step.{event_answer, entry_answer, timer_answer, arrival_answer, answer, changed, outcome, step}
use Rattle.rules.specs.Beside.{fresh_by, fresh_card}
use Rattle.rules.specs.Runs.{card_after}
use Rattle.rules.proofs.Bounds.{after-keeps}
use Rattle.runs.proofs.Run.{run_sound}
use Rattle.history.specs.Histories.{did, History, accepted, stands}
use Rattle.history.specs.Named.{is_present, is_selectable, is_registered, poll_of, owns_timer, rows_named, rows_since, in_session, is_outstanding}
use Rattle.history.specs.Called.{is_open}
use Rattle.history.specs.Runs.{history_of}
use Rattle.history.proofs.Agree.{Agree, Ground}
use Rattle.history.proofs.Present.{presence-kept, selectability-kept, priorities-kept, order-kept}
use Rattle.history.proofs.Registered.{events-kept, control-kept, poll-kept}
use Rattle.history.proofs.Owners.{timers-kept}
use Rattle.history.proofs.RowsNamed.{rows-kept}
use Rattle.history.proofs.DeskKept.{desk-kept}
use Rattle.history.proofs.RoundNamed.{round-kept}

-- A fresh card, and no call.
free : (k : ℕ) → owner_of (replicate 8 0) k ≡ 0
unfolding owner_of
free k = ap (λ (o : ℕ). if k == 0 then 0 else o) (get_or-blank 0 8 (k - 1)) ∙ if-same (k == 0) 0

agree_fresh : (title : List ℕ) → Agree (fresh document title) []
unfolding present applet is_open is_present is_selectable is_registered poll_of owns_timer rows_named rows_since in_session is_outstanding stands Every Ordered some? first
agree_fresh title =
    record {
      tables =
          record {
            presence = λ n. refl;
            selectability = λ n. refl;
            priorities = tt;
            order = tt;
            events = λ n e q. get_or-blank false 20 e;
            control = λ n k. ne_eqb 0 n (λ z. absurd (omega arith));
            poll = λ n. refl;
            timers = λ k n o. ap (λ (z : ℕ). z == n) (free k) ∙ ne_eqb 0 n (λ z. absurd (omega arith));
            rows = λ p. refl;
          };
      desk = record { session = refl; outstanding = refl };
      round = record { openness = refl; arrival = λ o. clashing o refl; waiting = λ o. clashing o refl };
    }

agree-start : (n : ℕ) (title : List ℕ) → Agree (fresh_by n document title).card []
unfolding fresh_by
agree-start zero title = agree_fresh title
agree-start (suc n) title = agree_fresh []

-- An accepted call.
agree-kept : (m : Model) (h : History) (c : Call) → refusal m c ≡ 0 → Ground m → Agree m h
    → Agree (changed m c) (did c (answer m c) ∷ h)
unfolding changed
agree-kept m h c ok s g =
    record {
      tables =
          record {
            presence = presence-kept m h c ok s g.tables;
            selectability = selectability-kept m h c ok s g.tables;
            priorities = priorities-kept m h c ok s g.tables;
            order = order-kept m h c ok s g.tables;
            events = events-kept m h g.round c ok s g.tables;
            control = control-kept m h c ok s g.tables;
            poll = poll-kept m h c ok s g.tables;
            timers = timers-kept m h c ok s g.tables;
            rows = rows-kept m h c ok s g.tables;
          };
      desk = desk-kept m h c g.desk;
      round = round-kept m h c ok s g.tables g.round;
    }

-- its answer has no refusal
pub plain : (m : Model) (c : Call) → (answer m c).refusal ≡ 0
unfolding answer event_answer entry_answer timer_answer arrival_answer
plain m (admin c) = refl
plain m (event (set_event n v)) = refl
plain m (event (clear_event n v)) = refl
plain m (event (ask_event n v)) = refl
plain m (event (request_poll n d)) = refl
plain m (entry (new_entry n help text)) = refl
plain m (entry (change_entry n i help text)) = refl
plain m (entry (enable_entry n i)) = refl
plain m (entry (disable_entry n i)) = refl
plain m (timer (allocate n)) = refl
plain m (timer (release n k)) = refl
plain m (arrival (envelope bytes)) = refl
plain m (arrival (profile bytes)) = refl
plain m (arrival status) = refl
plain m (arrival settled) = refl
plain m next = refl
plain m (proactive c) = refl
plain m (system_command buffer) = refl

-- the accepted history with one accepted, or one refused, call more
pub accepted-more : (c : Call) (a : Answer) (h : History) → a.refusal ≡ 0 → accepted (did c a ∷ h) ≡ did c a ∷ accepted h
unfolding accepted keep
accepted-more c a h e = rw e refl

pub accepted-same : (c : Call) (n : ℕ) (h : History) → accepted (did c (refused_with (suc n)) ∷ h) ≡ accepted h
unfolding accepted keep
accepted-same c n h = rw (eqb-suc-zero n) refl

-- Any call: one that is refused changes neither the card nor the accepted history.
one-call : (m : Model) (h : History) (c : Call) (n : ℕ) → refusal m c ≡ n → Ground m → Agree m (accepted h)
    → Agree (outcome n m c).after (accepted (did c (outcome n m c).answer ∷ h))
unfolding outcome
one-call m h c zero ok s g = subst (Agree (changed m c)) (sym (accepted-more c (answer m c) h (plain m c))) (agree-kept m (accepted h) c ok s g)
one-call m h c (suc n) ok s g = subst (Agree m) (sym (accepted-same c n h)) g

-- ANY SEQUENCE OF CALLS on a fresh card, refused ones included.
pub ground : (title : List ℕ) (calls : List Call) → Ground (card_after document title calls)
ground title calls = record { bounds = after-keeps document title calls; sound = run_sound title calls }

pub agrees : (title : List ℕ) (calls : List Call) → Agree (card_after document title calls) (accepted (history_of title calls))
unfolding card_after fresh_card history_of step accepted keep
agrees title [] = agree-start _ title
agrees title (c ∷ calls) = one-call (card_after document title calls) (history_of title calls) c (refusal (card_after document title calls) c) refl (ground title calls) (agrees title calls)
