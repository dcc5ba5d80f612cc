-- THE SEQUENCES ARE THOSE OF THE PUBLIC FUNCTIONS' OWN RESULTS. A card that they have left holds the model after these calls, and the
-- calls with their answers and buffers are those that the promises over all runs speak of. Assumes nothing.
use Prim.Native.Nat.{ℕ, zero, suc}
use mathlib.Core.Path.{◌≡◌, refl, sym, ap, ap₂, ◌∙◌}
use mathlib.Core.Logic.{◌⊎◌, inl, inr}
use mathlib.Core.Bool.{false}
use mathlib.Core.List.{List, [], ◌∷◌}
use lib.ListN.{get_or}
use Rattle.std.specs.Prelude.{if◌then◌else◌, ◌==◌}
use Rattle.rules.specs.Holds.{Model, document}
use Rattle.rules.specs.Calls.{Call, Answer, refused_with, admin, event, entry, timer, arrival, next, proactive, system_command}
use Rattle.rules.specs.Refusals.{refusal}
use Rattle.rules.specs.Step.{answer, outcome, step}
use Rattle.rules.specs.Held.{stored_answer}
use Rattle.rules.specs.Runs.{card_after}
use Rattle.runs.specs.Sound.{SoundTables}
use Rattle.runs.proofs.Waiting.{one-called}
use Rattle.card.specs.declared.Card.{Card}
use Rattle.card.specs.declared.Reply.{Reply}
use Rattle.card.specs.View.{view, stored, Left}
use Rattle.card.specs.Replies.{replied, fresh_reply}
use Rattle.card.proofs.Left.{after-seen, left-sound}
use Rattle.history.specs.Histories.{did, History, accepted}
use Rattle.history.specs.Rounds.{is_next}
use Rattle.history.specs.Runs.{history_of}
use Rattle.history.specs.Handed.{Seen, seen as seen_as, seen_of}
use Rattle.history.proofs.Answered.{calls-nobody}
use Rattle.promises.specs.Watched.{leaving, entries_of, calls_of, on_paper, Next, Watched, call, made, more}

-- the struct of an answer holds it, if whom it calls is read back from its one number ..
paper-back : (a : Answer) → (if get_or a.called 0 0 == 0 then [] else get_or a.called 0 0 ∷ []) ≡ a.called → on_paper (stored_answer a) ≡ a
unfolding on_paper stored_answer
paper-back a e = ap (λ (l : List ℕ). record { refusal = a.refusal; number = a.number; says = a.says; called = l; marks = a.marks }) e

-- .. as it is of every call: only next calls anybody, and it calls nobody whose number is 0
pub next-or-other : (x : Call) → (x ≡ next) ⊎ (is_next x ≡ false)
unfolding is_next
next-or-other (admin y) = inr refl
next-or-other (event y) = inr refl
next-or-other (entry y) = inr refl
next-or-other (timer y) = inr refl
next-or-other (arrival y) = inr refl
next-or-other next = inl refl
next-or-other (proactive y) = inr refl
next-or-other (system_command buffer) = inr refl

answer_back : (m : Model) → SoundTables m.tables → (x : Call) → on_paper (stored_answer (step m x).answer) ≡ (step m x).answer
unfolding step outcome answer
answer_back m s x = go (refusal m x)
  where
    of-call : (x ≡ next) ⊎ (is_next x ≡ false) → on_paper (stored_answer (answer m x)) ≡ answer m x
    of-call (inl e) = rw e (paper-back (answer m next) (one-called m.tables s m.round))
    of-call (inr e) = paper-back (answer m x) (rw (calls-nobody m x e) refl)

    go : (n : ℕ) → on_paper (stored_answer (outcome n m x).answer) ≡ (outcome n m x).answer
    go zero = of-call (next-or-other x)
    go (suc n) = paper-back (refused_with (suc n)) refl

-- what a call was seen as, and the card after it, are what the rules say
pub record Says (c : Card) (s : Seen) (k : Card) : Type 0 where
  pub card : k ≡ stored (step (view c) s.entry.call).after
  pub seen : s ≡ seen_as s.entry.call (step (view c) s.entry.call)

says : {c k : Card} {x : Call} {a : Answer} {b : List ℕ} → k ≡ stored (step (view c) x).after → a ≡ (step (view c) x).answer → b ≡ (step (view c) x).buffer
    → Says c (leaving (did x a) b) k
says {x = x} e p q = record { card = e; seen = ap₂ (λ (a : Answer) (b : List ℕ). leaving (did x a) b) p q }

pub next-says : {c : Card} {s : Seen} {k : Card} → Left c → Next c s k → Says c s k
unfolding replied
next-says {c} left (call x r buffer e q) =
    says (ap (λ (r : Reply). r.card) e) (ap (λ (r : Reply). on_paper r.answer) e ∙ answer_back (view c) (left-sound c left).tables x) q

-- the card holds the model after these calls, and they are seen as the rules say
pub record Same (title : List ℕ) (l : List Seen) (c : Card) : Type 0 where
  pub holds : c ≡ stored (card_after document title (calls_of l))
  pub seen : l ≡ seen_of title (calls_of l)

pub same_left : {title : List ℕ} {l : List Seen} {c : Card} → Same title l c → Left c
same_left {title} {l} same = record { title = title; calls = calls_of l; is = same.holds }

pub same_view : {title : List ℕ} {l : List Seen} {c : Card} → Same title l c → view c ≡ card_after document title (calls_of l)
same_view {title} {l} same = ap view same.holds ∙ after-seen title (calls_of l)

pub watched-same : {title : List ℕ} {l : List Seen} {c : Card} → Watched title l c → Same title l c
unfolding fresh_reply card_after seen_of
watched-same (made r e) = record { holds = ap (λ (r : Reply). r.card) e; seen = refl }
watched-same {title} (more {l = l} {c = c} {s = s} n w) =
    let same = watched-same w in
    let said = next-says (same_left same) n in
    let is : view c ≡ card_after document title (calls_of l) = same_view same in
    record {
      holds = said.card ∙ ap (λ (m : Model). stored (step m s.entry.call).after) is;
      seen = ap₂ (λ (t : Seen) (k : List Seen). t ∷ k) (said.seen ∙ ap (λ (m : Model). seen_as s.entry.call (step m s.entry.call)) is) same.seen;
    }

-- the card after a call, as the rules have it
pub next-view : {title : List ℕ} {l : List Seen} {c k : Card} {s : Seen} → Watched title l c → Next c s k → view k ≡ (step (view c) s.entry.call).after
unfolding card_after
next-view {s = s} w n = same_view (watched-same (more n w)) ∙ sym (ap (λ (v : Model). (step v s.entry.call).after) (same_view (watched-same w)))

-- what was seen of a run has the run's history
pub entries-seen : (title : List ℕ) (calls : List Call) → entries_of (seen_of title calls) ≡ history_of title calls
unfolding seen_of history_of
entries-seen title [] = refl
entries-seen title (c ∷ calls) = ap (λ (h : History). did c (step (card_after document title calls) c).answer ∷ h) (entries-seen title calls)

-- EVERY CARD THAT THE PUBLIC FUNCTIONS HAVE LEFT: the assumption of the next call's contract holds of it, and the history of the accepted
-- calls is the one that the promises over all runs speak of.
pub watched-left : {title : List ℕ} {l : List Seen} {c : Card} → Watched title l c → Left c
watched-left w = same_left (watched-same w)

pub past_is : {title : List ℕ} {l : List Seen} {c : Card} → Watched title l c → accepted (history_of title (calls_of l)) ≡ accepted (entries_of l)
past_is {title} {l} w = ap accepted (sym (entries-seen title (calls_of l)) ∙ ap entries_of (sym (watched-same w).seen))
