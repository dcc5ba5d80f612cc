-- THE FINAL THEOREM: what specs/Promised.antt says holds of every card that the public functions have left, and of their calls as they
-- were seen. Assumes nothing.
use Prim.Native.Nat.{ℕ}
use mathlib.Core.Path.{◌≡◌, refl, sym, ap, ap₂, subst, ◌∙◌}
use mathlib.Core.List.{List}
use Rattle.rules.specs.Holds.{Model}
use Rattle.rules.specs.Held.{view_rows, view_desk}
use Rattle.rules.specs.Calls.{Call}
use Rattle.rules.specs.Step.{step}
use Rattle.rules.specs.Runs.{card_after}
use Rattle.card.specs.declared.Card.{Card}
use Rattle.card.specs.View.{view}
use Rattle.card.specs.Replies.{replied}
use Rattle.history.specs.Handed.{Seen}
use Rattle.history.specs.OnScreen.{hand_outs}
use Rattle.promises.specs.Watched.{calls_of, call, Watched, more}
use Rattle.promises.specs.Promised.{Taken, Handlers, position_of, Orders, HandedOut, none, then, Shows, OnScreen, Promised}
use Rattle.promises.proofs.SameRuns.{next-view, watched-left}
use Rattle.promises.proofs.OnScreen as watched
use Rattle.promises.proofs.CallsNamed.{handlers, orders, shows}
use Rattle.promises.proofs.Carried.{of-call, holds-of-it, judged-of-it, answers-of-it}
use Rattle.promises.proofs.FiringOnce.{fires-once}
use Rattle.promises.proofs.OldNames.{old-list}
use Rattle.promises.proofs.Documented.{room, already}

-- DEMAND 1, every call is taken, whatever its inputs
taken : (c : Card) (x : Call) → Taken c x
taken c x = record { seen = _; card = _; next = call x (replied (step (view c) x)) (step (view c) x).buffer refl refl; call = refl }

-- the card after hand-outs, as the rules have it
handed-view : {title : List ℕ} {l : List Seen} {c k : Card} {buffers : List (List ℕ)} → Watched title l c → HandedOut c buffers k → view k ≡ hand_outs buffers (view c)
unfolding hand_outs
handed-view w none = refl
handed-view {c = c} w (then {b = b} {l = l} n e o r q) =
    let given = next-view w n ∙ ap (λ (y : Call). (step (view c) y).after) e in
    let answered = next-view (more n w) o ∙ ap₂ (λ (v : Model) (y : Call). (step v y).after) given r in
    handed-view (more o (more n w)) q ∙ ap (hand_outs l) answered

-- a card that the public functions have left
module _ {title : List ℕ} {l : List Seen} {c : Card} (w : Watched title l c) where
  on-screen : OnScreen title l c
  unfolding view view_desk card_after
  on-screen =
      record {
        menu = λ e. (watched.screen-is-right w).menu (sym (holds-of-it w).session ∙ e);
        codes = λ e. (watched.screen-is-right w).codes (sym (holds-of-it w).session ∙ e);
        polling = λ e. (watched.screen-is-right w).polling (sym (holds-of-it w).session ∙ e);
        never_both = (watched.screen-is-right w).never_both;
        interval-due = (watched.screen-is-right w).interval-due;
        off-due = (watched.screen-is-right w).off-due;
        mends = λ buffers k q idle room few.
            ap (λ (v : Model). v.desk.due) (handed-view w q)
            ∙ (watched.screen-is-right w).mends buffers (sym (holds-of-it w).outstanding ∙ idle) room few;
      }

  -- THE THEOREM
  pub promised : Promised title l c
  promised =
      record {
        left = watched-left w;
        taken = taken c;
        judged = judged-of-it w;
        handlers = of-call w (λ g d t j. Handlers g t) (handlers title (calls_of l));
        orders = of-call w (λ g d t j. Orders (position_of d) (view_rows d.rows) t (view_rows j.rows)) (orders title (calls_of l));
        shows = of-call w (Shows title) (shows title (calls_of l));
        holds = holds-of-it w;
        answers = answers-of-it w;
        old-list = old-list w;
        one-shots = λ n later turn stretch setting before e. fires-once title n later turn stretch setting before (subst (λ (k : List Seen). Watched title k c) e w);
        screen = on-screen;
        room = room w;
        already = already w;
      }
