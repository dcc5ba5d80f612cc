-- THE SCREEN IS RIGHT, over every card that the public functions have left, with their calls as they were seen. Assumes nothing.
use Prim.Native.Nat.{ℕ}
use mathlib.Core.Path.{sym, subst}
use mathlib.Core.List.{List}
use Rattle.rules.specs.Holds.{Model, document}
use Rattle.rules.specs.Runs.{card_after}
use Rattle.card.specs.declared.Card.{Card}
use Rattle.card.specs.View.{view}
use Rattle.history.specs.Histories.{History, accepted}
use Rattle.history.specs.Handed.{Seen, seen_of}
use Rattle.history.specs.OnScreen.{ScreenRight}
use Rattle.history.proofs.Screen as runs
use Rattle.promises.specs.Watched.{entries_of, calls_of, Watched}
use Rattle.promises.proofs.SameRuns.{same_view, watched-same, past_is}

pub screen-is-right : {title : List ℕ} {l : List Seen} {c : Card} → Watched title l c → ScreenRight title l (view c) (accepted (entries_of l))
screen-is-right {title} {l} {c} w =
    let s = watched-same w in
    subst (λ (m : Model). ScreenRight title l m (accepted (entries_of l))) (sym (same_view s))
    (subst (λ (k : List Seen). ScreenRight title k (card_after document title (calls_of l)) (accepted (entries_of l))) (sym s.seen)
    (subst (λ (h : History). ScreenRight title (seen_of title (calls_of l)) (card_after document title (calls_of l)) h) (past_is w) (runs.screen-is-right title (calls_of l))))
