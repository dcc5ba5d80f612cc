-- The tables of the card in its one form after any calls are those that the history names (Holds, specs/Promised.antt). Assumes nothing.
use Prim.Native.Nat.{ℕ, ◌≤◌, ◌<◌}
use native.Mathlib.Omega.{arith}
use mathlib.Core.Path.{◌≡◌, refl, sym, ap, subst, ◌∙◌}
use mathlib.Core.Bool.{Bool, true, false}
use mathlib.Core.List.{List}
use mathlib.Core.Logic.{◌⊎◌, inl, inr}
use lib.ListN.{length, get_or}
use borrow.Author.Tests.{ne_eqb}
use Rattle.std.specs.Prelude.{◌==◌}
use Rattle.lists.specs.Lists.{some?, keep, in?}
use Rattle.lists.specs.Tables.{table}
use Rattle.lists.proofs.Tables.{table_at}
use Rattle.lists.proofs.Chosen.{in-keep}
use Rattle.sets.specs.Sets.{has?, is_number, set_of}
use Rattle.sets.proofs.Bits.{is-number, no_number, has-set, has-none}
use Rattle.rules.specs.Holds.{Row, Applet, Bounds, Model, document}
use Rattle.rules.specs.Held.{view_rows, stored_rows, view_desk, stored_desk}
use Rattle.rules.specs.Applets.{nobody, numbers, present, applet}
use Rattle.rules.specs.Commands.{shown_menu, menu_of, menu_bytes}
use Rattle.rules.specs.Calls.{Call}
use Rattle.rules.specs.Runs.{card_after}
use Rattle.rules.proofs.Held.{rows_back, desk-back}
use Rattle.runs.proofs.Looked.{absent-nobody}
use Rattle.applets.specs.ByNumber.{at, roll_of, selectable_set, registered_set, poll_table}
use Rattle.applets.proofs.Numbers.{present-in, by-any}
use Rattle.arrivals.specs.Rounds.{stored_round}
use Rattle.arrivals.proofs.Rounds.{arrival-back}
use Rattle.card.specs.declared.Card.{Card}
use Rattle.card.specs.View.{stored}
use Rattle.history.specs.Histories.{History}
use Rattle.history.specs.Called.{is_open}
use Rattle.history.specs.OnScreen.{wanted}
use Rattle.history.specs.Handed.{title_of, is_shown}
use Rattle.history.proofs.Agrees.{ground}
use Rattle.history.proofs.Promises as runs
use Rattle.history.proofs.Turns.{round-is-open-as-named}
use Rattle.history.proofs.DeskNamed.{title-is-the-one-given, profile-is-the-last-one}
use Rattle.history.proofs.Shown.{rows-shown}
use Rattle.promises.specs.Promised.{Holds}

-- a set of numbers, where no number outside 1 to 8 passes
in-set : (p : ℕ → Bool) (n : ℕ) → (is_number n ≡ false → p n ≡ false) → has? (set_of p) n ≡ p n
in-set p n outside = go (is_number n) refl
  where
    go : (b : Bool) → is_number n ≡ b → has? (set_of p) n ≡ p n
    go true q = has-set p n (is-number n q).0 (is-number n q).1
    go false q = sym (has-none (set_of p) n q) ∙ sym (outside q)

-- nobody is registered
nobody-registered : (e : ℕ) → e < 20 → get_or nobody.events e false ≡ false
unfolding table
nobody-registered e h = table_at 20 (λ i. false) e false h

-- no such number is among those of applets
none_of : (n : ℕ) → (n ≡ 0) ⊎ (8 < n) → in? n (numbers document) ≡ false
unfolding table in? some?
none_of n (inl z) = rw z refl
none_of n (inr g) =
    rw (far 1 (omega arith), far 2 (omega arith), far 3 (omega arith), far 4 (omega arith), far 5 (omega arith), far 6 (omega arith), far 7 (omega arith), far 8 (omega arith)) refl
  where
    far : (k : ℕ) → k ≤ 8 → (k == n) ≡ false
    far k i = ne_eqb k n (λ e. omega arith)

-- after these calls, the card in its one form
module _ (title : List ℕ) (calls : List Call) where
  abbrev pub m : Model
  m = card_after document title calls

  abbrev pub h : History
  h = runs.past title calls

  abbrev pub c : Card
  c = stored m

  -- no number outside 1 to 8 is an applet's
  outside : (n : ℕ) → is_number n ≡ false → at m.tables.applets n ≡ nobody
  unfolding applet
  outside n o = go (present m.tables n) refl
    where
      none : (n ≡ 0) ⊎ (8 < n) → present m.tables n ≡ true → ⊥
      none (inl z) q = omega (arith, runs.from-1-to-8 title calls n q)
      none (inr g) q = omega (arith, runs.from-1-to-8 title calls n q)

      go : (b : Bool) → present m.tables n ≡ b → at m.tables.applets n ≡ nobody
      go true q = absurd (none (no_number n o) q)
      go false q = absent-nobody m.tables n q

  -- and none waits in the round
  outside-round : (n : ℕ) → is_number n ≡ false → in? n m.round.waiting ≡ false
  outside-round n o =
      let g = ground title calls in
      ap (in? n) (subst (λ (b : Bounds). m.round.waiting ≡ keep (λ k. in? k m.round.waiting) (numbers b)) g.bounds g.sound.round.waiting)
      ∙ in-keep (λ k. in? k m.round.waiting) n (numbers document)
      ∙ rw (none_of n (no_number n o)) refl

  pub rows_are : view_rows c.rows ≡ m.tables.rows
  unfolding stored
  rows_are = rows_back m.tables.rows

  -- the rows that are to be shown
  pub shown-is : shown_menu m.tables ≡ keep (is_shown h) (view_rows c.rows)
  shown-is =
      rows-shown m.tables h (runs.sound title calls) (runs.agree title calls).tables (runs.from-1-to-8 title calls) ∙ sym (ap (keep (is_shown h)) rows_are)

  -- DEMAND 3, the tables
  pub holds : Holds title h c
  unfolding stored stored_rows stored_desk stored_round roll_of selectable_set registered_set poll_table view_desk applet
  holds =
      record {
        rows = λ p. rw rows_are (runs.menu-list-holds-what-is-named title calls p);
        row_count = runs.menu-list-is-as-long title calls;
        apart = λ i. rw rows_are (runs.identifiers-are-different title calls i);
        row = λ i none. rw rows_are (runs.row-is-the-one-named title calls i none);
        fits = unfold wanted in subst (λ (r : List Row). length (menu_bytes (menu_of (title_of title) r)) ≤ 250) shown-is fits-as;
        timer = runs.timer-owner-is-the-one-named title calls;
        one-owner = runs.timer-has-one-owner title calls;
        owned-count = runs.owned-count-is-named title calls;
        control = runs.control-owner-is-the-one-named title calls;
        one-control = runs.control-has-one-owner title calls;
        registered = λ n e low other.
            ap (λ (s : ℕ). has? s n) (table_at 20 (registered_set m.tables.applets) e 0 low)
            ∙ in-set (λ (k : ℕ). get_or (at m.tables.applets k).events e false) n (λ o. ap (λ (x : Applet). get_or x.events e false) (outside n o) ∙ nobody-registered e low)
            ∙ (runs.agree title calls).tables.events n e other;
        present = λ n. present-in m.tables (runs.sound title calls) (ground title calls).bounds n ∙ runs.applets-are-those-named title calls n;
        selectable = λ n.
            in-set (λ (k : ℕ). (at m.tables.applets k).selectable) n (λ o. ap (λ (x : Applet). x.selectable) (outside n o)) ∙ (runs.agree title calls).tables.selectability n;
        poll = λ n.
            by-any m.tables (runs.sound title calls) (ground title calls).bounds (λ (x : Applet). x.poll) n ∙ runs.request-is-the-one-named title calls n;
        applet-count = runs.applets-are-as-many title calls;
        title = ap (λ d. d.title) (desk-back m.desk) ∙ title-is-the-one-given title calls;
        profile = profile-is-the-last-one title calls;
        session = runs.session-is-named title calls;
        outstanding = runs.outstanding-is-named title calls;
        round-open = round-is-open-as-named title calls;
        arrived-so = λ o. arrival-back m.round.arrived ∙ (runs.agree title calls).round.arrival (is_open_lem o);
        waiting = λ o n from. in-set (λ k. in? k m.round.waiting) n (outside-round n) ∙ (runs.agree title calls).round.waiting (is_open_lem o) n from;
      }
    where
      is_open_lem : is_open h ≡ true → m.round.is_open ≡ true
      is_open_lem o = round-is-open-as-named title calls ∙ o

      fits-as : length (menu_bytes (menu_of (title_of title) (shown_menu m.tables))) ≤ 250
      fits-as = subst (λ (t : List ℕ). length (menu_bytes (menu_of t (shown_menu m.tables))) ≤ 250) (title-is-the-one-given title calls) (runs.menu-command-fits title calls)
