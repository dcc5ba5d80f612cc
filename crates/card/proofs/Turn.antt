-- Whom next names: the first in order of those who wait, are wanted still and are selectable.
-- Assumes nothing.
use Prim.Native.Nat.{ℕ, ◌≤◌}
use mathlib.Core.Path.{◌≡◌, refl, sym, ap, ap₂, subst, ◌∙◌}
use mathlib.Core.Logic.{◌⊎◌, inl, inr}
use mathlib.Core.Bool.{Bool, true, false, ◌&&◌}
use mathlib.Core.List.{List, [], ◌∷◌}
use lib.ListN.{take, get_or}
use Rattle.lists.specs.Lists.{Every, some?, keep, first, in?}
use Rattle.lists.proofs.Decided.{clashing, both}
use Rattle.lists.proofs.Every.{every-all, every-keep}
use Rattle.lists.proofs.Firsts.{first-kept}
use Rattle.lists.proofs.Keep.{keep-none}
use Rattle.lists.proofs.Truth.{and-false}
use Rattle.sets.specs.Sets.{is_number, has?, set_both}
use Rattle.sets.proofs.Bits.{has-set, has-none, is-number}
use Rattle.rules.specs.Holds.{Applet, Tables, Round, Model, no_round}
use Rattle.rules.specs.Applets.{applet, present, in_order}
use Rattle.rules.specs.Arrivals.{wants}
use Rattle.rules.specs.Rounds.{turns, named}
use Rattle.runs.specs.Sound.{SoundTables}
use Rattle.runs.proofs.Looked.{absent-nobody}
use Rattle.applets.specs.ByNumber.{at}
use Rattle.applets.proofs.Order.{in-order-set}
use Rattle.arrivals.specs.Whom.{IsFor}
use Rattle.arrivals.specs.Rounds.{view_round}
use Rattle.arrivals.proofs.Waiting.{waits-has}
use Rattle.card.specs.declared.Card.{Card}
use Rattle.card.specs.View.{view, Left}
use Rattle.card.proofs.Left.{left-sound, left-bounds}
use Rattle.card.proofs.Order.{order_is}
use Rattle.card.proofs.Present.{selectable-has}

module _ (c : Card) (left : Left c) where
  abbrev m : Model
  m = view c

  abbrev t : Tables
  t = m.tables

  abbrev q : Round
  q = m.round

  abbrev l : List ℕ
  l = named t q

  abbrev call_order : List ℕ
  call_order = take c.roll.count c.roll.order

  sound : SoundTables t
  sound = (left-sound c left).tables

  -- with no round open nobody waits
  pub closed_is : c.round.«open» ≡ false → q ≡ no_round
  unfolding view view_round
  closed_is e = (left-sound c left).round.closed e

  none-waits : turns t no_round ≡ []
  unfolding turns in_order in? some?
  none-waits = rw (keep-none _ (λ (x : Applet). and-false (x.selectable && wants t no_round.arrived x)) t.applets) refl

  pub closed_none : c.round.«open» ≡ false → l ≡ []
  unfolding named
  closed_none e = ap (λ (r : Round). take 1 (turns t r)) (closed_is e) ∙ ap (take 1) none-waits

  -- WHOM NEXT NAMES: nobody, or one who is there
  abbrev pub Turn : ℕ → Type 0
  Turn n = ((l ≡ []) × (n ≡ 0)) ⊎ ((l ≡ n ∷ []) × (n ≡ 0 → ⊥) × (present t n ≡ true))

  module _ {still : ℕ} (f : IsFor t q.arrived still) where
    abbrev who : ℕ
    who = set_both (set_both c.selectable still) c.round.waiting

    abbrev ready : Applet → Bool
    ready x = (x.selectable && wants t q.arrived x) && in? x.number q.waiting

    who-has : (k : ℕ) → 1 ≤ k → k ≤ 8 → (at t.applets k).number ≡ k → has? who k ≡ ready (at t.applets k)
    unfolding view view_round
    who-has k low high there =
        has-set (λ k. has? (set_both c.selectable still) k && has? c.round.waiting k) k low high
        ∙ ap₂ (λ (x y : Bool). x && y)
        (has-set (λ k. has? c.selectable k && has? still k) k low high ∙ ap₂ (λ (x y : Bool). x && y) (selectable-has c left k low high) (f.each k low high there))
        (sym (waits-has c.round.waiting k low high) ∙ ap (λ (j : ℕ). in? j q.waiting) (sym there))

    turns-are : turns t q ≡ keep (has? who) call_order
    unfolding turns
    turns-are = in-order-set t sound (left-bounds c left) ready who who-has ∙ ap (keep (has? who)) (sym (order_is c left))

    -- one of the set is there
    someone : (n : ℕ) → has? who n ≡ true → n ≡ 0 → ⊥
    unfolding has?
    someone n e z = clashing (rw z at e) refl

    is-there : (n : ℕ) → has? who n ≡ true → present t n ≡ true
    is-there n e = go (present t n) refl
      where
        inside : is_number n ≡ true
        inside = number (is_number n) refl
          where
            number : (b : Bool) → is_number n ≡ b → b ≡ true
            number true p = refl
            number false p = clashing e (sym (has-none who n p))

        go : (b : Bool) → present t n ≡ b → b ≡ true
        go true p = refl
        go false p =
            let range = is-number n inside in
            let selected : (at t.applets n).selectable ≡ true =
            sym (selectable-has c left n range.0 range.1)
            ∙ (both (has? c.selectable n) (has? still n)
            (sym (has-set (λ k. has? c.selectable k && has? still k) n range.0 range.1)
            ∙ (both (has? (set_both c.selectable still) n) (has? c.round.waiting n) (sym (has-set (λ k. has? (set_both c.selectable still) k && has? c.round.waiting k) n range.0 range.1) ∙ e)).0)).0
            in
            clashing selected (unfold applet in ap (λ (x : Applet). x.selectable) (absent-nobody t n p))

    pub turn : {n : ℕ} → n ≡ first (has? who) 0 call_order → Turn n
    turn {n} e = go (keep (has? who) call_order) refl (e ∙ first-kept (has? who) 0 call_order)
      where
        go : (k : List ℕ) → keep (has? who) call_order ≡ k → n ≡ get_or k 0 0 → Turn n
        go [] p z = inl (unfold named in ap (take 1) (turns-are ∙ p), z)
        go (x ∷ k) p z = inr (unfold named in ap (take 1) (turns-are ∙ p) ∙ ap (λ (j : ℕ). j ∷ []) (sym z), subst (λ (j : ℕ). j ≡ 0 → ⊥) (sym z) (someone x in-who), subst (λ (j : ℕ). present t j ≡ true) (sym z) (is-there x in-who))
          where
            passed : Every (λ k. Unit {0} × (has? who k ≡ true)) (x ∷ k)
            passed = subst (Every (λ k. Unit {0} × (has? who k ≡ true))) p (every-keep {A = ℕ} (λ k. Unit {0}) (has? who) call_order (every-all {A = ℕ} (λ k. Unit {0}) (λ k. tt) call_order))

            in-who : has? who x ≡ true
            in-who = unfold Every in passed.0.1
