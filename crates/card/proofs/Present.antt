-- Who is there and who is selectable, by the sets of a card that calls have left.
-- Assumes nothing.
use Prim.Native.Nat.{ℕ, ◌≤◌}
use native.Mathlib.Omega.{arith}
use mathlib.Core.Path.{◌≡◌, sym, ap, ◌∙◌}
use mathlib.Core.Bool.{Bool, true, not}
use mathlib.Core.List.{List}
use Rattle.lists.proofs.Truth.{not-not}
use Rattle.sets.specs.Sets.{has?}
use Rattle.sets.proofs.Bits.{has-set}
use Rattle.rules.specs.declared.Roll.{Roll}
use Rattle.rules.specs.Holds.{Applet, Bounds}
use Rattle.rules.specs.Applets.{nobody, present, applet}
use Rattle.rules.specs.Refusals.{absent}
use Rattle.runs.proofs.Looked.{number-from, number-to, absent-is}
use Rattle.applets.specs.ByNumber.{at, by_number, grant_of, roll_of, selectable_set, made_table, poll_table}
use Rattle.applets.proofs.Numbers.{by-any, present-in}
use Rattle.card.specs.declared.Card.{Card}
use Rattle.card.specs.View.{view, Left}
use Rattle.card.proofs.Left.{left-sound, left-bounds}
use Rattle.card.proofs.Replied.{roll-form, selectable-form, made-form, polls-form}

-- whether an applet is there, by the set of those present
pub present-by : (c : Card) (left : Left c) (n : ℕ) → has? c.roll.present n ≡ present (view c).tables n
present-by c left n =
    ap (λ (r : Roll). has? r.present n) (roll-form c left) ∙ present-in (view c).tables (left-sound c left).tables (left-bounds c left) n

-- .. and whether it is refused as absent
pub gone-by : (c : Card) (left : Left c) (n : ℕ) {there : Bool} → there ≡ has? c.roll.present n → absent (view c).tables n ≡ not there
gone-by c left n found = absent-is (view c).tables (left-sound c left).tables n ∙ ap not (sym (found ∙ present-by c left n))

pub found-by : (c : Card) (left : Left c) (n : ℕ) {there : Bool} → there ≡ has? c.roll.present n → there ≡ not (absent (view c).tables n)
found-by c left n {there} found = not-not there ∙ ap not (sym (gone-by c left n found))

-- what an applet was installed with, how many entries it has made, and what it requests, by its number
module _ (c : Card) (left : Left c) (n : ℕ) where
  pub grant-is : by_number (grant_of nobody) c.roll.grants n ≡ grant_of (applet (view c).tables n)
  unfolding roll_of applet
  grant-is =
      ap (λ (r : Roll). by_number (grant_of nobody) r.grants n) (roll-form c left)
      ∙ by-any (view c).tables (left-sound c left).tables (left-bounds c left) grant_of n

  pub made-is : by_number 0 c.made n ≡ (applet (view c).tables n).made
  unfolding made_table applet
  made-is =
      ap (λ (l : List ℕ). by_number 0 l n) (made-form c left)
      ∙ by-any (view c).tables (left-sound c left).tables (left-bounds c left) (λ (x : Applet). x.made) n

  pub poll-is : by_number 0 c.polls n ≡ (applet (view c).tables n).poll
  unfolding poll_table applet
  poll-is =
      ap (λ (l : List ℕ). by_number 0 l n) (polls-form c left)
      ∙ by-any (view c).tables (left-sound c left).tables (left-bounds c left) (λ (x : Applet). x.poll) n

-- a number that is there is one of 1 to 8
module _ (c : Card) (left : Left c) (n : ℕ) (there : has? c.roll.present n ≡ true) where
  here : present (view c).tables n ≡ true
  here = sym (present-by c left n) ∙ there

  pub low-is : 1 ≤ n
  low-is = number-from (view c).tables (left-sound c left).tables n here

  pub high_is : n ≤ 8
  high_is =
      let eight : (view c).tables.bounds.applets ≡ 8 = ap (λ (b : Bounds). b.applets) (left-bounds c left) in
      omega (arith, number-to (view c).tables (left-sound c left).tables n here, eight)

pub selectable-has : (c : Card) (left : Left c) (k : ℕ) → 1 ≤ k → k ≤ 8 → has? c.selectable k ≡ (at (view c).tables.applets k).selectable
unfolding selectable_set
selectable-has c left k a b = ap (λ (s : ℕ). has? s k) (selectable-form c left) ∙ has-set (λ k. (at (view c).tables.applets k).selectable) k a b

-- whether an applet that is there is selectable
pub selectable-there : (c : Card) (left : Left c) (n : ℕ) → present (view c).tables n ≡ true → has? c.selectable n ≡ (applet (view c).tables n).selectable
unfolding applet
selectable-there c left n there =
    let sound = (left-sound c left).tables in
    let eight : (view c).tables.bounds.applets ≡ 8 = ap (λ (b : Bounds). b.applets) (left-bounds c left) in
    selectable-has c left n (number-from (view c).tables sound n there) (omega (arith, number-to (view c).tables sound n there, eight))
