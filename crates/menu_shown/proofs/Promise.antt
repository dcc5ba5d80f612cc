-- Whom a menu choice and a help request call: where identifiers are apart, exactly the applet that is the row's owner, while the row is
-- enabled (and offers help). Assumes nothing.
use Prim.Native.Nat.{ℕ, ◌≤◌}
use native.Mathlib.Omega.{arith}
use mathlib.Core.Path.{◌≡◌, refl, ◌∙◌}
use mathlib.Core.Bool.{Bool, true, false, not, ◌&&◌, ◌||◌}
use mathlib.Core.List.{List}
use borrow.Author.Tests.{ne_eqb}
use Rattle.std.specs.Prelude.{◌==◌}
use Rattle.lists.specs.Lists.{some?, count}
use Rattle.lists.proofs.Counts.{count-within}
use Rattle.lists.proofs.Truth.{and-true, and-swap, and_assoc, and_left, or-true, or-false}
use Rattle.lists.proofs.Walk.{some_first, some_alike}
use Rattle.rules.specs.Holds.{Applet, Row, Tables, choice, help}
use Rattle.rules.specs.Rows.{has_identifier}
use Rattle.rules.specs.Arrivals.{wants}
use Rattle.rules.specs.Held.{no_row}
use Rattle.menu.specs.Table.{IdentifiersApart}
use Rattle.menu_shown.specs.Chosen.{is_chosen, chosen_owner}

-- one row at most is asked for, and its owner is called
module _ (i : ℕ) (h : Bool) (rows : List Row) (apart : IdentifiersApart rows) where
  one-asked : count (is_chosen i h) rows ≤ 1
  one-asked =
      let within = count-within (is_chosen i h) (has_identifier i) (λ r e. and_left (r.identifier == i) r.enabled (and_left (r.identifier == i && r.enabled) (r.help || not h) e)) rows in
      omega (arith, apart i)

  owner-called : (n : ℕ) → 1 ≤ n → some? (λ (r : Row). is_chosen i h r && r.owner == n) rows ≡ (chosen_owner i h rows == n)
  unfolding chosen_owner
  owner-called n from = some_first (is_chosen i h) (λ (r : Row). r.owner == n) rows no_row one-asked (ne_eqb 0 n (λ z. omega arith))

pub choice-calls : (t : Tables) (i : ℕ) (x : Applet) → IdentifiersApart t.rows → 1 ≤ x.number → wants t (choice i) x ≡ (chosen_owner i false t.rows == x.number)
unfolding wants
choice-calls t i x apart from =
    some_alike _ _ t.rows (λ (r : Row). counts (r.identifier == i) (r.owner == x.number) r.enabled r.help)
    ∙ owner-called i false t.rows apart x.number from
  where
    counts : (a o e h : Bool) → (a && o && e) ≡ (a && e && (h || true) && o)
    counts true o e h = rw (or-true h, and-true e) (and-swap o e)
    counts false o e h = refl

pub help-calls : (t : Tables) (i : ℕ) (x : Applet) → IdentifiersApart t.rows → 1 ≤ x.number → wants t (help i) x ≡ (chosen_owner i true t.rows == x.number)
unfolding wants
help-calls t i x apart from =
    some_alike _ _ t.rows (λ (r : Row). counts (r.identifier == i) (r.owner == x.number) r.enabled r.help)
    ∙ owner-called i true t.rows apart x.number from
  where
    counts : (a o e h : Bool) → (a && o && e && h) ≡ (a && e && (h || false) && o)
    counts true o e h = rw (or-false h) (and_assoc o e h ∙ and-swap o (e && h))
    counts false o e h = refl
