-- What is read in a row that the array holds is what the rules say of it.
-- Assumes nothing.
use Prim.Native.Nat.{ℕ}
use mathlib.Core.Path.{◌≡◌, refl, sym, ap, ap₂, subst, ◌∙◌}
use mathlib.Core.Bool.{Bool, true, false, not, beq, ◌&&◌, ◌||◌}
use mathlib.Core.List.{List, [], ◌∷◌}
use lib.ListN.{take}
use Rattle.std.specs.Prelude.{◌==◌}
use Rattle.std.specs.List.{list_any}
use borrow.Author.Tests.{eqb-true}
use Rattle.lists.specs.Lists.{alike?, same?, some?, first}
use Rattle.lists.proofs.Alike.{same_self}
use Rattle.lists.proofs.Decided.{clashing}
use Rattle.lists.proofs.Chains.{some_any}
use Rattle.lists.proofs.Looking.{map_first}
use Rattle.rules.specs.declared.Row as held
use Rattle.rules.specs.declared.Rows.{Rows}
use Rattle.rules.specs.Holds.{Row}
use Rattle.rules.specs.Held.{view_row, stored_row, view_rows, no_row, TidyRows}
use Rattle.menu.proofs.Tidy.{blank, row_back, held-is, some-viewed}
use Rattle.menu_shown.specs.Chosen.{chosen_owner, is_enabled_of, has_enabled_row, is_shown, has_shown_row, turns_text, turns_enabled}

-- the answer of what compares two texts
same-true : (l k : List ℕ) → same? l k ≡ true → l ≡ k
unfolding same? alike?
same-true [] [] e = refl
same-true [] (y ∷ k) e = clashing e refl
same-true (x ∷ l) [] e = clashing e refl
same-true (x ∷ l) (y ∷ k) e = go (x == y) refl e (λ f. same-true l k f)
  where
    go : (b : Bool) → (x == y) ≡ b → (b && same? l k) ≡ true → (same? l k ≡ true → l ≡ k) → x ∷ l ≡ y ∷ k
    go true p f g = ap₂ (λ (n : ℕ) (m : List ℕ). n ∷ m) (eqb-true x y p) (g f)
    go false p f g = clashing f refl

pub tells-same : (l k : List ℕ) {r : Bool} → (r ≡ true → l ≡ k) × (l ≡ k → r ≡ true) → r ≡ same? l k
tells-same l k {r} f = go r (same? l k) refl refl
  where
    go : (b s : Bool) → r ≡ b → same? l k ≡ s → r ≡ same? l k
    go true true p q = p ∙ sym q
    go true false p q = clashing (subst (λ (z : List ℕ). same? l z ≡ true) (f.0 p) (same_self l)) q
    go false true p q = clashing (f.1 (same-true l k q)) p
    go false false p q = p ∙ sym q

-- a search over the rows that the array holds
abbrev pub asked_at : (identifier : ℕ) (help : Bool) → held.Row → Bool
asked_at i help x = x.identifier == i && x.enabled && (x.help || not help)

pub asked : (s : Rows) (i : ℕ) (help : Bool) → TidyRows s → (first (asked_at i help) blank (take s.count s.at)).owner ≡ chosen_owner i help (view_rows s)
unfolding stored_row chosen_owner
asked s i help t =
    ap (λ (l : List held.Row). (first (asked_at i help) blank l).owner) (held-is s t)
    ∙ sym (ap (λ (x : held.Row). x.owner) (map_first stored_row (asked_at i help) no_row (view_rows s)))

abbrev pub enabled_of : (applet : ℕ) → held.Row → Bool
enabled_of n x = x.owner == n && x.enabled

pub has_row : (s : Rows) (n : ℕ) {l : List held.Row} {b : Bool} → l ≡ take s.count s.at → b ≡ list_any (enabled_of n) l → b ≡ has_enabled_row n (view_rows s)
unfolding view_row has_enabled_row
has_row s n {l} p e = e ∙ some_any _ l ∙ ap (some? (enabled_of n)) p ∙ some-viewed s (is_enabled_of n)

abbrev pub shown_to : (selectable : ℕ) → held.Row → Bool
shown_to k x = is_shown k (view_row x)

pub shown_row : (s : Rows) (k : ℕ) {l : List held.Row} {b : Bool} → l ≡ take s.count s.at → b ≡ list_any (shown_to k) l → b ≡ has_shown_row k (view_rows s)
unfolding has_shown_row
shown_row s k {l} p e = e ∙ some_any _ l ∙ ap (some? (shown_to k)) p ∙ some-viewed s (is_shown k)

-- a row found
module _ (x : held.Row) (r : Row) (is : x ≡ stored_row r) where
  enabled-is : {b : Bool} → x.enabled ≡ b → r.enabled ≡ b
  unfolding stored_row
  enabled-is e = sym (ap (λ (y : held.Row). y.enabled) is) ∙ e

  help-is : {b : Bool} → x.help ≡ b → r.help ≡ b
  unfolding stored_row
  help-is e = sym (ap (λ (y : held.Row). y.help) is) ∙ e

  view-is : view_row x ≡ r
  view-is = ap view_row is ∙ row_back r

  pub enabled-turns : (b : Bool) → not (beq x.enabled b) ≡ turns_enabled b r
  unfolding turns_enabled
  enabled-turns b = ap (λ (a : Bool). not (beq a b)) (sym (enabled-is refl))

  module _ (help : Bool) (text : List ℕ) where
    same-is : {b c : Bool} → b ≡ same? (view_row x).text text → b ≡ c → same? r.text text ≡ c
    same-is e h = ap (λ (y : Row). same? y.text text) (sym view-is) ∙ sym e ∙ h

    pub disabled-stays : x.enabled ≡ false → false ≡ turns_text help text r
    unfolding turns_text
    disabled-stays e = rw (enabled-is e) refl

    pub other-turns : {b : Bool} → x.enabled ≡ true → b ≡ same? (view_row x).text text → b ≡ false → true ≡ turns_text help text r
    unfolding turns_text
    other-turns e s h = rw (enabled-is e, same-is s h) refl

    pub help-turns : {b : Bool} → x.enabled ≡ true → b ≡ same? (view_row x).text text → b ≡ true → not (beq x.help help) ≡ turns_text help text r
    unfolding turns_text
    help-turns e s h = rw (enabled-is e, same-is s h) (ap (λ (a : Bool). not (beq a help)) (sym (help-is refl)))
