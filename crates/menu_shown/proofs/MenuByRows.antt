-- What each accepted call changes of the shown menu, by the tests of this crate: the rule compares what is shown before and after, and
-- the tests say the same. Assumes nothing.
use Prim.Native.Nat.{ℕ}
use mathlib.Core.Path.{◌≡◌, refl, ap, ◌∙◌}
use mathlib.Core.Bool.{Bool, true, false, not, beq, ◌&&◌, ◌||◌}
use mathlib.Core.List.{List}
use borrow.Author.Tests.{eq-eqb}
use Rattle.std.specs.Prelude.{if◌then◌else◌}
use Rattle.lists.specs.Lists.{some?, keep, first, change, insert_at, alike?, same?}
use Rattle.lists.proofs.Truth.{and-true, beq-self}
use Rattle.lists.proofs.Alike.{same_self}
use Rattle.lists.proofs.Alike as alike
use Rattle.rules.specs.Holds.{Row, Tables, with_rows}
use Rattle.rules.specs.Rows.{its_row, with_text, with_enabled}
use Rattle.rules.specs.Commands.{selectable, shown_menu}
use Rattle.rules.specs.Desk.{same_row?, menu_changes}
use Rattle.rules.specs.Held.{no_row}
use Rattle.rules.proofs.DueMarks.{row-self}
use Rattle.menu_shown.specs.Chosen.{turns_text, turns_enabled}

-- the lists of rows are not the same
abbrev pub differ : List Row → List Row → Bool
differ l k = not (alike? same_row? l k)

pub same_rows : (l : List Row) → differ l l ≡ false
same_rows l = alike.unlike-not same_row? row-self l

-- A row more: what is shown changes exactly if the new row is shown.
pub differ-insert : (p : Row → Bool) (k : ℕ) (x : Row) (l : List Row) → differ (keep p l) (keep p (insert_at k x l)) ≡ p x
differ-insert p k x l = alike.differ-insert same_row? row-self p k x l

-- A row changed: it was or is shown and the other not, or both are and they differ.
abbrev turns : (Row → Bool) → Row → Row → Bool
turns p x y = if p x then (if p y then not (same_row? x y) else true) else p y

differ-change : (p q : Row → Bool) (f : Row → Row) (d : Row) (l : List Row) → some? q l ≡ true → differ (keep p l) (keep p (change q f l)) ≡ turns p (first q d l) (f (first q d l))
unfolding alike.turns
differ-change p q f d l h = alike.differ-change same_row? row-self p q f d l h

-- change entry
text-turns : (r : Row) (help : Bool) (text : List ℕ) (s : Row → Bool) → s (record { identifier = r.identifier; owner = r.owner; text = text; help = help; enabled = r.enabled }) ≡ s r → turns (λ (x : Row). x.enabled && s x) r (record { identifier = r.identifier; owner = r.owner; text = text; help = help; enabled = r.enabled }) ≡ (s r && turns_text help text r)
unfolding same_row? turns_text
text-turns r help text s k = rw k (go r.enabled (s r) same)
  where
    same : same_row? r (record { identifier = r.identifier; owner = r.owner; text = text; help = help; enabled = r.enabled }) ≡ (same? r.text text && beq r.help help)
    same = rw (eq-eqb r.identifier r.identifier refl, eq-eqb r.owner r.owner refl, beq-self r.enabled) (and-true (same? r.text text && beq r.help help))

    go : (e s : Bool) {m n : Bool} → m ≡ n → (if e && s then (if e && s then not m else true) else (e && s)) ≡ (s && (e && not n))
    go true true h = ap not h
    go true false h = refl
    go false true h = refl
    go false false h = refl

-- enable and disable entry
mark-turns : (r : Row) (b : Bool) (s : Row → Bool) → s (record { identifier = r.identifier; owner = r.owner; text = r.text; help = r.help; enabled = b }) ≡ s r → turns (λ (x : Row). x.enabled && s x) r (record { identifier = r.identifier; owner = r.owner; text = r.text; help = r.help; enabled = b }) ≡ (s r && turns_enabled b r)
unfolding same_row? turns_enabled
mark-turns r b s k = rw k (go r.enabled b (s r) same)
  where
    same : same_row? r (record { identifier = r.identifier; owner = r.owner; text = r.text; help = r.help; enabled = b }) ≡ beq r.enabled b
    same = rw (eq-eqb r.identifier r.identifier refl, eq-eqb r.owner r.owner refl, same_self r.text, beq-self r.help) refl

    go : (e b s : Bool) {m : Bool} → m ≡ beq e b → (if e && s then (if b && s then not m else true) else (b && s)) ≡ (s && not (beq e b))
    go true true true h = ap not h
    go true true false h = refl
    go true false true h = refl
    go true false false h = refl
    go false true true h = refl
    go false true false h = refl
    go false false true h = refl
    go false false false h = refl

module _ (t : Tables) (n i : ℕ) (there : some? (its_row n i) t.rows ≡ true) where
  abbrev its : Row
  its = first (its_row n i) no_row t.rows

  pub text-menu : (help : Bool) (text : List ℕ) → menu_changes t (with_rows t (with_text n i help text t.rows)) ≡ (selectable t its.owner && turns_text help text its)
  unfolding menu_changes shown_menu with_text selectable
  text-menu help text =
      differ-change _ (its_row n i) _ no_row t.rows there
      ∙ text-turns its help text (λ (r : Row). selectable t r.owner) refl

  pub enabled-menu : (b : Bool) → menu_changes t (with_rows t (with_enabled n i b t.rows)) ≡ (selectable t its.owner && turns_enabled b its)
  unfolding menu_changes shown_menu with_enabled selectable
  enabled-menu b =
      differ-change _ (its_row n i) _ no_row t.rows there
      ∙ mark-turns its b (λ (r : Row). selectable t r.owner) refl

-- Rows that appear or disappear: of two selections of a list, the second takes also what passes d.
module _ (p q d : Row → Bool) (more : (r : Row) → q r ≡ (p r || d r)) (apart : (r : Row) → (p r && d r) ≡ false) (l : List Row) where
  pub differ-more : differ (keep p l) (keep q l) ≡ some? d l
  differ-more = alike.differ-more same_row? row-self p q d more apart l

  pub differ-less : differ (keep q l) (keep p l) ≡ some? d l
  differ-less = alike.differ-less same_row? row-self p q d more apart l
