-- What the calls that change the applets change of the shown menu: lock, unlock, delete, new entry; and that the others change nothing.
-- Assumes nothing.
use Prim.Native.Nat.{ℕ, ◌≤◌}
use mathlib.Core.Path.{◌≡◌, refl, sym, ap, ◌∙◌}
use mathlib.Core.Bool.{Bool, true, false, not, beq, ◌&&◌, ◌||◌}
use mathlib.Core.List.{List}
use lib.ListN.{length}
use borrow.Author.Tests.{eq-eqb, ne_eqb, eqb-true, eqb-false}
use Rattle.std.specs.Prelude.{if◌then◌else◌, ◌==◌}
use Rattle.lists.specs.Lists.{some?, keep, change, count}
use Rattle.lists.proofs.Truth.{and-false, or-false, or-true}
use Rattle.lists.proofs.Walk.{some_first}
use Rattle.lists.proofs.Counts.{count-change}
use Rattle.lists.proofs.Firsts.{first_passes, some-append, some-kept}
use Rattle.lists.proofs.Alike.{keep-alike}
use Rattle.lists.proofs.Changes.{first-changed, first-other, some-change, keep-keep}
use Rattle.rules.specs.declared.Request.{Request}
use Rattle.rules.specs.declared.Kind.{Kind}
use Rattle.rules.specs.declared.Kind.TheVariants.{Event, Issuer, Reserved, Unsupported}
use Rattle.rules.specs.Holds.{Applet, Row, Tables, with_applets, with_selectable, with_event, with_control, with_one_more, with_poll}
use Rattle.rules.specs.Events.{call_control}
use Rattle.rules.specs.Applets.{has_number, present, applet, nobody, newcomer, forget, register, with_registration}
use Rattle.rules.specs.Rows.{without_rows, with_entry, place, next_pair, next_identifier}
use Rattle.rules.specs.Commands.{selectable, shown_menu}
use Rattle.rules.specs.Calls.{install, delete, new_entry}
use Rattle.rules.specs.Step.{admin_tables, entry_tables}
use Rattle.rules.specs.Desk.{menu_changes}
use Rattle.menu.specs.Table.{new_row}
use Rattle.menu_shown.specs.Chosen.{is_enabled_of, has_enabled_row}
use Rattle.menu_shown.proofs.MenuByRows.{differ, same_rows, differ-insert, differ-more, differ-less}

abbrev pub NumbersApart : Tables → Type 0
NumbersApart t = (n : ℕ) → count (has_number n) t.applets ≤ 1

-- the row is shown, where applet n is selectable or not, as b says
abbrev owned : Tables → (number : ℕ) → Bool → Row → Bool
owned t n b r = r.enabled && (if r.owner == n then b else selectable t r.owner)

owned-turned : (t : Tables) (n : ℕ) (s b : Bool) (rows : List Row) → differ (keep (owned t n s) rows) (keep (owned t n b) rows) ≡ (not (beq s b) && has_enabled_row n rows)
unfolding has_enabled_row
owned-turned t n s b rows = go s b
  where
    more : (e o s : Bool) → (e && (if o then true else s)) ≡ ((e && (if o then false else s)) || (o && e))
    more true true s = refl
    more true false true = refl
    more true false false = refl
    more false true s = refl
    more false false s = refl

    apart : (e o s : Bool) → ((e && (if o then false else s)) && (o && e)) ≡ false
    apart true true s = refl
    apart true false true = refl
    apart true false false = refl
    apart false true s = refl
    apart false false s = refl

    owned-more : (r : Row) → owned t n true r ≡ (owned t n false r || is_enabled_of n r)
    owned-more r = more r.enabled (r.owner == n) (selectable t r.owner)

    owned-apart : (r : Row) → (owned t n false r && is_enabled_of n r) ≡ false
    owned-apart r = apart r.enabled (r.owner == n) (selectable t r.owner)

    go : (s b : Bool) → differ (keep (owned t n s) rows) (keep (owned t n b) rows) ≡ (not (beq s b) && some? (is_enabled_of n) rows)
    go true true = same_rows (keep (owned t n true) rows)
    go true false = differ-less (owned t n false) (owned t n true) (is_enabled_of n) owned-more owned-apart rows
    go false true = differ-more (owned t n false) (owned t n true) (is_enabled_of n) owned-more owned-apart rows
    go false false = same_rows (keep (owned t n false) rows)

-- two lists that are shown, each by another name
by_names : {a b c d : List Row} {e : Bool} → a ≡ c → b ≡ d → differ c d ≡ e → differ a b ≡ e
by_names p q r = rw (p, q) r

shown-as : (t s : Tables) (n : ℕ) (b : Bool) → ((o : ℕ) → selectable s o ≡ (if o == n then b else selectable t o)) → (rows : List Row) → keep (λ (r : Row). r.enabled && selectable s r.owner) rows ≡ keep (owned t n b) rows
shown-as t s n b e rows = keep-alike _ _ rows (λ r. ap (λ (z : Bool). r.enabled && z) (e r.owner))

-- by the number: n, or another
by_number : (n o : ℕ) {x y z : Bool} → (o ≡ n → x ≡ y) → ((o ≡ n → ⊥) → x ≡ z) → x ≡ (if o == n then y else z)
by_number n o {x} {y} {z} f g = go (o == n) refl
  where
    go : (b : Bool) → (o == n) ≡ b → x ≡ (if b then y else z)
    go true e = f (eqb-true o n e)
    go false e = g (eqb-false o n e)

module _ (t : Tables) (apart : NumbersApart t) where
  pub selectable-is : (o : ℕ) → selectable t o ≡ (applet t o).selectable
  unfolding selectable applet
  selectable-is o = some_first (has_number o) (λ (x : Applet). x.selectable) t.applets nobody (apart o) refl

  selectable-was : (n o : ℕ) → selectable t o ≡ (if o == n then (applet t n).selectable else selectable t o)
  selectable-was n o = by_number n o (λ e. ap (selectable t) e ∙ selectable-is n) (λ e. refl)

-- another applet than n has not its number
not-both : (n o : ℕ) → (o ≡ n → ⊥) → (x : Applet) → has_number n x ≡ true → has_number o x ≡ false
not-both n o h x e = ne_eqb _ _ (λ z. h (sym z ∙ eqb-true x.number n e))

module _ (t : Tables) (apart : NumbersApart t) (n : ℕ) where
  locked : Bool → Tables
  locked b = with_applets t (change (has_number n) (with_selectable b) t.applets)

  locked-apart : (b : Bool) → NumbersApart (locked b)
  unfolding locked
  locked-apart b m = rw (count-change (has_number m) (has_number n) (with_selectable b) (λ x. refl) t.applets) (apart m)

  locked-selectable : (b : Bool) → present t n ≡ true → (o : ℕ) → selectable (locked b) o ≡ (if o == n then b else selectable t o)
  unfolding present applet locked
  locked-selectable b there o =
      by_number n o
      (λ e. ap (selectable (locked b)) e ∙ selectable-is (locked b) (locked-apart b) n ∙ ap (λ (x : Applet). x.selectable) (first-changed (has_number n) (with_selectable b) (λ x. refl) nobody t.applets there))
      (λ e. selectable-is (locked b) (locked-apart b) o ∙ ap (λ (x : Applet). x.selectable) (first-other (has_number o) (has_number n) (with_selectable b) (λ x. refl) (not-both n o e) nobody t.applets) ∙ sym (selectable-is t apart o))

  -- LOCK AND UNLOCK
  pub lock-menu : (b : Bool) → present t n ≡ true → menu_changes t (with_applets t (change (has_number n) (with_selectable b) t.applets)) ≡ (not (beq (applet t n).selectable b) && has_enabled_row n t.rows)
  unfolding menu_changes shown_menu locked
  lock-menu b there =
      by_names
      (shown-as t t n (applet t n).selectable (selectable-was t apart n) t.rows)
      (shown-as t (locked b) n b (locked-selectable b there) t.rows)
      (owned-turned t n (applet t n).selectable b t.rows)

  -- DELETE
  left-selectable : (o : ℕ) → (o ≡ n → ⊥) → selectable (admin_tables t (delete n)) o ≡ selectable t o
  unfolding selectable admin_tables
  left-selectable o h = some-kept _ _ (λ x e. other x e) t.applets
    where
      other : (x : Applet) → not (has_number n x) ≡ false → (has_number o x && x.selectable) ≡ false
      other x e = go (has_number n x) refl e
        where
          go : (b : Bool) → has_number n x ≡ b → not b ≡ false → (has_number o x && x.selectable) ≡ false
          go true k f = rw (not-both n o h x k) refl
          go false k f = cc

  left-shown : (r : Row) → (not (r.owner == n) && (r.enabled && selectable (admin_tables t (delete n)) r.owner)) ≡ owned t n false r
  left-shown r = go (r.owner == n) refl
    where
      go : (b : Bool) → (r.owner == n) ≡ b → (not b && (r.enabled && selectable (admin_tables t (delete n)) r.owner)) ≡ (r.enabled && (if b then false else selectable t r.owner))
      go true e = sym (and-false r.enabled)
      go false e = ap (λ (z : Bool). r.enabled && z) (left-selectable r.owner (eqb-false r.owner n e))

  pub delete-menu : menu_changes t (admin_tables t (delete n)) ≡ ((applet t n).selectable && has_enabled_row n t.rows)
  unfolding menu_changes shown_menu admin_tables without_rows
  delete-menu =
      by_names
      (shown-as t t n (applet t n).selectable (selectable-was t apart n) t.rows)
      (keep-keep _ _ (owned t n false) left-shown t.rows)
      (owned-turned t n (applet t n).selectable false t.rows ∙ ap (λ (b : Bool). b && has_enabled_row n t.rows) (go (applet t n).selectable))
    where
      go : (s : Bool) → not (beq s false) ≡ s
      go true = refl
      go false = refl

-- A change of the applets that leaves every number and lock leaves what is shown.
pub kept-menu : (t s : Tables) → s.rows ≡ t.rows → ((o : ℕ) → selectable s o ≡ selectable t o) → menu_changes t s ≡ false
unfolding menu_changes shown_menu
kept-menu t s e f =
    by_names refl
    (keep-alike _ _ s.rows (λ r. ap (λ (z : Bool). r.enabled && z) (f r.owner)) ∙ ap (keep (λ (r : Row). r.enabled && selectable t r.owner)) e)
    (same_rows (keep (λ (r : Row). r.enabled && selectable t r.owner) t.rows))

-- who is selectable after such a change
changed-alike : (t s : Tables) (n : ℕ) (f : Applet → Applet) → ((x : Applet) → (f x).number ≡ x.number) → ((x : Applet) → (f x).selectable ≡ x.selectable) → s.applets ≡ change (has_number n) f t.applets → (o : ℕ) → selectable s o ≡ selectable t o
unfolding selectable
changed-alike t s n f e g is o =
    ap (some? (λ (x : Applet). x.number == o && x.selectable)) is
    ∙ some-change _ (has_number n) f (λ x. rw (e x, g x) refl) t.applets

controlled : (t : Tables) (c o : ℕ) → selectable (with_control t c) o ≡ selectable t o
unfolding selectable
controlled t c o = refl

joined : (t : Tables) (n : ℕ) (r : Request) (o : ℕ) → selectable (admin_tables t (install n r)) o ≡ (if o == n then true else selectable t o)
unfolding selectable admin_tables newcomer some?
joined t n r o =
    some-append _ t.applets _
    ∙ by_number n o
    (λ e. rw (eq-eqb n o (sym e)) (or-true (selectable t o)))
    (λ e. rw (ne_eqb n o (λ z. e (sym z))) (or-false (selectable t o)))

-- NEW ENTRY
pub entry-menu : (t : Tables) → NumbersApart t → (n : ℕ) → present t n ≡ true → (help : Bool) (text : List ℕ) → menu_changes t (entry_tables t (new_entry n help text)) ≡ (applet t n).selectable
unfolding menu_changes shown_menu entry_tables with_entry present applet
entry-menu t apart n there help text =
    by_names refl
    (keep-alike _ (λ (r : Row). r.enabled && selectable t r.owner) _ (λ r. ap (λ (z : Bool). r.enabled && z) (changed-alike t (entry_tables t (new_entry n help text)) n with_one_more (λ x. refl) (λ x. refl) refl r.owner)))
    (differ-insert (λ (r : Row). r.enabled && selectable t r.owner) (place (next_pair (applet t n)).position (length t.rows)) (new_row (next_identifier (applet t n) t.rows) (applet t n).number help text) t.rows)
    ∙ ap (selectable t) (eqb-true (applet t n).number n (first_passes (has_number n) nobody t.applets there))
    ∙ selectable-is t apart n

-- INSTALL, where no row is the newcomer's
pub install-menu : (t : Tables) → NumbersApart t → (n : ℕ) (r : Request) → has_enabled_row n t.rows ≡ false → menu_changes t (admin_tables t (install n r)) ≡ false
unfolding menu_changes shown_menu admin_tables
install-menu t apart n r none =
    by_names
    (shown-as t t n (applet t n).selectable (selectable-was t apart n) t.rows)
    (shown-as t (admin_tables t (install n r)) n true (joined t n r) t.rows)
    (owned-turned t n (applet t n).selectable true t.rows ∙ rw none (and-false (not (beq (applet t n).selectable true))))

-- SET, CLEAR AND ASK EVENT
pub register-menu : (t : Tables) (n : ℕ) (k : Kind) (b : Bool) → menu_changes t (register t n k b) ≡ false
unfolding register with_registration
register-menu t n (Event e) b = go (e == call_control)
  where
    go : (c : Bool) → menu_changes t (if c then with_control t (if b then n else forget n t.control) else with_applets t (change (has_number n) (with_event e b) t.applets)) ≡ false
    go true = kept-menu t _ refl (λ o. controlled t _ o)
    go false = kept-menu t _ refl (changed-alike t _ n (with_event e b) (λ x. refl) (λ x. refl) refl)
register-menu t n Issuer b = kept-menu t t refl (λ o. refl)
register-menu t n Reserved b = kept-menu t t refl (λ o. refl)
register-menu t n Unsupported b = kept-menu t t refl (λ o. refl)

-- A REQUEST FOR POLLING
pub request-menu : (t : Tables) (n s : ℕ) → menu_changes t (with_applets t (change (has_number n) (with_poll s) t.applets)) ≡ false
request-menu t n s = kept-menu t _ refl (changed-alike t _ n (with_poll s) (λ x. refl) (λ x. refl) refl)
