-- TO LOCK, ENABLE OR SET WHAT IS SO ALREADY, or the reverse, is accepted and changes nothing: after any sequence of calls on a fresh
-- card, refused ones included, where the history of accepted calls says that it is so. Assumes nothing.
use Prim.Native.Nat.{ℕ}
use mathlib.Core.Path.{◌≡◌, ap, ◌∙◌}
use mathlib.Core.Bool.{true, false, not}
use mathlib.Core.List.{List}
use lib.IntN.{ℤ}
use Rattle.lists.specs.Lists.{some?, first}
use Rattle.lists.proofs.Times.{some_alike}
use Rattle.rules.specs.declared.Kind.TheVariants.{Event}
use Rattle.rules.specs.Holds.{Row}
use Rattle.rules.specs.Events.{kind_of, not_supported, not_to_set}
use Rattle.rules.specs.Applets.{present}
use Rattle.rules.specs.Applets as rules
use Rattle.rules.specs.Rows.{has_identifier, its_row, not_its_row}
use Rattle.rules.specs.Held.{no_row}
use Rattle.rules.specs.Calls.{Call, admin, event, entry, lock, unlock, set_event, clear_event, enable_entry, disable_entry}
use Rattle.rules.specs.Refusals.{absent}
use Rattle.rules.specs.Step.{step}
use Rattle.runs.proofs.AlreadySo.{nothing_done, lock-a-locked-one, unlock-a-selectable-one, set-a-registered-one, clear-an-unregistered-one, enable-an-enabled-row, disable-a-disabled-row}
use Rattle.runs.proofs.Looked.{not-absent, its-first}
use Rattle.runs.proofs.Filled.{is-its}
use Rattle.history.specs.Named.{is_present, is_selectable, is_registered, rows_named}
use Rattle.history.proofs.Agrees.{ground, agrees}
use Rattle.history.proofs.Calling.{told}
use Rattle.history.proofs.Promises.{m, h, row-is-the-one-named}

-- applet n was installed and not deleted since
module _ (title : List ℕ) (calls : List Call) (n : ℕ) (there : is_present n (h title calls) ≡ true) where
  here : present (m title calls).tables n ≡ true
  here = (agrees title calls).tables.presence n ∙ there

  found : absent (m title calls).tables n ≡ false
  found = not-absent (m title calls).tables (ground title calls).sound.tables n here

  -- TO LOCK an applet that is locked, and TO UNLOCK one that is selectable.
  pub locked-already : is_selectable n (h title calls) ≡ false → step (m title calls) (admin (lock n)) ≡ nothing_done (m title calls)
  locked-already e = lock-a-locked-one (m title calls) n found ((agrees title calls).tables.selectability n ∙ e)

  pub selectable-already : is_selectable n (h title calls) ≡ true → step (m title calls) (admin (unlock n)) ≡ nothing_done (m title calls)
  selectable-already e = unlock-a-selectable-one (m title calls) n found ((agrees title calls).tables.selectability n ∙ e)

  -- an event that may be set, by its value
  module _ (v : ℤ) (e : ℕ) (kind : kind_of v ≡ Event e) (may : not_to_set (kind_of v) ≡ false) where
    as-named : rules.is_registered (m title calls).tables n (kind_of v) ≡ is_registered n e (h title calls)
    unfolding rules.is_registered
    as-named = ap (rules.is_registered (m title calls).tables n) kind ∙ told (m title calls).tables (h title calls) (ground title calls).sound.tables (agrees title calls).tables n e here

    known : not_supported (kind_of v) ≡ false
    unfolding not_supported
    known = ap not_supported kind

    -- TO SET an event that is registered, and TO CLEAR one that is not.
    pub registered-already : is_registered n e (h title calls) ≡ true → step (m title calls) (event (set_event n v)) ≡ nothing_done (m title calls)
    registered-already q = set-a-registered-one (m title calls) n found v may (as-named ∙ q)

    pub unregistered-already : is_registered n e (h title calls) ≡ false → step (m title calls) (event (clear_event n v)) ≡ nothing_done (m title calls)
    unregistered-already q = clear-an-unregistered-one (m title calls) n found v may known (as-named ∙ q)

  -- an identifier that is a row of this applet
  module _ (i : ℕ) (its : some? (its_row n i) (rows_named (h title calls)) ≡ true) where
    its-row : not_its_row n i (m title calls).tables.rows ≡ false
    unfolding not_its_row
    its-row = ap not (some_alike (its_row n i) _ _ ((agrees title calls).tables.rows _) ∙ its)

    the_row : first (its_row n i) no_row (m title calls).tables.rows ≡ first (has_identifier i) no_row (m title calls).tables.rows
    the_row = its-first (m title calls).tables.rows n i ((ground title calls).sound.tables.identifiers-apart i) (is-its (m title calls).tables.rows n i its-row)

    -- TO ENABLE a row that is enabled, and TO DISABLE one that is disabled.
    pub enabled-already : (first (has_identifier i) no_row (rows_named (h title calls))).enabled ≡ true → step (m title calls) (entry (enable_entry n i)) ≡ nothing_done (m title calls)
    enabled-already e = enable-an-enabled-row (m title calls) n found i its-row (ap (λ (r : Row). r.enabled) (the_row ∙ row-is-the-one-named title calls i no_row) ∙ e)

    pub disabled-already : (first (has_identifier i) no_row (rows_named (h title calls))).enabled ≡ false → step (m title calls) (entry (disable_entry n i)) ≡ nothing_done (m title calls)
    disabled-already e = disable-a-disabled-row (m title calls) n found i its-row (ap (λ (r : Row). r.enabled) (the_row ∙ row-is-the-one-named title calls i no_row) ∙ e)
