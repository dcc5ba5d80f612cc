-- THE MENU LIST'S ORDER over any calls: the rows that stay keep their order among each other, and a new row stands at its place.
-- Assumes nothing.
use Prim.Native.Nat.{ℕ, zero, suc, ◌-◌, ◌≤◌, ◌<◌}
use native.Mathlib.Omega.{arith}
use mathlib.Core.Path.{◌≡◌, refl, sym, ap, ◌∙◌}
use mathlib.Core.Bool.{Bool, true, false, not, ◌&&◌, ◌||◌, or-true}
use mathlib.Core.List.{List, [], ◌∷◌, ◌++◌, map}
use lib.ListN.{length, take, drop, take-append-drop}
use lib.Seq.{take-length, drop-length}
use borrow.Author.Tests.{eqb-true, ne_eqb, lt-ltb, ltb-true}
use Rattle.lists.specs.Tests.{◌<?◌}
use Rattle.std.specs.Prelude.{if◌then◌else◌, ◌==◌}
use Rattle.lists.specs.Lists.{Every, some?, first, keep, insert_at, in?}
use Rattle.lists.proofs.Decided.{clashing, or-either, same}
use Rattle.lists.proofs.Truth.{and-false}
use Rattle.lists.proofs.Every.{every-so}
use Rattle.lists.proofs.Firsts.{some-keep}
use Rattle.lists.proofs.Owned.{every-own, first-both}
use Rattle.lists.proofs.Alike.{keep-each}
use Rattle.lists.proofs.Changes.{keep-keep}
use Rattle.lists.proofs.Keep.{keep_append}
use Rattle.lists.proofs.Keyed.{keys-change}
use Rattle.lists.proofs.Mapped.{map-insert_at, map-keep}
use Rattle.rules.specs.Holds.{Row, Tables, Model}
use Rattle.rules.specs.Rows.{has_identifier, its_row, in_use, place, next_pair, next_identifier, with_entry, with_text, with_enabled, without_rows}
use Rattle.rules.specs.Applets.{applet}
use Rattle.rules.specs.Held.{no_row}
use Rattle.rules.specs.Calls.{Call, admin, event, entry, timer, arrival, next, proactive, system_command, install, delete, lock, unlock, new_entry, change_entry, enable_entry, disable_entry, allocate, release}
use Rattle.rules.specs.Refusals.{refusal}
use Rattle.rules.specs.Step.{admin_tables, entry_tables, timer_tables, tables_after, changed, entry_answer, answer, outcome, step}
use Rattle.rules.specs.Runs.{card_after}
use Rattle.runs.specs.Sound.{SoundTables}
use Rattle.runs.proofs.Filled.{new-entry}
use Rattle.runs.proofs.Looked.{has-its-number}
use Rattle.runs.proofs.Next.{next-unused}
use Rattle.history.proofs.Agrees.{ground}
use Rattle.history.proofs.Answered.{passes}
use Rattle.history.proofs.Applets.{event-rows, turn-rows}
use Rattle.history.proofs.Promises.{m}

-- the identifiers of rows, in the menu list's order
abbrev identifier_of : Row → ℕ
identifier_of r = r.identifier

abbrev pub order : List Row → List ℕ
order rows = map identifier_of rows

module _ (p : ℕ → Bool) where
  -- the identifiers that pass are all in use
  abbrev pub AllInUse : List Row → Type 0
  AllInUse rows = (i : ℕ) → p i ≡ true → in_use i rows ≡ true

  -- one that does not pass, put in anywhere, is not seen
  insert-unseen : (k i : ℕ) (l : List ℕ) → p i ≡ false → keep p (insert_at k i l) ≡ keep p l
  unfolding insert_at keep
  insert-unseen k i l e =
      keep_append p (take k l) (i ∷ drop k l) ∙ rw e (sym (keep_append p (take k l) (drop k l)) ∙ ap (keep p) (take-append-drop k l))

  -- one that is kept passes the other test too
  some-of-kept : {A : Type 0} (f q : A → Bool) (l : List A) → some? f (keep q l) ≡ true → some? (λ x. f x && q x) l ≡ true
  unfolding some? keep
  some-of-kept f q [] e = clashing e refl
  some-of-kept f q (x ∷ l) e = go (q x) e (some-of-kept f q l)
    where
      go : (b : Bool) → some? f (if b then x ∷ keep q l else keep q l) ≡ true → (some? f (keep q l) ≡ true → some? (λ x. f x && q x) l ≡ true)
          → (f x && b || some? (λ x. f x && q x) l) ≡ true
      go true h r = at (f x) h
        where
          at : (a : Bool) → (a || some? f (keep q l)) ≡ true → (a && true || some? (λ x. f x && q x) l) ≡ true
          at true h = refl
          at false h = r h
      go false h r = rw (and-false (f x)) (r h)

  module _ (t : Tables) (s : SoundTables t) where
    -- of the rows that a delete leaves
    without-order : (n : ℕ) → AllInUse (without_rows n t.rows) → keep p (order (without_rows n t.rows)) ≡ keep p (order t.rows)
    unfolding without_rows in_use
    without-order n used =
        sym (map-keep identifier_of p (keep stays t.rows))
        ∙ ap (map identifier_of) (keep-keep (λ r. p r.identifier) stays (λ r. stays r && p r.identifier) (λ r. refl) t.rows ∙ keep-each _ _ t.rows each)
        ∙ map-keep identifier_of p t.rows
      where
        stays : Row → Bool
        stays r = not (r.owner == n)

        its : (r : Row) → first (has_identifier r.identifier) no_row t.rows ≡ r → (stays r && p r.identifier) ≡ p r.identifier
        its r e = go (p r.identifier) refl
          where
            go : (b : Bool) → p r.identifier ≡ b → (stays r && b) ≡ b
            go true q =
                let k : stays (first (has_identifier r.identifier) no_row t.rows) ≡ true = first-both (has_identifier r.identifier) stays no_row t.rows (s.identifiers-apart r.identifier) (some-of-kept _ stays t.rows (used r.identifier q)) in
                let z : stays r ≡ true = rw e at k in
                rw z refl
            go false q = and-false (stays r)

        each : Every (λ r. (stays r && p r.identifier) ≡ p r.identifier) t.rows
        each = every-so _ _ its t.rows (every-own identifier_of no_row t.rows s.identifiers-apart)

  -- an accepted call
  tables-order : (x : Model) (s : SoundTables x.tables) (c : Call) → refusal x c ≡ 0
      → AllInUse x.tables.rows → AllInUse (tables_after x c).rows
      → keep p (order (tables_after x c).rows) ≡ keep p (order x.tables.rows)
  unfolding tables_after admin_tables entry_tables timer_tables with_entry with_text with_enabled next_identifier
  tables-order x s (admin (install n r)) ok u v = refl
  tables-order x s (admin (delete n)) ok u v = without-order x.tables s n v
  tables-order x s (admin (lock n)) ok u v = refl
  tables-order x s (admin (unlock n)) ok u v = refl
  tables-order x s (event c) ok u v = ap (λ rows. keep p (order rows)) (event-rows x.tables c)
  tables-order x s (entry (new_entry n help text)) ok u v =
      ap (keep p) (map-insert_at identifier_of _ _ x.tables.rows) ∙ insert-unseen _ given (order x.tables.rows) (unseen (p given) refl)
    where
      given : ℕ
      given = next_identifier (applet x.tables n) x.tables.rows

      unseen : (b : Bool) → p given ≡ b → b ≡ false
      unseen true e = let a = new-entry x n help text ok in clashing (u given e) (next-unused x.tables s n a.here a.more)
      unseen false e = refl
  tables-order x s (entry (change_entry n i help text)) ok u v = ap (keep p) (keys-change identifier_of no_row _ (λ r. refl) (its_row n i) x.tables.rows)
  tables-order x s (entry (enable_entry n i)) ok u v = ap (keep p) (keys-change identifier_of no_row _ (λ r. refl) (its_row n i) x.tables.rows)
  tables-order x s (entry (disable_entry n i)) ok u v = ap (keep p) (keys-change identifier_of no_row _ (λ r. refl) (its_row n i) x.tables.rows)
  tables-order x s (timer (allocate n)) ok u v = refl
  tables-order x s (timer (release n k)) ok u v = refl
  tables-order x s (arrival c) ok u v = refl
  tables-order x s next ok u v = ap (λ rows. keep p (order rows)) (turn-rows x.tables x.round)
  tables-order x s (proactive c) ok u v = refl
  tables-order x s (system_command buffer) ok u v = refl

  -- any call
  step-order : (x : Model) (s : SoundTables x.tables) (c : Call) → AllInUse x.tables.rows → AllInUse (step x c).after.tables.rows
      → keep p (order (step x c).after.tables.rows) ≡ keep p (order x.tables.rows)
  unfolding step outcome changed
  step-order x s c u v = go (refusal x c) refl v
    where
      go : (k : ℕ) → refusal x c ≡ k → AllInUse (outcome k x c).after.tables.rows
          → keep p (order (outcome k x c).after.tables.rows) ≡ keep p (order x.tables.rows)
      go zero ok v = tables-order x s c ok u v
      go (suc k) no_way v = refl

  -- they are in use before the stretch, and after each call of it
  unfoldable pub AlwaysInUse : (title : List ℕ) (stretch calls : List Call) → Type 0
  AlwaysInUse title [] calls = AllInUse (m title calls).tables.rows
  AlwaysInUse title (c ∷ l) calls = AllInUse (m title (c ∷ l ++ calls)).tables.rows × AlwaysInUse title l calls

  still-there : (title : List ℕ) (stretch calls : List Call) → AlwaysInUse title stretch calls → AllInUse (m title (stretch ++ calls)).tables.rows
  unfolding AlwaysInUse
  still-there title [] calls u = u
  still-there title (c ∷ l) calls u = u.0

  -- ROWS KEEP THEIR ORDER: take any rows that stay in the menu list over a stretch of calls, refused ones included. Whatever is
  -- made, deleted or changed beside them, they stand in the same order after it as before it.
  pub rows-keep-their-order : (title : List ℕ) (stretch calls : List Call) → AlwaysInUse title stretch calls
      → keep p (order (m title (stretch ++ calls)).tables.rows) ≡ keep p (order (m title calls).tables.rows)
  unfolding AlwaysInUse card_after
  rows-keep-their-order title [] calls u = refl
  rows-keep-their-order title (c ∷ l) calls u =
      step-order (m title (l ++ calls)) (ground title (l ++ calls)).sound.tables c (still-there title l calls u.1) u.0
      ∙ rows-keep-their-order title l calls u.1

-- Of two rows that stay, the one that stands above the other stands above it still.
-- i stands above j
unfoldable pub above? : (i j : ℕ) → List ℕ → Bool
above? i j [] = false
above? i j (k ∷ l) = if k == i then in? j l else above? i j l

keep-above : (p : ℕ → Bool) (i j : ℕ) → p i ≡ true → p j ≡ true → (l : List ℕ) → above? i j (keep p l) ≡ above? i j l
unfolding above? keep in?
keep-above p i j pi pj [] = refl
keep-above p i j pi pj (k ∷ l) = go (p k) refl (k == i) refl (keep-above p i j pi pj l)
  where
    seen : in? j (keep p l) ≡ in? j l
    seen = some-keep (λ k. k == j) p (λ k e. ap p (eqb-true k j e) ∙ pj) l

    go : (b : Bool) → p k ≡ b → (c : Bool) → (k == i) ≡ c → above? i j (keep p l) ≡ above? i j l
        → above? i j (if b then k ∷ keep p l else keep p l) ≡ (if c then in? j l else above? i j l)
    go true q true e r = rw e seen
    go true q false e r = rw e r
    go false q true e r = clashing (ap p (eqb-true k i e) ∙ pi) q
    go false q false e r = r

pub the-upper-stays-above : (i j : ℕ) (title : List ℕ) (stretch calls : List Call) → AlwaysInUse (λ k. k == i || k == j) title stretch calls
    → above? i j (order (m title (stretch ++ calls)).tables.rows) ≡ above? i j (order (m title calls).tables.rows)
the-upper-stays-above i j title stretch calls u =
    sym (keep-above both? i j (or-either _ _ (same i)) (rw (same j) (or-true (j == i))) _)
    ∙ ap (above? i j) (rows-keep-their-order both? title stretch calls u)
    ∙ keep-above both? i j (or-either _ _ (same i)) (rw (same j) (or-true (j == i))) _
  where
    both? : ℕ → Bool
    both? k = k == i || k == j

-- A NEW ROW STANDS AT ITS PLACE. On any card, after an accepted new entry:
module _ (x : Model) (n : ℕ) (help : Bool) (text : List ℕ) (ok : (step x (entry (new_entry n help text))).answer.refusal ≡ 0) where
  -- the rows before, the rows after, and the position that the applet requested for this entry
  abbrev pub before : List Row
  before = x.tables.rows

  abbrev pub afterwards : List Row
  afterwards = (step x (entry (new_entry n help text))).after.tables.rows

  abbrev pub position : ℕ
  position = (next_pair (applet x.tables n)).position

  -- the new row: the identifier that the call answered, its applet, its text and help mark; enabled
  abbrev pub new : Row
  new = record { identifier = (step x (entry (new_entry n help text))).answer.number; owner = n; text = text; help = help; enabled = true }

  placed : afterwards ≡ insert_at (place position (length before)) new before
  unfolding step outcome changed tables_after entry_tables with_entry answer entry_answer
  placed =
      let accepted : refusal x (entry (new_entry n help text)) ≡ 0 = passes x (entry (new_entry n help text)) ok in
      ap (λ (k : ℕ). (outcome k x (entry (new_entry n help text))).after.tables.rows) accepted
      ∙ ap (λ (o : ℕ). with_row (next_identifier (applet x.tables n) before) o) (has-its-number x.tables n (new-entry x n help text accepted).here)
      ∙ ap (λ (i : ℕ). with_row i n) (sym (ap (λ (k : ℕ). (outcome k x (entry (new_entry n help text))).answer.number) accepted))
    where
      with_row : (identifier owner : ℕ) → List Row
      with_row i o = insert_at (place position (length before)) (record { identifier = i; owner = o; text = text; help = help; enabled = true }) before

  -- position p from 1 to the row count shifts rows p and after down by one ..
  pub new-row-at-its-place : 1 ≤ position → position ≤ length before → afterwards ≡ take (position - 1) before ++ new ∷ drop (position - 1) before
  unfolding insert_at place
  new-row-at-its-place h k =
      let a : (position == 0) ≡ false = ne_eqb position 0 (λ z. absurd (omega arith)) in
      let b : (length before <? position) ≡ false = not-less (length before <? position) refl in
      placed ∙ rw (a, b) refl
    where
      not-less : (b : Bool) → (length before <? position) ≡ b → b ≡ false
      not-less true e = absurd (omega (arith, ltb-true (length before) position e))
      not-less false e = refl

  -- .. 0, or more than the row count, means last.
  last : place position (length before) ≡ length before → afterwards ≡ before ++ new ∷ []
  unfolding insert_at
  last e = placed ∙ ap (λ k. insert_at k new before) e ∙ rw (take-length before, drop-length before) refl

  pub new-row-last-for-0 : position ≡ 0 → afterwards ≡ before ++ new ∷ []
  unfolding place
  new-row-last-for-0 e = last (rw e refl)

  pub new-row-last-behind-all : length before < position → afterwards ≡ before ++ new ∷ []
  unfolding place
  new-row-last-behind-all h =
      let a : (position == 0) ≡ false = ne_eqb position 0 (λ z. absurd (omega arith)) in
      last (rw (a, lt-ltb (length before) position h) refl)
