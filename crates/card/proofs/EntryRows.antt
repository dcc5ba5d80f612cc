-- What a call about entries leaves of the card, and change, enable and disable entry by what the parts of the code say.
-- Assumes nothing.
use Prim.Native.Nat.{ℕ}
use native.Mathlib.Omega.{arith}
use mathlib.Core.Path.{◌≡◌, refl, sym, ap, subst, ◌∙◌}
use mathlib.Core.Bool.{Bool, true, false, not, ◌&&◌}
use mathlib.Core.List.{List, [], ◌∷◌}
use lib.ListN.{take}
use lib.Seq.{take_all}
use borrow.Author.Tests.{eqb-true, ne_eqb}
use Rattle.std.specs.Prelude.{◌==◌}
use Rattle.lists.specs.Lists.{some?, first}
use Rattle.lists.proofs.Decided.{both, clashing}
use Rattle.lists.proofs.Every.{every_first}
use Rattle.lists.proofs.Firsts.{first_passes}
use Rattle.lists.proofs.Tables.{table-alike}
use Rattle.lists.proofs.Truth.{and-false}
use Rattle.sets.specs.Sets.{has?}
use Rattle.rules.specs.declared.Answer.{Answer}
use Rattle.rules.specs.declared.Grant.{Grant}
use Rattle.rules.specs.declared.Rows.{Rows}
use Rattle.rules.specs.Holds.{Row, Bounds, Tables, with_rows}
use Rattle.rules.specs.Held.{no_row, view_rows, stored_rows, stored_answer}
use Rattle.rules.specs.Applets.{nobody, present, applet}
use Rattle.rules.specs.Rows.{its_row, with_text, with_enabled}
use Rattle.rules.specs.Desk.{menu_changes, marked}
use Rattle.rules.specs.Calls.{EntryCall, entry, change_entry, accepted, refused_with}
use Rattle.rules.specs.Refusals.{line, first_holding, refusal}
use Rattle.rules.specs.Step.{step, tables_after, desk_after, entry_tables, answer, entry_answer, round_after}
use Rattle.runs.specs.Sound.{SoundRow, SoundTables}
use Rattle.runs.proofs.Looked.{sound-applet}
use Rattle.runs.proofs.Filled.{ChangesEntry, changes-entry}
use Rattle.applets.specs.ByNumber.{by_number, grant_of, roll_of, selectable_set, registered_set, made_table, poll_table}
use Rattle.menu_shown.proofs.RowTurns.{enabled-shows, text-shows}
use Rattle.menu_entries.specs.declared.Touched.{Touched}
use Rattle.menu_entries.specs.ItsRow.{marked_by, reworded_by}
use Rattle.menu_entries.proofs.Its.{its-known, its-marked, its-reworded, none-marked, none-reworded, kept-reworded, marked-says, reworded-says}
use Rattle.refusals.specs.Lines.{unfit_text}
use Rattle.refusals.proofs.Calls.{turning, turn-refusal, change-refusal}
use Rattle.card.specs.declared.Card.{Card}
use Rattle.card.specs.declared.Reply.{Reply}
use Rattle.card.specs.View.{view, stored, Left}
use Rattle.card.specs.Replies.{replied}
use Rattle.card.proofs.Left.{left-sound, left-bounds}
use Rattle.card.proofs.Marks.{Turns, with_menu_due, MenuMark, menu-desk}
use Rattle.card.proofs.Turned.{nothing-turns, rows-turn-menu}
use Rattle.card.proofs.Replied.{tables_by, after-by, plain-reply, card-is, roll-form, selectable-form, registered-form, made-form, polls-form, control-form, bank-form, round-form}
use Rattle.card.proofs.Present.{present-by, found-by, grant-is, selectable-there}

-- THE CARD AFTER A CALL ABOUT ENTRIES: the rows, how many entries are made, and whether the menu is due
abbrev pub with_entries : Card → (made : List ℕ) → Rows → (due : Bool) → Card
with_entries c made rows due =
    record { roll = c.roll; selectable = c.selectable; registered = c.registered; made = made; polls = c.polls; control = c.control; rows = rows; bank = c.bank; desk = with_menu_due c.desk due; round = c.round }

module _ (c : Card) (left : Left c) (u : Tables) where
  abbrev t : Tables
  t = (view c).tables

  pub entry-card
      : roll_of u.applets ≡ roll_of t.applets
      → selectable_set u.applets ≡ selectable_set t.applets
      → ((e : ℕ) → registered_set u.applets e ≡ registered_set t.applets e)
      → poll_table u.applets ≡ poll_table t.applets
      → u.control ≡ t.control
      → u.timers ≡ t.timers
      → {made : List ℕ} {next : Rows} {turns x : Bool}
      → made ≡ made_table u.applets
      → next ≡ stored_rows u.rows
      → Turns t u turns false
      → MenuMark c.desk turns x
      → with_entries c made next x ≡ stored (record { tables = u; desk = marked t u (view c).desk; round = (view c).round })
  entry-card roll sel reg polls own timers many rows turns x =
      card-is (record { tables = u; desk = marked t u (view c).desk; round = (view c).round }) (round-form c left)
      (roll-form c left ∙ sym roll) (selectable-form c left ∙ sym sel) (registered-form c left ∙ table-alike 20 _ _ (λ e h. sym (reg e))) many (polls-form c left ∙ sym polls)
      (control-form c left ∙ sym own) rows (bank-form c left ∙ sym timers)
      (menu-desk c left u turns x)

-- the owner of a row is there
owner-there : (t : Tables) → SoundTables t → (n i : ℕ) → some? (its_row n i) t.rows ≡ true → present t n ≡ true
owner-there t s n i its =
    let x = first (its_row n i) no_row t.rows in
    let own : x.owner ≡ n = eqb-true x.owner n (both (x.identifier == i) (x.owner == n) (first_passes (its_row n i) no_row t.rows its)).1 in
    sym (ap (present t) own) ∙ (every_first (SoundRow t) (its_row n i) no_row t.rows its s.each_row).owner

-- A CALL THAT CHANGES ROWS ONLY, by what became of the rows
module _ (c : Card) (left : Left c) (n : ℕ) (y : EntryCall) {r : ℕ} (e : r ≡ refusal (view c) (entry y)) (plain : entry_answer (view c).tables y ≡ accepted) {a : Answer} (says : a ≡ stored_answer (refused_with r))
    {shown x : Bool} (sh : shown ≡ has? c.selectable n) (w : Touched) (due : MenuMark c.desk (shown && w.turns) x)
  where
    rows_left : (rows : List Row) → tables_by (view c) (entry y) r ≡ with_rows (view c).tables rows → Turns (view c).tables (with_rows (view c).tables rows) (shown && w.turns) false → w.rows ≡ stored_rows rows
        → ◌≡◌ {A = Reply} (record { card = with_entries c c.made w.rows x; answer = a }) (replied (step (view c) (entry y)))
    unfolding answer desk_after round_after
    rows_left rows ts turns nx =
        plain-reply (view c) (entry y) e plain
        (entry-card c left (with_rows (view c).tables rows) refl refl (λ e. refl) refl refl refl (made-form c left) nx turns due
        ∙ ap stored (sym (after-by (view c) (entry y) e (refl, refl) ts)))
        says

    rows-kept : (r ≡ 0 → ⊥) → w.rows ≡ stored_rows (view c).tables.rows → w.turns ≡ false → ◌≡◌ {A = Reply} (record { card = with_entries c c.made w.rows x; answer = a }) (replied (step (view c) (entry y)))
    rows-kept z nx still =
        rows_left (view c).tables.rows (rw (ne_eqb r 0 z) refl) (subst (λ (b : Bool). Turns (view c).tables (view c).tables b false) (sym (ap (λ (b : Bool). shown && b) still ∙ and-false shown)) (nothing-turns (view c).tables)) nx

    rows-changed
        : r ≡ 0
        → (rows : List Row)
        → present (view c).tables n ≡ true
        → entry_tables (view c).tables y ≡ with_rows (view c).tables rows
        → menu_changes (view c).tables (with_rows (view c).tables rows) ≡ ((applet (view c).tables n).selectable && w.turns)
        → w.rows ≡ stored_rows rows
        → ◌≡◌ {A = Reply} (record { card = with_entries c c.made w.rows x; answer = a }) (replied (step (view c) (entry y)))
    unfolding tables_after
    rows-changed z rows here ts shows nx =
        rows_left rows (ap (tables_by (view c) (entry y)) z ∙ ts)
        (subst (λ (b : Bool). Turns (view c).tables (with_rows (view c).tables rows) b false) (shows ∙ ap (λ (b : Bool). b && w.turns) (sym (sh ∙ selectable-there c left n here))) (rows-turn-menu (view c).tables rows)) nx

-- what acceptance says
two-lines : (there its : Bool) → first_holding (line 2 (not there) ∷ line 11 (not its) ∷ []) ≡ 0 → its ≡ true
unfolding first_holding
two-lines true true h = refl
two-lines true false h = absurd (omega arith)
two-lines false its h = absurd (omega arith)

three-lines : (there its fits : Bool) → first_holding (line 2 (not there) ∷ line 11 (not its) ∷ line 12 (not fits) ∷ []) ≡ 0 → (its ≡ true) × (fits ≡ true)
unfolding first_holding
three-lines true true true h = (refl, refl)
three-lines true true false h = absurd (omega arith)
three-lines true false fits h = absurd (omega arith)
three-lines false its fits h = absurd (omega arith)

-- ENABLE AND DISABLE
turn-tables : (t : Tables) (n i : ℕ) (on : Bool) → entry_tables t (turning on n i) ≡ with_rows t (with_enabled n i on t.rows)
unfolding entry_tables
turn-tables t n i true = refl
turn-tables t n i false = refl

turn-answer : (t : Tables) (n i : ℕ) (on : Bool) → entry_answer t (turning on n i) ≡ accepted
unfolding entry_answer
turn-answer t n i true = refl
turn-answer t n i false = refl

module _ (c : Card) (left : Left c) (n i : ℕ) (on : Bool) {there : Bool} (found : there ≡ has? c.roll.present n)
    {shown x : Bool} (sh : shown ≡ has? c.selectable n) {w : Touched} (is : w ≡ marked_by n i on (view_rows c.rows))
    (due : MenuMark c.desk (shown && w.turns) x)
    {r : ℕ} (e : r ≡ first_holding (line 2 (not there) ∷ line 11 (not w.its) ∷ [])) {a : Answer} (says : a ≡ stored_answer (refused_with r))
  where
    its-is : w.its ≡ some? (its_row n i) (view c).tables.rows
    unfolding view
    its-is = ap (λ (k : Touched). k.its) is ∙ marked-says (view c).tables.rows n i on

    is_turned : r ≡ refusal (view c) (entry (turning on n i))
    is_turned = turn-refusal (view c) n (found-by c left n found) i on (its-is ∙ its-known (view c).tables.rows n i) e

    pub turns-entry : ◌≡◌ {A = Reply} (record { card = with_entries c c.made w.rows x; answer = a }) (replied (step (view c) (entry (turning on n i))))
    unfolding view
    turns-entry = go (some? (its_row n i) (view c).tables.rows) refl
      where
        go : (b : Bool) → some? (its_row n i) (view c).tables.rows ≡ b → ◌≡◌ {A = Reply} (record { card = with_entries c c.made w.rows x; answer = a }) (replied (step (view c) (entry (turning on n i))))
        go true q =
            let t = (view c).tables in
            let s = (left-sound c left).tables in
            let here = owner-there t s n i q in
            let so = is ∙ its-marked t.rows n i s.identifiers-apart q on in
            rows-changed c left n (turning on n i) is_turned (turn-answer t n i on) says sh w due
            (e ∙ rw (found ∙ present-by c left n ∙ here, its-is ∙ q) (unfold first_holding in refl))
            (with_enabled n i on t.rows) here (turn-tables t n i on)
            (enabled-shows t s n i q on ∙ ap (λ (b : Bool). (applet t n).selectable && b) (sym (ap (λ (k : Touched). k.turns) so)))
            (ap (λ (k : Touched). k.rows) so)
        go false q =
            let t = (view c).tables in
            let so = is ∙ none-marked t.rows n i q on in
            rows-kept c left n (turning on n i) is_turned (turn-answer t n i on) says sh w due
            (λ z. clashing (two-lines there w.its (sym e ∙ z)) (its-is ∙ q))
            (ap (λ (k : Touched). k.rows) so) (ap (λ (k : Touched). k.turns) so)

-- CHANGE
module _ (c : Card) (left : Left c) (n i : ℕ) (help : Bool) (text : List ℕ) {there : Bool} (found : there ≡ has? c.roll.present n)
    {shown x : Bool} (sh : shown ≡ has? c.selectable n) {g : Grant} (granted : g ≡ by_number (grant_of nobody) c.roll.grants n)
    {fits : Bool} (fit : fits ≡ not (unfit_text g.text text)) {w : Touched} (is : w ≡ reworded_by n i fits help text (view_rows c.rows))
    (due : MenuMark c.desk (shown && w.turns) x)
    {r : ℕ} (e : r ≡ first_holding (line 2 (not there) ∷ line 11 (not w.its) ∷ line 12 (not fits) ∷ [])) {a : Answer} (says : a ≡ stored_answer (refused_with r))
  where
    row_is : w.its ≡ some? (its_row n i) (view c).tables.rows
    unfolding view
    row_is = ap (λ (k : Touched). k.its) is ∙ reworded-says (view c).tables.rows n i fits help text

    limit_is : g.text ≡ (applet (view c).tables n).limits.text
    unfolding grant_of
    limit_is = ap (λ (k : Grant). k.text) (granted ∙ grant-is c left n)

    is-changed : r ≡ refusal (view c) (entry (change_entry n i help text))
    is-changed = change-refusal (view c) n (found-by c left n found) i help text (row_is ∙ its-known (view c).tables.rows n i) limit_is fit e

    abbrev Changes : Type 0
    Changes = ◌≡◌ {A = Reply} (record { card = with_entries c c.made w.rows x; answer = a }) (replied (step (view c) (entry (change_entry n i help text))))

    kept : (r ≡ 0 → ⊥) → w.rows ≡ stored_rows (view c).tables.rows → w.turns ≡ false → Changes
    unfolding entry_answer
    kept z nx still = rows-kept c left n (change_entry n i help text) is-changed refl says sh w due z nx still

    made_so : r ≡ 0 → some? (its_row n i) (view c).tables.rows ≡ true → w ≡ reworded_by n i true help text (view c).tables.rows → Changes
    unfolding entry_answer entry_tables
    made_so z q worded =
        let t = (view c).tables in
        let s = (left-sound c left).tables in
        let does : ChangesEntry t n i text = changes-entry (view c) n i help text (sym is-changed ∙ z) in
        let whole : take 15 text ≡ text = take_all 15 text (omega (arith, does.fits.to, (sound-applet t s n does.here).text, ap (λ (b : Bounds). b.text) (left-bounds c left))) in
        let so = worded ∙ its-reworded t.rows n i s.identifiers-apart q help text in
        rows-changed c left n (change_entry n i help text) is-changed refl says sh w due z
        (with_text n i help text t.rows) does.here refl
        (text-shows t s n i does.its help text ∙ ap (λ (b : Bool). (applet t n).selectable && b) (sym (ap (λ (k : Touched). k.turns) so)))
        (ap (λ (k : Touched). k.rows) so ∙ ap (λ (k : List ℕ). stored_rows (with_text n i help k t.rows)) whole)

    pub changes-words : Changes
    unfolding view
    changes-words = go (some? (its_row n i) (view c).tables.rows) fits refl refl
      where
        l : List Row
        l = (view c).tables.rows

        go : (b f : Bool) → some? (its_row n i) l ≡ b → fits ≡ f → Changes
        go true true q p =
            made_so (e ∙ rw (found ∙ present-by c left n ∙ owner-there (view c).tables (left-sound c left).tables n i q, row_is ∙ q, p) (unfold first_holding in refl)) q
            (is ∙ ap (λ (f : Bool). reworded_by n i f help text l) p)
        go true false q p =
            let so = is ∙ ap (λ (f : Bool). reworded_by n i f help text l) p ∙ kept-reworded l n i help text in
            kept (λ z. clashing (three-lines there w.its fits (sym e ∙ z)).1 p) (ap (λ (k : Touched). k.rows) so) (ap (λ (k : Touched). k.turns) so)
        go false f q p =
            let so = is ∙ none-reworded l n i q fits help text in
            kept (λ z. clashing (three-lines there w.its fits (sym e ∙ z)).0 (row_is ∙ q)) (ap (λ (k : Touched). k.rows) so) (ap (λ (k : Touched). k.turns) so)
