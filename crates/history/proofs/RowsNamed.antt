-- The menu list: as many rows pass any test as the history names, so it holds just the rows that the history names.
-- Assumes nothing.
use Prim.Native.Nat.{ℕ, suc, ◌+◌, ◌≤◌}
use native.Mathlib.Omega.{arith}
use mathlib.Core.Path.{◌≡◌, refl, sym, ap, ◌∙◌}
use mathlib.Core.Bool.{Bool, true, false, not, beq, ◌&&◌, ◌||◌}
use mathlib.Core.List.{List, [], ◌∷◌, ◌++◌, map}
use borrow.Author.Tests.{eqb-true}
use Rattle.std.specs.Prelude.{if◌then◌else◌, ◌==◌}
use Rattle.lists.specs.Lists.{Every, some?, keep, count, first, change, same?}
use Rattle.lists.proofs.Decided.{turned, both}
use Rattle.lists.proofs.Counts.{count-keep, count_map, count-alike, count-insert_at}
use Rattle.lists.proofs.Times.{if-map, change-each}
use Rattle.rules.specs.Holds.{Row}
use Rattle.rules.specs.Applets.{applet}
use Rattle.rules.specs.Rows.{has_identifier, its_row, next_identifier, with_entry, with_text, with_enabled, without_rows}
use Rattle.rules.specs.Desk.{same_row?}
use Rattle.rules.specs.Calls.{ArrivalCall, Answer, admin, event, entry, timer, arrival, next, proactive, system_command, install, delete, lock, unlock, new_entry, change_entry, enable_entry, disable_entry, allocate, release}
use Rattle.rules.specs.Refusals.{lines, entry_lines}
use Rattle.rules.specs.Step.{admin_tables, entry_tables, timer_tables, tables_after, entry_answer, answer}
use Rattle.rules.proofs.Reader.{same_true}
use Rattle.runs.proofs.Accepted.{accepted as none-holds}
use Rattle.runs.proofs.Filled.{is-its, new-entry, changes-entry}
use Rattle.runs.proofs.Looked.{has-its-number, its-change}
use Rattle.history.specs.Histories.{Entry, did, History, stands}
use Rattle.history.specs.Deeds.{deletes, makes, changes, enables, disables, applet_in, text_in, help_in}
use Rattle.history.specs.Named.{row_made, rows_since, rows_named}
use Rattle.history.proofs.Open.{reading}
use Rattle.history.proofs.Agree.{Kept}
use Rattle.history.proofs.Applets.{event-rows, turn-rows}

-- what an entry leaves of a row that was made before: gone with its applet, or with what the entry gives it
stays : Entry → Row → Bool
stays x r = not (deletes r.owner x)

touched : Entry → Row → Row
touched x r =
    record {
      identifier = r.identifier;
      owner = r.owner;
      text = if changes r.identifier x then text_in x else r.text;
      help = if changes r.identifier x then help_in x else r.help;
      enabled = if enables r.identifier x then true else if disables r.identifier x then false else r.enabled;
    }

made-touched : (x : Entry) (since : History) (e : Entry) → row_made (x ∷ since) e ≡ touched x (row_made since e)
unfolding row_made touched first stands
made-touched x since e =
    λ i. record {
      identifier = e.answer.number;
      owner = applet_in e;
      text = if-map text_in (changes e.answer.number x) x (first (changes e.answer.number) e since) i;
      help = if-map help_in (changes e.answer.number x) x (first (changes e.answer.number) e since) i;
      enabled = marks (enables e.answer.number x) (disables e.answer.number x) (stands (disables e.answer.number) (enables e.answer.number) since) i;
    }
  where
    marks : (a b c : Bool) → not (if a then false else if b then true else c) ≡ (if a then true else if b then false else not c)
    marks true b c = refl
    marks false true c = refl
    marks false false c = refl

-- what was done since begins with one entry more
since-more : (x : Entry) (since h : History) → rows_since (x ∷ since) h ≡ map (touched x) (keep (stays x) (rows_since since h))
unfolding rows_since row_made some? keep stays
since-more x since [] = refl
since-more x since (e ∷ h) = go (makes e) (deletes (applet_in e) x) (some? (deletes (applet_in e)) since) refl (since-more x (since ++ e ∷ []) h)
  where
    rest : List Row
    rest = rows_since (since ++ e ∷ []) h

    go : (a b c : Bool) → deletes (applet_in e) x ≡ b → rows_since (x ∷ since ++ e ∷ []) h ≡ map (touched x) (keep (stays x) rest)
        → (if a && not (b || c) then row_made (x ∷ since) e ∷ rows_since (x ∷ since ++ e ∷ []) h else rows_since (x ∷ since ++ e ∷ []) h) ≡ map (touched x) (keep (stays x) (if a && not c then row_made since e ∷ rest else rest))
    go false b c p i = i
    go true true true p i = i
    go true false true p i = i
    go true true false p i = rw p i
    go true false false p i = rw p (ap (λ (r : Row). r ∷ rows_since (x ∷ since ++ e ∷ []) h) (made-touched x since e) ∙ ap (λ (l : List Row). touched x (row_made since e) ∷ l) i)

rows_back : (x : Entry) (h : History) (p : Row → Bool)
    → count p (rows_since (x ∷ []) h) ≡ count (λ r. stays x r && p (touched x r)) (rows_named h)
unfolding rows_named
rows_back x h p =
    ap (count p) (since-more x [] h)
    ∙ count_map p (touched x) (keep (stays x) (rows_since [] h))
    ∙ count-keep (λ r. p (touched x r)) (stays x) (rows_since [] h)

-- a row by its identifier, changed by f
module _ (f : Row → Row) (p : Row → Bool) (i : ℕ) where
  changed-rows : (n : ℕ) (l : List Row) → count (has_identifier i) l ≤ 1 → some? (its_row n i) l ≡ true → (q : Row → Bool)
      → ((r : Row) → p (if r.identifier == i then f r else r) ≡ q r) → count p (change (its_row n i) f l) ≡ count q l
  changed-rows n l h its q e =
      ap (count p) (its-change l n i h its f ∙ change-each (has_identifier i) f l h)
      ∙ count_map p (λ r. if r.identifier == i then f r else r) l
      ∙ count-alike (λ r. p (if r.identifier == i then f r else r)) q e l

-- .. which gives it a text and a help mark, or an enabled mark
text-given : (r : Row) (i : ℕ) (text : List ℕ) (help : Bool)
    → (if r.identifier == i then record { identifier = r.identifier; owner = r.owner; text = text; help = help; enabled = r.enabled } else r) ≡ record { identifier = r.identifier; owner = r.owner; text = if i == r.identifier then text else r.text; help = if i == r.identifier then help else r.help; enabled = r.enabled }
text-given r i text help = rw (turned i r.identifier) (go (r.identifier == i))
  where
    go : (b : Bool)
        → (if b then record { identifier = r.identifier; owner = r.owner; text = text; help = help; enabled = r.enabled } else r) ≡ record { identifier = r.identifier; owner = r.owner; text = if b then text else r.text; help = if b then help else r.help; enabled = r.enabled }
    go true = refl
    go false = refl

mark-given : (r : Row) (i : ℕ) (v : Bool)
    → (if r.identifier == i then record { identifier = r.identifier; owner = r.owner; text = r.text; help = r.help; enabled = v } else r) ≡ record { identifier = r.identifier; owner = r.owner; text = r.text; help = r.help; enabled = if i == r.identifier then v else r.enabled }
mark-given r i v = rw (turned i r.identifier) (go (r.identifier == i))
  where
    go : (b : Bool)
        → (if b then record { identifier = r.identifier; owner = r.owner; text = r.text; help = r.help; enabled = v } else r) ≡ record { identifier = r.identifier; owner = r.owner; text = r.text; help = r.help; enabled = if b then v else r.enabled }
    go true = refl
    go false = refl

one_more : (b : Bool) (k n : ℕ) → k ≡ n → k + (if b then 1 else 0) ≡ (if b then suc n else n)
one_more true k n e = omega arith
one_more false k n e = omega arith

pub rows-kept : Kept (λ t h. (p : Row → Bool) → count p t.rows ≡ count p (rows_named h))
unfolding tables_after admin_tables entry_tables timer_tables with_text with_enabled without_rows with_entry entry_answer answer rows_named rows_since row_made stays touched lines entry_lines Every count some? first reading
rows-kept m h (admin (install b r)) ok s g p = g.rows p ∙ sym (rows_back _ h p)
rows-kept m h (admin (delete b)) ok s g p =
    count-keep p (λ r. not (r.owner == b)) m.tables.rows
    ∙ count-alike _ (λ r. not (b == r.owner) && p r) (λ r. ap (λ (z : Bool). not z && p r) (turned r.owner b)) m.tables.rows
    ∙ g.rows (λ r. not (b == r.owner) && p r)
    ∙ sym (rows_back _ h p)
rows-kept m h (admin (lock b)) ok s g p = g.rows p ∙ sym (rows_back _ h p)
rows-kept m h (admin (unlock b)) ok s g p = g.rows p ∙ sym (rows_back _ h p)
rows-kept m h (event c) ok s g p = ap (count p) (event-rows m.tables c) ∙ g.rows p ∙ sym (rows_back _ h p)
rows-kept m h (entry (new_entry b help text)) ok s g p =
    count-insert_at p _ (row (applet m.tables b).number) m.tables.rows
    ∙ ap (λ (o : ℕ). count p m.tables.rows + (if p (row o) then 1 else 0)) (has-its-number m.tables b (new-entry m b help text ok).here)
    ∙ one_more (p (row b)) (count p m.tables.rows) _ (g.rows p ∙ sym (rows_back _ h p))
  where
    row : ℕ → Row
    row o = record { identifier = next_identifier (applet m.tables b) m.tables.rows; owner = o; text = text; help = help; enabled = true }
rows-kept m h (entry (change_entry b i help text)) ok s g p =
    changed-rows (λ (r : Row). record { identifier = r.identifier; owner = r.owner; text = text; help = help; enabled = r.enabled }) p i b m.tables.rows (s.sound.tables.identifiers-apart i) (changes-entry m b i help text ok).its _ (λ r. ap p (text-given r i text help))
    ∙ g.rows _
    ∙ sym (rows_back _ h p)
rows-kept m h (entry (enable_entry b i)) ok s g p =
    changed-rows (λ (r : Row). record { identifier = r.identifier; owner = r.owner; text = r.text; help = r.help; enabled = true }) p i b m.tables.rows (s.sound.tables.identifiers-apart i) (is-its m.tables.rows b i (none-holds m (entry (enable_entry b i)) ok).1.0) _ (λ r. ap p (mark-given r i true))
    ∙ g.rows _
    ∙ sym (rows_back _ h p)
rows-kept m h (entry (disable_entry b i)) ok s g p =
    changed-rows (λ (r : Row). record { identifier = r.identifier; owner = r.owner; text = r.text; help = r.help; enabled = false }) p i b m.tables.rows (s.sound.tables.identifiers-apart i) (is-its m.tables.rows b i (none-holds m (entry (disable_entry b i)) ok).1.0) _ (λ r. ap p (mark-given r i false))
    ∙ g.rows _
    ∙ sym (rows_back _ h p)
rows-kept m h (timer (allocate b)) ok s g p = g.rows p ∙ sym (rows_back _ h p)
rows-kept m h (timer (release b k)) ok s g p = g.rows p ∙ sym (rows_back _ h p)
rows-kept m h (arrival c) ok s g p = g.rows p ∙ sym (rows_back _ h p)
rows-kept m h next ok s g p = ap (count p) (turn-rows m.tables m.round) ∙ g.rows p ∙ sym (rows_back _ h p)
rows-kept m h (proactive c) ok s g p = g.rows p ∙ sym (rows_back _ h p)
rows-kept m h (system_command buffer) ok s g p = g.rows p ∙ sym (rows_back _ h p)

-- an arrival and a turn leave the rows that the history names
pub arrival-rows : (c : ArrivalCall) (a : Answer) (h : History) (p : Row → Bool) → count p (rows_named (did (arrival c) a ∷ h)) ≡ count p (rows_named h)
unfolding rows_named rows_since stays touched reading
arrival-rows c a h p = rows_back (did (arrival c) a) h p

pub next-rows : (a : Answer) (h : History) (p : Row → Bool) → count p (rows_named (did next a ∷ h)) ≡ count p (rows_named h)
unfolding rows_named rows_since stays touched reading
next-rows a h p = rows_back (did next a) h p

-- rows that the test for it takes for the same are the same
marks-alike : (a b : Bool) → beq a b ≡ true → a ≡ b
marks-alike true true e = refl
marks-alike true false e = sym e
marks-alike false true e = e
marks-alike false false e = refl

pub same_row : (r q : Row) → same_row? r q ≡ true → r ≡ q
unfolding same_row?
same_row r q e =
    let a = both _ (beq r.enabled q.enabled) e in
    let b = both _ (beq r.help q.help) a.0 in
    let c = both _ (same? r.text q.text) b.0 in
    let d = both (r.identifier == q.identifier) (r.owner == q.owner) c.0 in
    λ i. record {
      identifier = eqb-true r.identifier q.identifier d.0 i;
      owner = eqb-true r.owner q.owner d.1 i;
      text = same_true r.text q.text c.1 i;
      help = marks-alike r.help q.help b.1 i;
      enabled = marks-alike r.enabled q.enabled a.1 i;
    }
