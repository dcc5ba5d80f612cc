-- What a new entry leaves of the card: its row stands where the applet's next pair asks, and one more of its entries is made.
-- Assumes nothing.
use Prim.Native.Nat.{ℕ, zero, suc, ◌+◌, ◌<◌}
use native.Mathlib.Omega.{arith}
use mathlib.Core.Path.{◌≡◌, refl, sym, ap, ap₂, subst, ◌∙◌}
use mathlib.Core.Bool.{Bool, not, false}
use mathlib.Core.List.{List, [], ◌∷◌}
use lib.ListN.{length, take, get_or}
use lib.Seq.{take_all}
use borrow.Author.Tests.{ne_eqb}
use Rattle.lists.specs.Tests.{◌≤?◌}
use Rattle.std.specs.Prelude.{if◌then◌else◌, ◌==◌}
use Rattle.sets.specs.Sets.{has?}
use Rattle.rules.specs.declared.Answer.{Answer}
use Rattle.rules.specs.declared.Grant.{Grant}
use Rattle.rules.specs.declared.Pair.{Pair}
use Rattle.rules.specs.Holds.{Applet, Row, Bounds, Tables, with_one_more}
use Rattle.rules.specs.Held.{view_rows, stored_rows, stored_answer}
use Rattle.rules.specs.Applets.{nobody, present, applet}
use Rattle.rules.specs.Rows.{no_pair, next_pair, next_identifier, with_entry}
use Rattle.rules.specs.Calls.{entry, new_entry, refused_with, numbered}
use Rattle.rules.specs.Refusals.{line, first_holding, refusal}
use Rattle.rules.specs.Step.{step, outcome, tables_after, desk_after, entry_tables, answer, entry_answer, round_after}
use Rattle.runs.specs.Sound.{SoundTables}
use Rattle.runs.proofs.Looked.{has-its-number, sound-applet}
use Rattle.runs.proofs.Filled.{NewEntry, new-entry}
use Rattle.runs.proofs.Room.{entry-room}
use Rattle.applets.specs.ByNumber.{by_number, grant_of, table_with}
use Rattle.applets.proofs.Numbers.{roll-kept, selectable-kept, registered-kept, poll-kept}
use Rattle.applets.proofs.Made.{made_more, pair-next}
use Rattle.menu.proofs.Tidy.{inserted-room}
use Rattle.menu_entries.specs.declared.Added.{Added}
use Rattle.menu_entries.specs.ItsRow.{entered_by}
use Rattle.refusals.specs.Lines.{unfit_text}
use Rattle.refusals.proofs.Calls.{new-refusal}
use Rattle.card.specs.declared.Card.{Card}
use Rattle.card.specs.declared.Reply.{Reply}
use Rattle.card.specs.View.{view, stored, Left}
use Rattle.card.specs.Replies.{replied}
use Rattle.card.proofs.Left.{left-sound, left-bounds}
use Rattle.card.proofs.Replied.{replies, tables_by, after-by, refused-stays, made-form}
use Rattle.card.proofs.Present.{found-by, grant-is, made-is, selectable-there}
use Rattle.card.proofs.Marks.{Turns, MenuMark}
use Rattle.card.proofs.Turned.{new-entry-turns-menu}
use Rattle.card.proofs.EntryRows.{with_entries, entry-card}

-- the rows with the new one, and its identifier
entered-is
    : (a : Applet) (n : ℕ) (help : Bool) (text : List ℕ) (rows : List Row) {p : Pair}
    → a.number ≡ n
    → p ≡ next_pair a
    → take 15 text ≡ text
    → length rows < 12
    → entered_by p n help text rows ≡ record { rows = stored_rows (with_entry a help text rows); identifier = next_identifier a rows }
unfolding entered_by with_entry next_identifier
entered-is a n help text rows own is whole room = rw (← own, is, whole, inserted-room _ _ rows room) refl

module _ (c : Card) (left : Left c) (n : ℕ) (help : Bool) (text : List ℕ) {there : Bool} (found : there ≡ has? c.roll.present n)
    {g : Grant} (granted : g ≡ by_number (grant_of nobody) c.roll.grants n) {k : ℕ} (counted : k ≡ by_number 0 c.made n)
    {fits : Bool} (fit : fits ≡ not (unfit_text g.text text))
    {r : ℕ} (e : r ≡ first_holding (line 2 (not there) ∷ line 10 (g.entries ≤? k) ∷ line 12 (not fits) ∷ []))
  where
    abbrev t : Tables
    t = (view c).tables

    abbrev x : Applet
    x = applet (view c).tables n

    grant-of : g ≡ grant_of x
    grant-of = granted ∙ grant-is c left n

    made_of : k ≡ x.made
    made_of = counted ∙ made-is c left n

    is-new : r ≡ refusal (view c) (entry (new_entry n help text))
    unfolding grant_of
    is-new =
        new-refusal (view c) n (found-by c left n found) help text
        (ap (λ (h : Grant). h.entries) grant-of) made_of (ap (λ (h : Grant). h.text) grant-of) fit e

    -- the answer: the identifier of the row
    gives-number : {i : ℕ} {a : Answer} → (r ≡ 0 → i ≡ next_identifier x t.rows) → a ≡ stored_answer (if r == 0 then numbered i else refused_with r) → a ≡ stored_answer (step (view c) (entry (new_entry n help text))).answer
    unfolding step
    gives-number {i} f says = says ∙ go r f ∙ ap (λ (m : ℕ). stored_answer (outcome m (view c) (entry (new_entry n help text))).answer) is-new
      where
        go : (m : ℕ) → (m ≡ 0 → i ≡ next_identifier x t.rows) → stored_answer (if m == 0 then numbered i else refused_with m) ≡ stored_answer (outcome m (view c) (entry (new_entry n help text))).answer
        go zero f = unfold outcome answer entry_answer in ap (λ (k : ℕ). stored_answer (numbered k)) (f refl)
        go (suc m) f = unfold outcome in ap (λ (b : Bool). stored_answer (if b then numbered i else refused_with (suc m))) (ne_eqb (suc m) 0 (λ h. omega arith))

    pub new-refused : (i : ℕ) {a : Answer} {s : Card} → a ≡ stored_answer (if r == 0 then numbered i else refused_with r) → (r ≡ 0 → ⊥) → s ≡ c → ◌≡◌ {A = Reply} (record { card = s; answer = a }) (replied (step (view c) (entry (new_entry n help text))))
    new-refused i says z is =
        replies (step (view c) (entry (new_entry n help text))) (is ∙ refused-stays c left (entry (new_entry n help text)) is-new z) (gives-number (λ h. absurd (z h)) says)

    module _ (z : r ≡ 0) where
      news : NewEntry t n text
      news = new-entry (view c) n help text (sym is-new ∙ z)

      sound : SoundTables t
      sound = (left-sound c left).tables

      whole : take 15 text ≡ text
      whole = take_all 15 text (omega (arith, news.fits.to, (sound-applet t sound n news.here).text, ap (λ (b : Bounds). b.text) (left-bounds c left)))

      room : length t.rows < 12
      room = omega (arith, entry-room t sound n news.here news.more, ap (λ (b : Bounds). b.rows) (left-bounds c left))

      -- there is room for one entry more
      pub made-few : k < 4
      made-few = omega (arith, news.more, made_of, (sound-applet t sound n news.here).entries, ap (λ (b : Bounds). b.entries) (left-bounds c left))

      -- the tables that it leaves
      abbrev u : Tables
      u = entry_tables t (new_entry n help text)

      pub new-accepted
          : {p : Pair} {i : ℕ} {e : Added} {more : List ℕ} {turns y : Bool} {s : Card} {a : Answer}
          → a ≡ stored_answer (if r == 0 then numbered i else refused_with r)
          → p ≡ get_or g.pairs k no_pair
          → e ≡ entered_by p n help text (view_rows c.rows)
          → more ≡ table_with 0 c.made n (k + 1)
          → turns ≡ has? c.selectable n
          → MenuMark c.desk turns y
          → s ≡ with_entries c more e.rows y
          → i ≡ e.identifier
          → ◌≡◌ {A = Reply} (record { card = s; answer = a }) (replied (step (view c) (entry (new_entry n help text))))
      unfolding tables_after entry_tables desk_after round_after view present applet
      new-accepted {p} {e = e} says pp ee mm tu y is ii =
          let here = news.here in
          let pair : p ≡ next_pair x = pp ∙ ap₂ (λ (h : Grant) (m : ℕ). get_or h.pairs m no_pair) grant-of made_of ∙ pair-next x news.more in
          let both : e ≡ record { rows = stored_rows (with_entry x help text t.rows); identifier = next_identifier x t.rows } = ee ∙ entered-is x n help text t.rows (has-its-number t n here) pair whole room in
          let l = t.applets in
          let one : k + 1 ≡ suc x.made = omega (arith, made_of) in
          replies (step (view c) (entry (new_entry n help text)))
          (is
          ∙ entry-card c left u
          (roll-kept l n with_one_more here (λ x. refl))
          (selectable-kept l n with_one_more here (λ x. refl) (λ x. refl))
          (λ e. registered-kept l n with_one_more here (λ x. refl) e (λ x. refl))
          (poll-kept l n with_one_more here (λ x. refl) (λ x. refl))
          refl refl
          (mm ∙ ap₂ (λ (h : List ℕ) (m : ℕ). table_with 0 h n m) (made-form c left) one ∙ made_more l n here)
          (ap (λ (h : Added). h.rows) both)
          (subst (λ (b : Bool). Turns t u b false) (sym (tu ∙ selectable-there c left n here)) (new-entry-turns-menu t sound.numbers_apart n here help text))
          y
          ∙ ap stored (sym (after-by (view c) (entry (new_entry n help text)) is-new (refl, refl) (ap (tables_by (view c) (entry (new_entry n help text))) z))))
          (gives-number (λ h. ii ∙ ap (λ (h : Added). h.identifier) both) says)
