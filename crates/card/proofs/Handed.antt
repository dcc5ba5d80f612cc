-- Handing out: the command that is due, the buffer that it stands in, and the card afterwards.
-- Assumes nothing.
use Prim.Native.Nat.{ℕ, zero, suc, ◌≤◌}
use native.Mathlib.Omega.{arith}
use mathlib.Core.Path.{◌≡◌, refl, sym, ap, ap₂, ◌∙◌}
use mathlib.Core.Bool.{Bool, true, false, ◌||◌}
use mathlib.Core.List.{List, [], ◌∷◌}
use lib.ListN.{length, take, length-take}
use borrow.Author.Tests.{ne_eqb, eqb-true}
use Rattle.lists.specs.Tests.{◌<?◌}
use Rattle.std.specs.Prelude.{if◌then◌else◌, ◌==◌}
use Rattle.lists.specs.Lists.{keep}
use Rattle.lists.proofs.Decided.{clashing}
use Rattle.lists.proofs.Every.{every-so}
use Rattle.lists.proofs.Truth.{and-true, or-true, or-false}
use Rattle.rules.specs.declared.Desk as held
use Rattle.rules.specs.declared.Answer.{Answer}
use Rattle.rules.specs.declared.Due.{Due}
use Rattle.rules.specs.Holds.{Row, Bounds, Desk, Model, nothing_due}
use Rattle.rules.specs.Events.{codes, first_download}
use Rattle.rules.specs.Held.{view_desk, stored_desk, stored_answer}
use Rattle.rules.specs.Calls.{Call, system_command, refused_with, numbered}
use Rattle.rules.specs.Commands.{shown_menu, shown_events, menu_of, menu_bytes, event_bytes, interval, interval_bytes, off_bytes}
use Rattle.rules.specs.Desk.{handed_out, with_marks, due_command, with_handed_out}
use Rattle.rules.specs.Refusals.{refusal, line, lines, first_holding}
use Rattle.rules.specs.Step.{step, outcome, changed, tables_after, round_after, desk_after, answer, written, lent}
use Rattle.rules.proofs.DueMarks.{marked-same, first-due, first-handed}
use Rattle.commands.specs.Fits.{Fits, shown_of}
use Rattle.refusals.proofs.Calls.{hand-room}
use Rattle.menu_shown.specs.Chosen.{is_shown}
use Rattle.menu_shown.proofs.BySet.{shown_by}
use Rattle.events_shown.specs.Listed.{codes_from}
use Rattle.events_shown.specs.Turns.{is_listened}
use Rattle.events_shown.proofs.Listed.{events-by}
use Rattle.polling.specs.Polls.{interval_of}
use Rattle.card.specs.declared.Card.{Card}
use Rattle.card.specs.declared.Reply.{Reply}
use Rattle.card.specs.View.{view, stored, Left}
use Rattle.card.specs.Replies.{replied}
use Rattle.card.specs.Turns.{first_due, rest_due}
use Rattle.card.proofs.Left.{left-form, left-sound, left-bounds, tidy-rows}
use Rattle.card.proofs.Replied.{replies, selectable-form, registered-form, desk-form}
use Rattle.card.proofs.Sends.{with_desk, desk-card}
use Rattle.card.proofs.Polled.{interval-now}
use Rattle.card.proofs.Written.{Handed, handed_by, in-front, unwritten}

pub title-most : (n : ℕ) (l : List ℕ) → n ≤ 20 → length (take n l) ≤ 20
title-most n l h = omega (arith, length-take n l)

-- the desk as it is held, with other marks
abbrev pub held_marks : held.Desk → Due → (outstanding : Bool) → held.Desk
held_marks d due outstanding =
    record { due = due; session = d.session; outstanding = outstanding; title_len = d.title_len; title = d.title; profile = d.profile }

abbrev pub outstanding_by : Bool → Due → Bool
outstanding_by was f = (((was || f.menu) || f.events) || f.interval) || f.off

abbrev marks : (menu events interval off : Bool) → Due
marks m v i o = record { menu = m; events = v; interval = i; off = o }

-- the mark of what is handed out is cleared, and a command is outstanding
handed-desk : (d : Desk) → held_marks (stored_desk d) (rest_due d.due (first_due true d.due)) (outstanding_by d.outstanding (first_due true d.due)) ≡ stored_desk (with_handed_out d)
unfolding stored_desk handed_out
handed-desk d = go d.due.menu d.due.events d.due.interval d.due.off d.outstanding ∙ ap stored_desk (sym (first-handed d))
  where
    go : (m v i o w : Bool)
        → held_marks (stored_desk d) (rest_due (marks m v i o) (first_due true (marks m v i o))) (outstanding_by w (first_due true (marks m v i o)))
        ≡ stored_desk
        (if m then with_marks d true (marks false v i o) else if v then with_marks d true (marks m false i o) else
        if i then with_marks d true (marks m v false o) else if o then with_marks d true (marks m v i false) else with_marks d w (marks m v i o))
    go true v i o w = rw (and-true v, and-true i, and-true o, or-true w) refl
    go false true i o w = rw (and-true i, and-true o, or-false w, or-true w) refl
    go false false true o w = rw (and-true o, or-false w, or-false w, or-true w) refl
    go false false false true w = rw (or-false w, or-false w, or-false w, or-true w) refl
    go false false false false w = rw (or-false w, or-false w, or-false w, or-false w) refl

-- what is handed out is handed out by an accepted call, and has room
pub handed-room
    : (outstanding : Bool) (n : ℕ) (d : Due) (which : Due → Bool) → which nothing_due ≡ false → {r : ℕ} {f : Due}
    → r ≡ first_holding (line 16 outstanding ∷ line 18 (n <? 256) ∷ [])
    → f ≡ first_due (r == 0) d
    → which f ≡ true
    → 256 ≤ n
handed-room outstanding n d which none {r} {f} e p h = hand-room outstanding n e (eqb-true r 0 (go (r == 0) p))
  where
    go : (ok : Bool) → f ≡ first_due ok d → ok ≡ true
    go true q = refl
    go false q = clashing h (ap which q ∙ none)

-- THE CALL
module _ (c : Card) (left : Left c) where
  abbrev m : Model
  m = view c

  pub title-short : c.desk.title_len ≤ 20
  unfolding stored_desk view view_desk
  title-short =
      omega (arith, ap (λ (d : held.Desk). d.title_len) (desk-form c left), (left-sound c left).title, ap (λ (b : Bounds). b.title) (left-bounds c left))

  pub rows_fit : Fits c.rows
  unfolding view
  rows_fit =
      record {
        tidy = tidy-rows c left;
        short = every-so _ _ (λ r q. omega (arith, q.text-to, ap (λ (b : Bounds). b.text) (left-bounds c left))) m.tables.rows (left-sound c left).tables.each_row;
      }

  -- what the parts of the code write
  abbrev pub menu_now : List ℕ
  menu_now = menu_bytes (menu_of (take c.desk.title_len c.desk.title) (shown_of c.selectable c.rows))

  abbrev pub events_now : List ℕ
  events_now = event_bytes (codes_from (is_listened c.registered c.selectable) first_download codes)

  abbrev pub interval_now : List ℕ
  interval_now = interval_bytes (interval_of c.polls c.selectable)

  -- by what is handed out
  abbrev pub written_by : Due → List ℕ
  written_by f = handed_by f menu_now events_now interval_now off_bytes

  menu-is : menu_now ≡ menu_bytes (menu_of m.desk.title (shown_menu m.tables))
  unfolding view view_desk
  menu-is =
      ap (λ (l : List Row). menu_bytes (menu_of m.desk.title l))
      (ap (λ (s : ℕ). keep (is_shown s) m.tables.rows) (selectable-form c left) ∙ shown_by m.tables (left-sound c left).tables (left-bounds c left))

  events-are : events_now ≡ event_bytes (shown_events m.tables)
  events-are =
      ap event_bytes
      (ap (λ (s : ℕ). codes_from (is_listened c.registered s) first_download codes) (selectable-form c left)
      ∙ events-by m.tables (left-sound c left).tables (left-bounds c left) (registered-form c left))

  pub interval-is : interval_now ≡ interval_bytes (interval m.tables)
  interval-is = ap interval_bytes (interval-now c left)

  due-is : written_by (first_due true c.desk.due) ≡ due_command m.tables m.desk
  unfolding view view_desk
  due-is = rw (menu-is, events-are, interval-is) (go c.desk.due.menu c.desk.due.events c.desk.due.interval c.desk.due.off _ _ _ ∙ sym (first-due m.desk m.tables))
    where
      go : (x v i o : Bool) (k l n : List ℕ)
          → handed_by (first_due true (record { menu = x; events = v; interval = i; off = o })) k l n off_bytes
          ≡ (if x then k else if v then l else if i then n else if o then off_bytes else [])
      go true v i o k l n = refl
      go false true i o k l n = refl
      go false false true o k l n = refl
      go false false false o k l n = refl

  module _ (buffer : List ℕ) {r : ℕ} (e : r ≡ first_holding (line 16 c.desk.outstanding ∷ line 18 (length buffer <? 256) ∷ []))
      {f g : Due} (p : f ≡ first_due (r == 0) c.desk.due) (q : g ≡ rest_due c.desk.due f)
    where
      abbrev x : Call
      x = system_command buffer

      refusal_is : r ≡ refusal m x
      unfolding refusal lines view view_desk
      refusal_is = e

      module _ {y : List ℕ} {n : ℕ} (w : Handed buffer (written_by f) y n) {a : Answer} (s : a ≡ stored_answer (if r == 0 then numbered n else refused_with r)) where
        abbrev After : ℕ → Type 0
        After k =
            (with_desk c (held_marks c.desk g (outstanding_by c.desk.outstanding f)) ≡ stored (outcome k m x).after)
            × (a ≡ stored_answer (outcome k m x).answer)
            × (y ≡ (outcome k m x).buffer)

        by-refusal : (k : ℕ) → r ≡ k → After k
        unfolding outcome changed tables_after desk_after round_after answer written lent stored_desk
        by-refusal zero h =
            let is : f ≡ first_due true c.desk.due = p ∙ ap (λ (k : ℕ). first_due (k == 0) c.desk.due) h in
            let rest : g ≡ rest_due c.desk.due (first_due true c.desk.due) = q ∙ ap (rest_due c.desk.due) is in
            let desk-is : held_marks c.desk g (outstanding_by c.desk.outstanding f) ≡ stored_desk (with_handed_out m.desk) =
            ap₂ (λ (g f : Due). held_marks c.desk g (outstanding_by c.desk.outstanding f)) rest is
            ∙ ap (λ (d : held.Desk). held_marks d (rest_due d.due (first_due true d.due)) (outstanding_by d.outstanding (first_due true d.due))) (desk-form c left)
            ∙ handed-desk m.desk
            in
            let v : Handed buffer (due_command m.tables m.desk) y n = rw (ap written_by is ∙ due-is) at w in
            let long : n ≡ length (due_command m.tables m.desk) = omega (arith, v.0.next) in (
              rw (marked-same m.tables (with_handed_out m.desk)) (desk-card c left (with_handed_out m.desk) desk-is),
              s ∙ ap (λ (k : ℕ). stored_answer (if k == 0 then numbered n else refused_with k)) h ∙ ap (λ (k : ℕ). stored_answer (numbered k)) long,
              in-front v.0,
            )
        by-refusal (suc k) h =
            let no_more : (suc k == 0) ≡ false = ne_eqb (suc k) 0 (λ z. omega arith) in
            let is : f ≡ nothing_due = p ∙ ap (λ (k : ℕ). first_due (k == 0) c.desk.due) h ∙ ap (λ (b : Bool). first_due b c.desk.due) no_more in
            let same : g ≡ c.desk.due = q ∙ ap (rest_due c.desk.due) is ∙ rw (and-true c.desk.due.menu, and-true c.desk.due.events, and-true c.desk.due.interval, and-true c.desk.due.off) refl in (
              rw (is, same, or-false c.desk.outstanding, or-false c.desk.outstanding, or-false c.desk.outstanding, or-false c.desk.outstanding) (left-form c left),
              s ∙ ap (λ (k : ℕ). stored_answer (if k == 0 then numbered n else refused_with k)) h ∙ ap (λ (b : Bool). stored_answer (if b then numbered n else refused_with (suc k))) no_more,
              unwritten (rw is at w),
            )

        pub hands_out
            : (◌≡◌ {A = Reply} (record { card = with_desk c (held_marks c.desk g (outstanding_by c.desk.outstanding f)); answer = a }) (replied (step m x)))
            × (y ≡ (step m x).buffer)
        unfolding step
        hands_out =
            let o = by-refusal (refusal m x) refusal_is in
            (replies (step m x) o.0 o.1, o.2)
