-- What lock and unlock leave of the card.
-- Assumes nothing.
use Prim.Native.Nat.{ℕ, ◌≤◌}
use native.Mathlib.Omega.{arith}
use mathlib.Core.Path.{◌≡◌, refl, sym, ap, ap₂, ◌∙◌}
use mathlib.Core.Bool.{Bool, true, false, not, beq, ◌&&◌}
use mathlib.Core.List.{List}
use Rattle.std.specs.Prelude.{if◌then◌else◌, ◌==◌}
use Rattle.lists.specs.Lists.{some?, change}
use Rattle.lists.proofs.Decided.{turned}
use Rattle.lists.proofs.Truth.{and_left}
use Rattle.lists.proofs.Tables.{table-alike}
use Rattle.sets.specs.Sets.{has?, meets, switched_set}
use Rattle.sets.proofs.Bits.{set-alike}
use Rattle.rules.specs.declared.Answer.{Answer}
use Rattle.rules.specs.declared.Due.{Due}
use Rattle.rules.specs.Holds.{Applet, Tables, Model, with_applets, with_selectable}
use Rattle.rules.specs.Held.{view_rows, stored_answer}
use Rattle.rules.specs.Applets.{has_number, present, applet}
use Rattle.rules.specs.Calls.{Outcome, admin, accepted, refused_with}
use Rattle.rules.specs.Desk.{menu_changes, events_change}
use Rattle.rules.specs.Refusals.{lines, first_holding, absent, admin_lines, refusal}
use Rattle.rules.specs.Step.{step, outcome, tables_after, admin_tables, desk_after, answer, round_after, admin_round}
use Rattle.runs.proofs.AlreadySo.{lock-a-locked-one, unlock-a-selectable-one}
use Rattle.runs.proofs.Registered.{changed-sound, selectable-same}
use Rattle.applets.specs.ByNumber.{at, selectable_set, registered_set, poll_table}
use Rattle.applets.proofs.Numbers.{at-change, roll-kept, registered-kept, made_kept, poll-kept}
use Rattle.menu_shown.specs.Chosen.{has_enabled_row}
use Rattle.menu_shown.proofs.MenuByApplets.{lock-menu}
use Rattle.events_shown.specs.Turns.{any_code, code_turns}
use Rattle.polling.specs.declared.Polling.{Polling}
use Rattle.polling.specs.Polls.{interval_of, polling_after}
use Rattle.card.specs.declared.Card.{Card}
use Rattle.card.specs.declared.Reply.{Reply}
use Rattle.card.specs.View.{view, stored, Left}
use Rattle.card.specs.Replies.{replied}
use Rattle.card.specs.Switches.{locking}
use Rattle.card.specs.Turns.{polling_of}
use Rattle.card.proofs.Left.{left-form, left-sound, left-bounds}
use Rattle.card.proofs.Replied.{tables_by, after-by, plain-reply, next-card, registered-form, polls-form, control-form, Still}
use Rattle.card.proofs.Marks.{with_due, MenuMark, EventsMark, PollingMarks, all-desk}
use Rattle.card.proofs.Polled.{Marks-then}
use Rattle.card.proofs.Present.{present-by, gone-by, selectable-has, selectable-there}
use Rattle.card.proofs.Listeners.{set_is, codes-by}

module _ (c : Card) (left : Left c) (n : ℕ) (on : Bool) (there : present (view c).tables n ≡ true) where
  abbrev t : Tables
  t = (view c).tables

  abbrev l : List Applet
  l = t.applets

  abbrev next : List Applet
  next = change (has_number n) (with_selectable on) l

  abbrev u : Tables
  u = with_applets t next

  here : some? (has_number n) l ≡ true
  unfolding present
  here = there

  selectable-turned : switched_set c.selectable n on ≡ selectable_set next
  unfolding selectable_set
  selectable-turned = set-alike _ _ each
    where
      each : (k : ℕ) → 1 ≤ k → k ≤ 8 → (if k == n then on else has? c.selectable k) ≡ (at next k).selectable
      each k a b =
          ap (λ (b : Bool). if b then on else has? c.selectable k) (turned k n)
          ∙ go (n == k)
          ∙ sym (ap (λ (x : Applet). x.selectable) (at-change l n (with_selectable on) here (λ x. refl) k))
        where
          go : (b : Bool) → (if b then on else has? c.selectable k) ≡ (if b then with_selectable on (at l k) else at l k).selectable
          go true = refl
          go false = selectable-has c left k a b

  registered-same : (e : ℕ) → registered_set next e ≡ registered_set l e
  registered-same e = registered-kept l n (with_selectable on) here (λ x. refl) e (λ x. refl)

  codes-differ : any_code (code_turns c.registered c.selectable (switched_set c.selectable n on)) ≡ events_change t u
  codes-differ =
      codes-by c left u (changed-sound t n (with_selectable on) (selectable-same on) (left-sound c left).tables) (left-bounds c left) (switched_set c.selectable n on)
      (λ e h. ap₂ meets (registered-same e ∙ sym (set_is c left e (omega arith))) (sym selectable-turned))

  polls-same : poll_table next ≡ poll_table l
  polls-same = poll-kept l n (with_selectable on) here (λ x. refl) (λ x. refl)

  polling-differs
      : {p : Polling}
      → p ≡ polling_after c.desk.session c.desk.due.interval c.desk.due.off (interval_of c.polls c.selectable) (interval_of c.polls (switched_set c.selectable n on))
      → PollingMarks c.desk t u p
  polling-differs =
      Marks-then c left u (changed-sound t n (with_selectable on) (selectable-same on) (left-sound c left).tables) (left-bounds c left) (polls-form c left ∙ sym polls-same) selectable-turned

  menu-differs : (not (beq (has? c.selectable n) on) && has_enabled_row n (view_rows c.rows)) ≡ menu_changes t u
  unfolding view
  menu-differs =
      ap (λ (b : Bool). not (beq b on) && has_enabled_row n t.rows) (selectable-there c left n there)
      ∙ sym (lock-menu t (left-sound c left).tables.numbers_apart n on there)

alike : (a b : Bool) → not (beq a b) ≡ false → a ≡ b
alike true true e = refl
alike true false e = cc
alike false true e = cc
alike false false e = refl

-- LOCK AND UNLOCK, by what the parts of the code say
module _ (c : Card) (left : Left c) (n : ℕ) (on : Bool) {there : Bool} (found : there ≡ has? c.roll.present n) {r : ℕ} (refused : r ≡ (if not there then 2 else 0)) where
  abbrev m : Model
  m = view c

  lines_are : (b : Bool) → (if absent m.tables n then 2 else 0) ≡ refusal m (admin (locking b n))
  unfolding refusal lines admin_lines first_holding
  lines_are true = refl
  lines_are false = refl

  refusal_is : r ≡ refusal m (admin (locking on n))
  refusal_is = refused ∙ ap (λ (b : Bool). if b then 2 else 0) (sym (gone-by c left n found)) ∙ lines_are on

  tables-are : (b : Bool) → admin_tables m.tables (locking b n) ≡ with_applets m.tables (change (has_number n) (with_selectable b) m.tables.applets)
  unfolding admin_tables
  tables-are true = refl
  tables-are false = refl

  still : Still m (admin (locking on n))
  unfolding desk_after round_after
  still = (refl, go on)
    where
      go : (b : Bool) → admin_round m.round (locking b n) ≡ m.round
      go true = unfold admin_round in refl
      go false = unfold admin_round in refl

  plain : answer m (admin (locking on n)) ≡ accepted
  unfolding answer
  plain = refl

  abbrev Says : Card → Answer → Type 0
  Says k a = ◌≡◌ {A = Reply} (record { card = k; answer = a }) (replied (step m (admin (locking on n))))

  -- the lock turns
  pub lock-turned
      : {k : Card} {s : ℕ} {d : Due} {a : Answer}
      → (there && not (beq (has? c.selectable n) on)) ≡ true
      → s ≡ switched_set c.selectable n on
      → MenuMark c.desk (not (beq (has? c.selectable n) on) && has_enabled_row n (view_rows c.rows)) d.menu
      → EventsMark c.desk (any_code (code_turns c.registered c.selectable (switched_set c.selectable n on))) d.events
      → polling_of d ≡ polling_after c.desk.session c.desk.due.interval c.desk.due.off (interval_of c.polls c.selectable) (interval_of c.polls (switched_set c.selectable n on))
      → k ≡ record { roll = c.roll; selectable = s; registered = c.registered; made = c.made; polls = c.polls; control = c.control; rows = c.rows; bank = c.bank; desk = with_due c.desk d; round = c.round }
      → a ≡ stored_answer (refused_with r)
      → Says k a
  unfolding tables_after present
  lock-turned turns sets menu events polling is e =
      let h = and_left there (not (beq (has? c.selectable n) on)) turns in
      let z : r ≡ 0 = refused ∙ rw h refl in
      let is-here : present m.tables n ≡ true = sym (found ∙ present-by c left n) ∙ h in
      let l = m.tables.applets in
      let u = with_applets m.tables (change (has_number n) (with_selectable on) l) in
      plain-reply m (admin (locking on n)) refusal_is plain
      (is
      ∙ next-card c left u
      (roll-kept l n (with_selectable on) is-here (λ k. refl))
      (made_kept l n (with_selectable on) is-here (λ k. refl) (λ k. refl))
      (polls-same c left n on is-here)
      refl refl
      (sets ∙ selectable-turned c left n on is-here)
      (registered-form c left ∙ table-alike 20 _ _ (λ e k. sym (registered-same c left n on is-here e)))
      (control-form c left)
      (all-desk c left u (sym (menu-differs c left n on is-here)) (sym (codes-differ c left n on is-here)) menu events (polling-differs c left n on is-here polling))
      ∙ ap stored (sym (after-by m (admin (locking on n)) refusal_is still (ap (tables_by m (admin (locking on n))) z ∙ tables-are on))))
      e

  -- it does not: the applet is not there, or so already
  pub lock-still
      : {k : Card} {a : Answer}
      → (there && not (beq (has? c.selectable n) on)) ≡ false
      → k ≡ c
      → a ≡ stored_answer (refused_with r)
      → Says k a
  unfolding step outcome
  lock-still same is e = plain-reply m (admin (locking on n)) refusal_is plain (is ∙ left-form c left ∙ ap stored (sym (go there refl same))) e
    where
      so : (b : Bool) → absent m.tables n ≡ false → (applet m.tables n).selectable ≡ b → (step m (admin (locking b n))).after ≡ m
      so true known is = ap (λ (o : Outcome). o.after) (unlock-a-selectable-one m n known is)
      so false known is = ap (λ (o : Outcome). o.after) (lock-a-locked-one m n known is)

      go : (b : Bool) → there ≡ b → (b && not (beq (has? c.selectable n) on)) ≡ false → (step m (admin (locking on n))).after ≡ m
      go true h q =
          so on (gone-by c left n found ∙ ap not h)
          (sym (selectable-there c left n (sym (found ∙ present-by c left n) ∙ h)) ∙ alike (has? c.selectable n) on q)
      go false h q = ap (λ (k : ℕ). (outcome k m (admin (locking on n))).after) (sym refusal_is ∙ refused ∙ ap (λ (b : Bool). if not b then 2 else 0) h)
