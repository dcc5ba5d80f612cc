-- What a delete leaves of the card.
-- Assumes nothing.
use Prim.Native.Nat.{ℕ, ◌≤◌, ◌<◌}
use native.Mathlib.Omega.{arith}
use mathlib.Core.Path.{◌≡◌, refl, sym, ap, ap₂, ◌∙◌}
use mathlib.Core.Bool.{Bool, true, false, not, beq, ◌&&◌}
use mathlib.Core.List.{List, map}
use lib.ListN.{get_or}
use Rattle.std.specs.Prelude.{if◌then◌else◌}
use Rattle.lists.specs.Lists.{Every}
use Rattle.lists.specs.Tables.{table}
use Rattle.lists.proofs.Every.{every-so}
use Rattle.sets.specs.Sets.{has?, single, meets, set_without, switched_set}
use Rattle.sets.proofs.LeftOut.{turned-without, meets-without}
use Rattle.rules.specs.declared.Roll.{Roll}
use Rattle.rules.specs.declared.Rows.{Rows}
use Rattle.rules.specs.declared.Bank.{Bank}
use Rattle.rules.specs.declared.Answer.{Answer}
use Rattle.rules.specs.declared.Due.{Due}
use Rattle.rules.specs.Holds.{Applet, Bounds, Tables, Model, document}
use Rattle.rules.specs.Held.{view_rows, stored_rows, stored_answer}
use Rattle.rules.specs.Applets.{present, forget}
use Rattle.rules.specs.Rows.{without_rows}
use Rattle.rules.specs.Timers.{without_timers}
use Rattle.rules.specs.Calls.{admin, delete, accepted, refused_with}
use Rattle.rules.specs.Desk.{menu_changes, events_change, marked}
use Rattle.rules.specs.Refusals.{lines, first_holding, admin_lines, refusal}
use Rattle.rules.specs.Rounds.{without}
use Rattle.rules.specs.Step.{step, tables_after, admin_tables, desk_after, answer, round_after, admin_round}
use Rattle.runs.specs.Sound.{SoundApplet, SoundTables}
use Rattle.runs.proofs.Altered.{admin-sound}
use Rattle.runs.proofs.Looked.{not-absent}
use Rattle.applets.specs.ByNumber.{roll_of, selectable_set, registered_set, made_table, poll_table, table_with}
use Rattle.applets.specs.Rolls.{roll_without}
use Rattle.applets.proofs.Removed.{registered-less, all-less, selectable-less, made-less, poll-less, roll-less}
use Rattle.menu_shown.specs.Chosen.{has_enabled_row}
use Rattle.menu_shown.proofs.MenuByApplets.{delete-menu}
use Rattle.events_shown.specs.Turns.{any_code, code_turns}
use Rattle.polling.specs.declared.Polling.{Polling}
use Rattle.polling.specs.Polls.{interval_of, polling_after}
use Rattle.polling.proofs.OneRequest.{left_out, unset-request}
use Rattle.card.specs.declared.Card.{Card}
use Rattle.card.specs.declared.Reply.{Reply}
use Rattle.card.specs.View.{view, stored, Left}
use Rattle.card.specs.Replies.{replied}
use Rattle.card.specs.Turns.{polling_of}
use Rattle.card.proofs.Left.{left-sound, left-bounds}
use Rattle.card.proofs.Marks.{with_due, MenuMark, EventsMark, PollingMarks, all-desk}
use Rattle.card.proofs.Polled.{Marks-then}
use Rattle.card.proofs.Replied.{after-with, plain-reply, refused-stays, card-is, roll-form, selectable-form, registered-form, made-form, polls-form, round-less}
use Rattle.card.proofs.Present.{present-by, gone-by, low-is, selectable-there}
use Rattle.card.proofs.Listeners.{set_is, codes-by}

module _ (c : Card) (left : Left c) (n : ℕ) (there : has? c.roll.present n ≡ true) where
  abbrev m : Model
  m = view c

  abbrev t : Tables
  t = m.tables

  abbrev u : Tables
  u = admin_tables t (delete n)

  abbrev is : ℕ
  is = switched_set c.selectable n false

  here : present t n ≡ true
  here = sym (present-by c left n) ∙ there

  sound : SoundTables t
  sound = (left-sound c left).tables

  in-range : Every (λ (x : Applet). (1 ≤ x.number) × (x.number ≤ 8)) t.applets
  in-range =
      let eight : t.bounds.applets ≡ 8 = ap (λ (b : Bounds). b.applets) (left-bounds c left) in
      every-so (SoundApplet t.bounds) _ (λ x s. (s.number-from, omega (arith, s.number-to, eight))) t.applets sound.each-applet

  none-refused : refusal m (admin (delete n)) ≡ 0
  unfolding refusal lines admin_lines first_holding
  none-refused = rw (not-absent t sound n here) refl

  bounds-same : u.bounds ≡ document
  unfolding admin_tables
  bounds-same = left-bounds c left

  -- the sets and tables of those who stay
  roll-next : roll_without c.roll n ≡ roll_of u.applets
  unfolding admin_tables
  roll-next = ap (λ (r : Roll). roll_without r n) (roll-form c left) ∙ roll-less t.applets n (low-is c left n there) in-range

  selectable-next : is ≡ selectable_set u.applets
  unfolding admin_tables
  selectable-next = ap (λ (s : ℕ). switched_set s n false) (selectable-form c left) ∙ selectable-less t.applets n

  registered-next : map (λ (s : ℕ). set_without s (single n)) c.registered ≡ table 20 (registered_set u.applets)
  unfolding admin_tables
  registered-next = ap (map (λ (s : ℕ). set_without s (single n))) (registered-form c left) ∙ all-less t.applets n

  made-next : table_with 0 c.made n 0 ≡ made_table u.applets
  unfolding admin_tables
  made-next = ap (λ (k : List ℕ). table_with 0 k n 0) (made-form c left) ∙ made-less t.applets n

  polls-next : table_with 0 c.polls n 0 ≡ poll_table u.applets
  unfolding admin_tables
  polls-next = ap (λ (k : List ℕ). table_with 0 k n 0) (polls-form c left) ∙ poll-less t.applets n

  -- the marks
  polling-differs
      : {p : Polling}
      → p ≡ polling_after c.desk.session c.desk.due.interval c.desk.due.off (interval_of c.polls c.selectable) (interval_of c.polls is)
      → PollingMarks c.desk t u p
  polling-differs e =
      Marks-then c left u (admin-sound m (delete n) none-refused sound) bounds-same polls-next selectable-next
      (e ∙ ap (polling_after c.desk.session c.desk.due.interval c.desk.due.off (interval_of c.polls c.selectable)) (sym (unset-request c.polls is n 0 (left_out c.selectable n))))

  menu-differs : (not (beq (has? c.selectable n) false) && has_enabled_row n (view_rows c.rows)) ≡ menu_changes t u
  unfolding view
  menu-differs =
      ap (λ (b : Bool). b && has_enabled_row n t.rows) (same (has? c.selectable n) ∙ selectable-there c left n here)
      ∙ sym (delete-menu t sound.numbers_apart n)
    where
      same : (s : Bool) → not (beq s false) ≡ s
      same true = refl
      same false = refl

  events-differ : any_code (code_turns c.registered c.selectable is) ≡ events_change t u
  events-differ = codes-by c left u (admin-sound m (delete n) none-refused sound) bounds-same is after
    where
      own : (e : ℕ) → set_without (registered_set t.applets e) (single n) ≡ registered_set u.applets e
      own e = unfold admin_tables in registered-less t.applets n e

      after : (e : ℕ) → e < 18 → meets (registered_set u.applets e) (selectable_set u.applets) ≡ meets (get_or c.registered e 0) is
      after e h =
          ap₂ meets (sym (own e)) (sym selectable-next ∙ turned-without c.selectable n)
          ∙ meets-without (registered_set t.applets e) c.selectable (single n)
          ∙ ap₂ meets (sym (set_is c left e (omega arith))) (sym (turned-without c.selectable n))

  pub removes
      : {s control w : ℕ} {g f j : List ℕ} {due : Due} {roll : Roll} {rows : Rows} {bank : Bank}
      → MenuMark c.desk (not (beq (has? c.selectable n) false) && has_enabled_row n (view_rows c.rows)) due.menu
      → EventsMark c.desk (any_code (code_turns c.registered c.selectable is)) due.events
      → polling_of due ≡ polling_after c.desk.session c.desk.due.interval c.desk.due.off (interval_of c.polls c.selectable) (interval_of c.polls is)
      → s ≡ is
      → roll ≡ roll_without c.roll n
      → g ≡ map (λ (s : ℕ). set_without s (single n)) c.registered
      → f ≡ table_with 0 c.made n 0
      → j ≡ table_with 0 c.polls n 0
      → bank.owner ≡ without_timers n c.bank.owner
      → control ≡ forget n c.control
      → rows ≡ stored_rows (without_rows n (view_rows c.rows))
      → w ≡ switched_set c.round.waiting n false
      → ◌≡◌ {A = Card}
      (record { roll = roll; selectable = s; registered = g; made = f; polls = j; control = control; rows = rows; bank = bank; desk = with_due c.desk due; round = record { «open» = c.round.«open»; arrived = c.round.arrived; waiting = w } })
      (stored (record { tables = u; desk = marked t u m.desk; round = without n m.round }))
  removes menu events polling ss rl rg md pl bk ct rs wt =
      card-is (record { tables = u; desk = marked t u m.desk; round = without n m.round })
      (ap (λ (w : ℕ). record { «open» = c.round.«open»; arrived = c.round.arrived; waiting = w }) wt ∙ round-less c left n)
      (rl ∙ roll-next) (ss ∙ selectable-next) (rg ∙ registered-next) (md ∙ made-next) (pl ∙ polls-next)
      (ct ∙ control-next) (rs ∙ rows_next) (bk ∙ timers-next)
      (all-desk c left u (sym menu-differs) (sym events-differ) menu events (polling-differs polling))
    where
      control-next : forget n c.control ≡ u.control
      control-next = unfold admin_tables view in refl

      rows_next : stored_rows (without_rows n (view_rows c.rows)) ≡ stored_rows u.rows
      rows_next = unfold admin_tables view in refl

      timers-next : without_timers n c.bank.owner ≡ u.timers
      timers-next = unfold admin_tables view in refl

-- DELETE, by what the parts of the code say
module _ (c : Card) (left : Left c) (n : ℕ) {there : Bool} (found : there ≡ has? c.roll.present n) {r : ℕ} (refused : r ≡ (if not there then 2 else 0)) where
  refusal_is : r ≡ refusal (view c) (admin (delete n))
  unfolding refusal lines admin_lines first_holding
  refusal_is = refused ∙ rw (gone-by c left n found) refl

  still : desk_after (view c) (admin (delete n)) ≡ (view c).desk
  unfolding desk_after
  still = refl

  plain : answer (view c) (admin (delete n)) ≡ accepted
  unfolding answer
  plain = refl

  abbrev Says : Card → Answer → Type 0
  Says k a = ◌≡◌ {A = Reply} (record { card = k; answer = a }) (replied (step (view c) (admin (delete n))))

  pub deletes : {k : Card} {a : Answer} → there ≡ true
      → k ≡ stored (record { tables = admin_tables (view c).tables (delete n); desk = marked (view c).tables (admin_tables (view c).tables (delete n)) (view c).desk; round = without n (view c).round })
      → a ≡ stored_answer (refused_with r) → Says k a
  unfolding tables_after round_after admin_round
  deletes h q e =
      let z : r ≡ 0 = refused ∙ rw h refl in
      plain-reply (view c) (admin (delete n)) refusal_is plain (q ∙ ap stored (sym (after-with (view c) (admin (delete n)) refusal_is still (rw z refl) (rw z refl)))) e

  pub deletes-none : {k : Card} {a : Answer} → there ≡ false → k ≡ c → a ≡ stored_answer (refused_with r) → Says k a
  deletes-none h q e =
      let z : r ≡ 2 = refused ∙ rw h refl in
      plain-reply (view c) (admin (delete n)) refusal_is plain (q ∙ refused-stays c left (admin (delete n)) refusal_is (λ y. omega (arith, y, z))) e
