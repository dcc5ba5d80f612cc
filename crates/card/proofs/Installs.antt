-- What an install leaves of the card.
-- Assumes nothing.
use Prim.Native.Nat.{ℕ, suc, ◌≤◌, ◌<◌}
use native.Mathlib.Omega.{arith}
use mathlib.Core.Path.{◌≡◌, refl, sym, ap, ◌∙◌}
use mathlib.Core.Bool.{Bool, true, false}
use mathlib.Core.List.{List}
use lib.ListN.{length, get_or}
use borrow.Author.Tests.{eqb-true}
use Rattle.std.specs.Prelude.{if◌then◌else◌, ◌==◌}
use Rattle.lists.specs.Lists.{Every, some?}
use Rattle.lists.specs.Tables.{table}
use Rattle.lists.proofs.Counts.{count-within, none-counted}
use Rattle.lists.proofs.Every.{every-so, every-both}
use Rattle.lists.proofs.Firsts.{first-missed}
use Rattle.lists.proofs.Tables.{table-alike}
use Rattle.lists.proofs.Truth.{and_left}
use Rattle.sets.specs.Sets.{switched_set}
use Rattle.sets.proofs.Bits.{set-alike}
use Rattle.rules.specs.declared.Answer.{Answer}
use Rattle.rules.specs.declared.Grant.{Grant}
use Rattle.rules.specs.declared.Request.{Request}
use Rattle.rules.specs.declared.Roll.{Roll}
use Rattle.rules.specs.Holds.{Applet, Row, Bounds, Tables, Model}
use Rattle.rules.specs.Held.{stored_answer}
use Rattle.rules.specs.Applets.{has_number, nobody, present, applet, newcomer}
use Rattle.rules.specs.Calls.{Call, admin, install, refused_with}
use Rattle.rules.specs.Desk.{marked}
use Rattle.rules.specs.Refusals.{lines, refusal}
use Rattle.rules.specs.Step.{step, tables_after, admin_tables, desk_after, answer, round_after, admin_round}
use Rattle.runs.specs.Sound.{SoundApplet, SoundTables}
use Rattle.runs.proofs.Looked.{each-found, absent-nobody}
use Rattle.runs.proofs.Filled.{Installs, installs}
use Rattle.runs.proofs.Installed.{install-room}
use Rattle.menu_shown.specs.Chosen.{is_enabled_of, has_enabled_row}
use Rattle.applets.specs.ByNumber.{at, grant_of, roll_of, selectable_set, registered_set, made_table, poll_table}
use Rattle.applets.specs.Rolls.{roll_with}
use Rattle.applets.proofs.Joined.{at_more, set_more, roll-more}
use Rattle.admission.specs.Refuses.{RefusesInstall}
use Rattle.card.specs.declared.Card.{Card}
use Rattle.card.specs.declared.Reply.{Reply}
use Rattle.card.specs.View.{view, stored, Left}
use Rattle.card.specs.Replies.{replied}
use Rattle.card.proofs.Left.{left-sound, left-bounds}
use Rattle.card.proofs.Marks.{quiet-desk}
use Rattle.card.proofs.Turned.{install-quiet}
use Rattle.card.proofs.Order.{count-is}
use Rattle.card.proofs.Replied.{after-by, plain-reply, refused-stays, card-is, roll-form, selectable-form, registered-form, made-form, polls-form, control-form, rows-form, bank-form, round-form}

module _ (c : Card) (left : Left c) (n : ℕ) (q : Request) where
  abbrev t : Tables
  t = (view c).tables

  abbrev l : List Applet
  l = t.applets

  abbrev x : Applet
  x = newcomer n q

  abbrev u : Tables
  u = admin_tables t (install n q)

  sound : SoundTables t
  sound = (left-sound c left).tables

  eight : t.bounds.applets ≡ 8
  eight = ap (λ (b : Bounds). b.applets) (left-bounds c left)

  -- each has a number of its own
  own : Every (λ (y : Applet). (at l y.number ≡ y) × (1 ≤ y.number) × (y.number ≤ 8)) l
  own = every-so _ _ one l (every-both _ _ l (each-found t sound) sound.each-applet)
    where
      one : (y : Applet) → (applet t y.number ≡ y) × SoundApplet t.bounds y → (at l y.number ≡ y) × (1 ≤ y.number) × (y.number ≤ 8)
      one y (found, s) = (unfold applet in found, s.number-from, omega (arith, s.number-to, eight))

  -- where it is accepted
  module _ (accepted : refusal (view c) (admin (install n q)) ≡ 0) where
    allowed : Installs t n q
    allowed = installs (view c) n q accepted

    pub from_one : 1 ≤ n
    from_one = allowed.number-from

    pub to-eight : n ≤ 8
    to-eight = omega (arith, allowed.number-to, eight)

    room : length l < 8
    room = omega (arith, install-room t sound n q allowed, eight)

    pub count_room : c.roll.count < 8
    count_room = omega (arith, count-is c left, room)

    absent : some? (has_number n) l ≡ false
    unfolding present
    absent = allowed.new

    roll-next : roll_with c.roll n (grant_of x) ≡ roll_of u.applets
    unfolding admin_tables newcomer
    roll-next = ap (λ (r : Roll). roll_with r n (grant_of x)) (roll-form c left) ∙ roll-more l x absent from_one room own

    selectable-next : switched_set c.selectable n true ≡ selectable_set u.applets
    unfolding admin_tables newcomer selectable_set
    selectable-next = ap (λ (s : ℕ). switched_set s n true) (selectable-form c left) ∙ set_more l x absent (λ (y : Applet). y.selectable)

    -- what nobody has, the newcomer has
    as-nobody : {A : Type 0} (f : Applet → A) → f x ≡ f nobody → (k : ℕ) → f (at u.applets k) ≡ f (at l k)
    unfolding admin_tables newcomer
    as-nobody f h k = ap f (at_more l x absent k) ∙ go (n == k) refl
      where
        go : (b : Bool) → (n == k) ≡ b → f (if b then x else at l k) ≡ f (at l k)
        go true e = h ∙ ap f (sym (ap (at l) (sym (eqb-true n k e)) ∙ first-missed (has_number n) nobody l absent))
        go false e = refl

    registered-next : table 20 (registered_set u.applets) ≡ table 20 (registered_set l)
    unfolding registered_set
    registered-next =
        table-alike 20 _ _ (λ e h. set-alike _ _ (λ k a b. as-nobody (λ (y : Applet). get_or y.events e false) (unfold newcomer in refl) k))

    made-next : made_table u.applets ≡ made_table l
    unfolding made_table
    made-next = table-alike 8 _ _ (λ i h. as-nobody (λ (y : Applet). y.made) (unfold newcomer in refl) (suc i))

    polls-next : poll_table u.applets ≡ poll_table l
    unfolding poll_table
    polls-next = table-alike 8 _ _ (λ i h. as-nobody (λ (y : Applet). y.poll) (unfold newcomer in refl) (suc i))

    -- no row is the newcomer's, so what is shown stays
    no-row : has_enabled_row n t.rows ≡ false
    unfolding has_enabled_row
    no-row =
        none-counted (is_enabled_of n) t.rows
        (omega (
          arith,
          count-within (is_enabled_of n) (λ (y : Row). y.owner == n) (λ y h. and_left (y.owner == n) y.enabled h) t.rows,
          sound.rows_made n,
          ap (λ (y : Applet). y.made) (absent-nobody t n allowed.new),
        ))

    joined
        : {g : Grant} {r : Roll} {s : ℕ}
        → g ≡ grant_of x
        → r ≡ roll_with c.roll n g
        → s ≡ switched_set c.selectable n true
        → ◌≡◌ {A = Card}
        (record { roll = r; selectable = s; registered = c.registered; made = c.made; polls = c.polls; control = c.control; rows = c.rows; bank = c.bank; desk = c.desk; round = c.round })
        (stored (record { tables = u; desk = marked t u (view c).desk; round = (view c).round }))
    joined e f h =
        card-is (record { tables = u; desk = marked t u (view c).desk; round = (view c).round }) (round-form c left)
        (f ∙ ap (roll_with c.roll n) e ∙ roll-next) (h ∙ selectable-next)
        (registered-form c left ∙ sym registered-next) (made-form c left ∙ sym made-next) (polls-form c left ∙ sym polls-next)
        (unfold admin_tables in control-form c left) (unfold admin_tables in rows-form c left) (unfold admin_tables in bank-form c left)
        (quiet-desk c left u (install-quiet t sound.numbers_apart n q no-row))

  -- INSTALL, by what the parts of the code say
  module _ {r : ℕ} (refuses : RefusesInstall c.roll n q r) where
    abbrev m : Model
    m = view c

    abbrev call : Call
    call = admin (install n q)

    refusal_is : r ≡ refusal m call
    unfolding refusal lines
    refusal_is = refuses t sound (left-bounds c left) (roll-form c left)

    pub accepts : r ≡ 0 → refusal m call ≡ 0
    accepts h = sym refusal_is ∙ h

    abbrev Leaves : Card → Type 0
    Leaves k = k ≡ stored (step m call).after

    pub with-newcomer
        : (h : r ≡ 0) {g : Grant} {s : ℕ} {w : Roll} {k : Card}
        → g ≡ grant_of x
        → w ≡ roll_with c.roll n g
        → s ≡ switched_set c.selectable n true
        → k ≡ record { roll = w; selectable = s; registered = c.registered; made = c.made; polls = c.polls; control = c.control; rows = c.rows; bank = c.bank; desk = c.desk; round = c.round }
        → Leaves k
    unfolding tables_after desk_after round_after admin_round
    with-newcomer h e f i is = is ∙ joined (accepts h) e f i ∙ ap stored (sym (after-by m call refusal_is (refl, refl) (rw h refl)))

    pub as_it_was : (r ≡ 0 → ⊥) → {k : Card} → k ≡ c → Leaves k
    as_it_was h is = is ∙ refused-stays c left call refusal_is h

    pub install-replies : {k : Card} {a : Answer} → Leaves k → a ≡ stored_answer (refused_with r) → ◌≡◌ {A = Reply} (record { card = k; answer = a }) (replied (step m call))
    install-replies = plain-reply m call refusal_is (unfold answer in refl)
