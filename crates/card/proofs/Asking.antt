-- What ask event answers; it leaves the card.
-- Assumes nothing.
use Prim.Native.Nat.{ℕ, zero, suc}
use native.Mathlib.Omega.{arith}
use mathlib.Core.Path.{◌≡◌, refl, sym, ap, ap₂, ◌∙◌}
use mathlib.Core.Bool.{Bool, true, false}
use mathlib.Core.List.{[]}
use lib.IntN.{ℤ}
use lib.ListN.{get_or}
use borrow.Author.Tests.{ne_eqb}
use Rattle.std.specs.Prelude.{if◌then◌else◌, ◌==◌}
use Rattle.sets.specs.Sets.{has?}
use Rattle.sets.proofs.Bits.{has-set}
use Rattle.rules.specs.declared.Kind.{Kind}
use Rattle.rules.specs.declared.Kind.TheVariants.{Event}
use Rattle.rules.specs.declared.Answer.{Answer}
use Rattle.rules.specs.Holds.{Bounds, Tables, Model}
use Rattle.rules.specs.Events.{kind_of, call_control}
use Rattle.rules.specs.Applets.{present, applet, registered, is_registered}
use Rattle.rules.specs.Calls.{event, ask_event, saying, refused_with}
use Rattle.rules.specs.Refusals.{lines, event_lines, refusal}
use Rattle.rules.specs.Step.{step, outcome, tables_after, event_tables, desk_after, answer, event_answer, round_after}
use Rattle.events.specs.Place.{place_of}
use Rattle.events.proofs.Places.{place-within}
use Rattle.runs.proofs.Looked.{has-its-number, number-from, number-to}
use Rattle.applets.specs.ByNumber.{at, registered_set}
use Rattle.refusals.proofs.Calls.{event_refusal, event-known}
use Rattle.card.specs.declared.Card.{Card}
use Rattle.card.specs.declared.Reply.{Reply}
use Rattle.card.specs.View.{view, stored, Left}
use Rattle.card.specs.Replies.{replied}
use Rattle.rules.specs.Held.{stored_answer}
use Rattle.card.specs.Turns.{is_listed}
use Rattle.card.proofs.Left.{left-sound, left-bounds}
use Rattle.card.proofs.Replied.{replies, stays, control-form}
use Rattle.card.proofs.Present.{present-by, gone-by}
use Rattle.card.proofs.Listeners.{set_is}

pub ask-stays : (c : Card) → Left c → (n : ℕ) (v : ℤ) → c ≡ stored (step (view c) (event (ask_event n v))).after
unfolding tables_after event_tables desk_after round_after
ask-stays c left n v = stays c left (event (ask_event n v)) refl (refl, refl)

module _
    (c : Card) (left : Left c) (n : ℕ) (v : ℤ) {k : Kind} (kind : k ≡ kind_of v)
    {there : Bool} (found : there ≡ has? c.roll.present n)
    {r : ℕ} (refused : r ≡ event_refusal there k [])
    {p : ℕ} (at_place : p ≡ place_of k)
    {says : Bool} (listed : says ≡ is_listed p (get_or c.registered p 0) c.control n)
  where
    abbrev m : Model
    m = view c

    abbrev t : Tables
    t = m.tables

    refusal_is : r ≡ refusal m (event (ask_event n v))
    unfolding refusal lines event_lines
    refusal_is = refused ∙ rw (gone-by c left n found, kind) refl

    -- the applet's registration is in the set of the event's place
    registered-is : present t n ≡ true → says ≡ registered t p (applet t n)
    unfolding registered applet registered_set
    registered-is here =
        let sound = (left-sound c left).tables in
        let eight : t.bounds.applets ≡ 8 = ap (λ (b : Bounds). b.applets) (left-bounds c left) in
        listed
        ∙ ap₂ (λ (x y : Bool). if p == call_control then x else y)
        (ap₂ (λ (o a : ℕ). o == a) (control-form c left) (sym (has-its-number t n here)))
        (ap (λ (s : ℕ). has? s n) (set_is c left p (place-within v kind at_place)) ∙ has-set (λ k. get_or (at t.applets k).events p false) n (number-from t sound n here) (omega (arith, number-to t sound n here)))

    accepted : r ≡ 0 → answer m (event (ask_event n v)) ≡ saying says
    unfolding answer event_answer is_registered
    accepted z =
        let known = event-known there k [] (sym refused ∙ z) in
        let is : kind_of v ≡ Event p = sym kind ∙ known.1 ∙ ap Event (sym at_place) in
        let here : present t n ≡ true = sym (found ∙ present-by c left n) ∙ known.0 in
        ap saying (ap (is_registered t n) is ∙ sym (registered-is here))

    told : stored_answer (if r == 0 then saying says else refused_with r) ≡ stored_answer (step m (event (ask_event n v))).answer
    unfolding step
    told = ap stored_answer (go r refl ∙ ap (λ (k : ℕ). (outcome k m (event (ask_event n v))).answer) refusal_is)
      where
        go : (j : ℕ) → r ≡ j → (if j == 0 then saying says else refused_with j) ≡ (outcome j m (event (ask_event n v))).answer
        go zero z = unfold outcome in sym (accepted z)
        go (suc j) z = unfold outcome in rw (ne_eqb (suc j) 0 (λ w. omega arith)) refl

    pub asks-event : {a : Answer} → a ≡ stored_answer (if r == 0 then saying says else refused_with r) → ◌≡◌ {A = Reply} (record { card = c; answer = a }) (replied (step m (event (ask_event n v))))
    asks-event e = replies (step m (event (ask_event n v))) (ask-stays c left n v) (e ∙ told)
