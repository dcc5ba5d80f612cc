-- Laws of a record obeyed: from the call that was made and the line that is written, what the rules say of the record.
-- Assumes nothing.
use Prim.Native.Nat.{ℕ, zero, suc}
use Prim.Native.Char.{code}
use mathlib.Core.Path.{◌≡◌, refl, sym, ap, ◌∙◌}
use mathlib.Core.Bool.{Bool, ◌&&◌}
use mathlib.Core.List.{List, [], ◌∷◌}
use lib.ListN.{length, take, drop, replicate, length-replicate}
use lib.Seq.{take-append_seam}
use Rattle.lists.specs.Tests.{◌<?◌}
use Rattle.std.specs.Prelude.{Option, Some, None, if◌then◌else◌, ◌==◌}
use Rattle.lists.specs.Lists.{some?, in?}
use Rattle.lists.specs.Text.{ascii}
use Rattle.lists.specs.Wrote.{Wrote}
use Rattle.lists.proofs.Writing.{wrote_as}
use Rattle.rules.specs.Bytes.{byte}
use Rattle.rules.specs.Holds.{Model}
use Rattle.rules.specs.Held.{stored_answer}
use Rattle.rules.specs.Calls.{Call, Outcome, system_command, accepted}
use Rattle.rules.specs.Calls.{Answer as Answered}
use Rattle.rules.specs.Desk.{due_command}
use Rattle.rules.specs.Refusals.{line, lines, first_holding, refusal}
use Rattle.rules.specs.Step as Step
use Rattle.rules.specs.Step.{step, outcome, changed, tables_after, round_after, desk_after, written, front}
use Rattle.rules.specs.Floor as floor
use Rattle.rules.specs.Floor.{only_if, order_by, order_of, decimal, line_of, shown_answer, obeyed, step_line}
use Rattle.card.specs.declared.Card.{Card}
use Rattle.card.specs.declared.Reply.{Reply}
use Rattle.card.specs.View.{view, stored, Left}
use Rattle.card.specs.Replies.{replied}
use Rattle.card.proofs.Left.{left-form}
use Rattle.floor_orders.specs.Orders.{arguments_of, call_letter}
use Rattle.floor_orders.proofs.OrderLaws.{NoLetter, order_is, order-none, letter-known}
use Rattle.floor_answers.specs.Shown.{shown_by, line_by}

-- what a system command does does not depend on what stood in the buffer
module _ (m : Model) (b c : List ℕ) where
  refusal-same : length b ≡ length c → refusal m (system_command b) ≡ refusal m (system_command c)
  unfolding refusal lines
  refusal-same e = ap (λ n. first_holding (line 16 m.desk.outstanding ∷ line 18 (n <? 256) ∷ [])) e

  record Same (o p : Outcome) : Type 0 where
    after : o.after ≡ p.after
    answer : o.answer ≡ p.answer
    shown : take o.answer.number o.buffer ≡ take p.answer.number p.buffer

  outcome-same : (r : ℕ) → Same (outcome r m (system_command b)) (outcome r m (system_command c))
  unfolding outcome changed tables_after desk_after round_after Step.answer written front
  outcome-same zero =
      let d = due_command m.tables m.desk in
      record { after = refl; answer = refl; shown = take-append_seam d (drop (length d) b) ∙ sym (take-append_seam d (drop (length d) c)) }
  outcome-same (suc r) = record { after = refl; answer = refl; shown = refl }

  step_same : length b ≡ length c → Same (step m (system_command b)) (step m (system_command c))
  unfolding step
  step_same e = rw (refusal-same e) (outcome-same (refusal m (system_command c)))

-- WHAT WAS MADE OF A RECORD: the card and the line are those of the rules, and the lent buffer is as long as it was.
pub record Made (m : Model) (s : List ℕ) (call : Option ℕ) (end : List ℕ) (r : Reply) : Type 0 where
  pub card : (k letter : ℕ) → r.card ≡ stored (floor.obey k letter m (order_of s)).card
  pub line : (k letter : ℕ) → line_by k letter call r.answer end ≡ (floor.obey k letter m (order_of s)).line
  pub long : length end ≡ 256

abbrev blank : List ℕ
blank = replicate 256 0

-- what was read of a record before its call is made: the letter of the call, the applet and the arguments; the buffer is 256 bytes
pub record Heard (c : Card) (s : List ℕ) (x : Option ℕ) (a : ℕ) (l buffer : List ℕ) : Type 0 where
  pub left : Left c
  pub letter : x ≡ call_letter s
  pub applet : a ≡ byte s 1
  pub arguments : l ≡ arguments_of s
  pub wide : length buffer ≡ 256

module _ {c : Card} {s : List ℕ} {x : Option ℕ} {a : ℕ} {l buffer : List ℕ} (heard : Heard c s x a l buffer) where
  makes : (y : ℕ) (b : Bool) (q : Call) → x ≡ Some y → order_by y a (byte s 2) l ≡ only_if b q → order_of s ≡ floor.call q
  makes y b q e is = order_is s y b q (sym e ∙ heard.letter) heard.applet heard.arguments is

module _ {c : Card} {s : List ℕ} {x : Option ℕ} {a : ℕ} {l buffer : List ℕ} (heard : Heard c s x a l buffer) {end : List ℕ} {p r : Reply} where
  -- the call q that the letter y stands for, and what is shown of its answer
  pub made-call
      : (y : ℕ) (b : Bool) (q : Call) → x ≡ Some y → order_by y a (byte s 2) l ≡ only_if b q → shown_by y (stored_answer (step (view c) q).answer) end ≡ shown_answer q (step (view c) q)
      → p ≡ replied (step (view c) q) → end ≡ buffer → r ≡ p → Made (view c) s x end r
  unfolding floor.obey obeyed replied stored_answer line_by
  made-call y b q e is shown g k same =
      let o = step (view c) q in
      let order = makes heard y b q e is in
      record {
        card = λ i j. rw (order, same, g) refl;
        line = λ i j. rw (order, same, g, e) (ap (λ (t : List ℕ). line_of i j (decimal o.answer.refusal) (if o.answer.refusal == 0 then t else [])) shown);
        long = ap length k ∙ heard.wide;
      }

  -- the system command, into the buffer as it stands
  pub made-command
      : {d : List ℕ} → x ≡ Some (code "W") → (p ≡ replied (step (view c) (system_command buffer))) × (d ≡ (step (view c) (system_command buffer)).buffer) → length d ≡ length buffer → end ≡ d → r ≡ p
      → Made (view c) s x end r
  unfolding floor.obey obeyed replied stored_answer line_by shown_by in? some? ascii shown_answer order_by
  made-command e g h k same =
      let o = step (view c) (system_command buffer) in
      let n = step (view c) (system_command blank) in
      let alike = step_same (view c) buffer blank (heard.wide ∙ sym (length-replicate {A = ℕ} 256 0)) in
      let order = makes heard (code "W") (byte s 2 == 0 && a == 0) (system_command blank) e refl in
      record {
        card = λ i j. rw (order, same, g.0) (ap stored alike.after);
        line =
            λ i j. rw (order, same, g.0, e, k, g.1)
            (ap (λ (t : List ℕ). line_of i j (decimal o.answer.refusal) (if o.answer.refusal == 0 then t else [])) alike.shown
            ∙ ap (λ (t : Answered). line_of i j (decimal t.refusal) (if t.refusal == 0 then take n.answer.number n.buffer else [])) alike.answer);
        long = ap length k ∙ h ∙ heard.wide;
      }

  -- and no call
  pub made_none : x ≡ None → p ≡ record { card = c; answer = stored_answer accepted } → end ≡ buffer → r ≡ p → Made (view c) s x end r
  unfolding floor.obey line_by
  made_none e g k same =
      let none = order-none s (sym e ∙ heard.letter) in
      record {
        card = λ i j. rw (none, same, g) (left-form c heard.left);
        line = λ i j. rw (none, e) refl;
        long = ap length k ∙ heard.wide;
      }

-- for no other letter is a call made
pub unheard
    : {c : Card} {s : List ℕ} {x : Option ℕ} {a : ℕ} {l buffer : List ℕ} {y : ℕ} → Heard c s x a l buffer → x ≡ Some y → NoLetter y → ⊥
unheard {s = s} heard e = letter-known s (sym e ∙ heard.letter)

-- what the rules say of a record: the card that holds the model it leaves, and its line at the front of b, which is d afterwards
pub record Obeys (o : floor.Obeyed) (b d : List ℕ) (card : Card) (n : ℕ) : Type 0 where
  pub same : card ≡ stored o.card
  pub wrote : Wrote b 0 o.line d n

-- THE RECORD ITSELF
pub at-record
    : (k : ℕ) {letter : ℕ} {call : Option ℕ} {m : Model} (s : List ℕ) {end : List ℕ} {p : Reply} {b d : List ℕ} {n : ℕ}
    → letter ≡ byte s 0 → Made m s call end p → Wrote b 0 (line_by k letter call p.answer end) d n → Obeys (step_line k m s) b d p.card n
unfolding step_line
at-record k s e g w = record { same = g.card k (byte s 0); wrote = wrote_as (rw e (g.line k (byte s 0))) w }
