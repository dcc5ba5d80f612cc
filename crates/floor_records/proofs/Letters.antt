-- The call that each letter stands for: a record that was heard, and the call made, are what the rules say of the record.
-- Assumes nothing.
use Prim.Native.Nat.{ℕ, zero, suc}
use Prim.Native.Char.{code}
use mathlib.Core.Path.{◌≡◌, refl, ap, ◌∙◌}
use mathlib.Core.Bool.{◌&&◌}
use mathlib.Core.List.{List}
use lib.ListN.{drop}
use lib.IntN.{ℤ}
use Rattle.lists.specs.Tests.{◌≤?◌}
use Rattle.std.specs.Prelude.{Option, Some, ◌==◌}
use Rattle.lists.specs.Lists.{some?, in?}
use Rattle.lists.specs.Text.{ascii}
use Rattle.rules.specs.declared.Request.{Request}
use Rattle.rules.specs.Bytes.{byte}
use Rattle.rules.specs.Held.{stored_answer}
use Rattle.rules.specs.Calls.{Call, admin, event, entry, timer, arrival, next, proactive}
use Rattle.rules.specs.Calls.{install, delete, lock, unlock, set_event, clear_event, new_entry, allocate, envelope, profile, settled, response}
use Rattle.rules.specs.Floor.{order_by, request_of, signed, shown_answer}
use Rattle.rules.specs.Refusals.{refusal}
use Rattle.rules.specs.Step.{step, outcome, answer}
use Rattle.runs.proofs.Waiting.{one-called}
use Rattle.card.specs.declared.Card.{Card}
use Rattle.card.specs.declared.Reply.{Reply}
use Rattle.card.specs.View.{view}
use Rattle.card.specs.Replies.{replied}
use Rattle.card.proofs.Left.{left-sound}
use Rattle.floor_answers.specs.Shown.{shown_by}
use Rattle.floor_records.proofs.ObeyLaws.{Heard, Made, made-call}

module _ {c : Card} {s : List ℕ} {x : Option ℕ} {a : ℕ} {l buffer : List ℕ} (heard : Heard c s x a l buffer) where
  -- the letter is this one, the reply is that of this call, and the buffer and the reply are handed on
  abbrev Stands : (letter : ℕ) → Call → (end : List ℕ) (p r : Reply) → Type 0
  Stands y q end p r = x ≡ Some y → p ≡ replied (step (view c) q) → end ≡ buffer → r ≡ p → Made (view c) s x end r

  pub installs : {end : List ℕ} {p r : Reply} {q : Request} → q ≡ request_of l → Stands (code "I") (admin (install a q)) end p r
  unfolding order_by shown_by in? some? ascii shown_answer stored_answer
  installs z e g = made-call heard (code "I") (byte s 2 == 12) (admin (install a (request_of l))) e refl refl (g ∙ ap (λ (q : Request). replied (step (view c) (admin (install a q)))) z)

  pub enters : {end : List ℕ} {p r : Reply} {mark : ℕ} {text : List ℕ} → mark ≡ byte l 0 → text ≡ drop 1 l → Stands (code "M") (entry (new_entry a (mark == 1) text)) end p r
  unfolding order_by shown_by in? some? ascii shown_answer stored_answer
  enters y z e g = made-call heard (code "M") (1 ≤? byte s 2 && byte l 0 ≤? 1) (entry (new_entry a (byte l 0 == 1) (drop 1 l))) e refl refl (g ∙ rw (y, z) refl)

  pub sets : {end : List ℕ} {p r : Reply} {v : ℤ} → v ≡ signed (byte l 0) (byte l 1) → Stands (code "E") (event (set_event a v)) end p r
  unfolding order_by shown_by in? some? ascii shown_answer stored_answer
  sets z e g = made-call heard (code "E") (byte s 2 == 2) (event (set_event a (signed (byte l 0) (byte l 1)))) e refl refl (g ∙ ap (λ (v : ℤ). replied (step (view c) (event (set_event a v)))) z)

  pub clears : {end : List ℕ} {p r : Reply} {v : ℤ} → v ≡ signed (byte l 0) (byte l 1) → Stands (code "C") (event (clear_event a v)) end p r
  unfolding order_by shown_by in? some? ascii shown_answer stored_answer
  clears z e g = made-call heard (code "C") (byte s 2 == 2) (event (clear_event a (signed (byte l 0) (byte l 1)))) e refl refl (g ∙ ap (λ (v : ℤ). replied (step (view c) (event (clear_event a v)))) z)

  pub profiles : {end : List ℕ} {p r : Reply} → Stands (code "P") (arrival (profile l)) end p r
  unfolding order_by shown_by in? some? ascii shown_answer stored_answer
  profiles e = made-call heard (code "P") (a == 0) (arrival (profile l)) e refl refl

  pub arrives : {end : List ℕ} {p r : Reply} → Stands (code "S") (arrival (envelope l)) end p r
  unfolding order_by shown_by in? some? ascii shown_answer stored_answer
  arrives e = made-call heard (code "S") (a == 0) (arrival (envelope l)) e refl refl

  pub settles : {end : List ℕ} {p r : Reply} → Stands (code "O") (arrival settled) end p r
  unfolding order_by shown_by in? some? ascii shown_answer stored_answer
  settles e = made-call heard (code "O") (byte s 2 == 0 && a == 0) (arrival settled) e refl refl

  -- the one called is shown as the rules show it
  next-shown : (end : List ℕ) → shown_by (code "N") (stored_answer (step (view c) next).answer) end ≡ (step (view c) next).answer.called
  unfolding shown_by in? some? ascii stored_answer step
  next-shown end = go (refusal (view c) next)
    where
      go : (k : ℕ) → shown_by (code "N") (stored_answer (outcome k (view c) next).answer) end ≡ (outcome k (view c) next).answer.called
      go zero = unfold outcome answer in one-called (view c).tables (left-sound c heard.left).tables (view c).round
      go (suc k) = unfold outcome in refl

  pub turns : {end : List ℕ} {p r : Reply} → Stands (code "N") next end p r
  unfolding order_by shown_answer
  turns {end} e = made-call heard (code "N") (byte s 2 == 0 && a == 0) next e refl (next-shown end)

  pub responds : {end : List ℕ} {p r : Reply} → Stands (code "R") (proactive response) end p r
  unfolding order_by shown_by in? some? ascii shown_answer stored_answer
  responds e = made-call heard (code "R") (byte s 2 == 0 && a == 0) (proactive response) e refl refl

  pub allocates : {end : List ℕ} {p r : Reply} → Stands (code "T") (timer (allocate a)) end p r
  unfolding order_by shown_by in? some? ascii shown_answer stored_answer
  allocates e = made-call heard (code "T") (byte s 2 == 0) (timer (allocate a)) e refl refl

  pub deletes : {end : List ℕ} {p r : Reply} → Stands (code "D") (admin (delete a)) end p r
  unfolding order_by shown_by in? some? ascii shown_answer stored_answer
  deletes e = made-call heard (code "D") (byte s 2 == 0) (admin (delete a)) e refl refl

  pub locks : {end : List ℕ} {p r : Reply} → Stands (code "L") (admin (lock a)) end p r
  unfolding order_by shown_by in? some? ascii shown_answer stored_answer
  locks e = made-call heard (code "L") (byte s 2 == 0) (admin (lock a)) e refl refl

  pub unlocks : {end : List ℕ} {p r : Reply} → Stands (code "U") (admin (unlock a)) end p r
  unfolding order_by shown_by in? some? ascii shown_answer stored_answer
  unlocks e = made-call heard (code "U") (byte s 2 == 0) (admin (unlock a)) e refl refl
