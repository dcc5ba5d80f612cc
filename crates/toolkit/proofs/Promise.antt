-- THE DOORS' PROMISES. No second answer meets the contract of a door; a refused call on a card changes neither the card nor one byte of a lent
-- buffer, and gives its number only. Assumes nothing.
use Prim.Native.Nat.{ℕ, suc}
use mathlib.Core.Path.{◌≡◌, sym, ap, ◌∙◌}
use mathlib.Core.List.{List}
use Rattle.rules.specs.declared.Answer.{Answer}
use Rattle.rules.specs.declared.Menu.{Menu}
use Rattle.rules.specs.Calls.{Outcome, Call, refused_with}
use Rattle.rules.specs.Refusals.{refusal}
use Rattle.rules.specs.Step.{lent}
use Rattle.rules.specs.Held.{stored_answer}
use Rattle.rules.specs.Readers.{ReadsMenu}
use Rattle.rules.proofs.OnRefusal.{refused}
use Rattle.card.specs.declared.Card.{Card}
use Rattle.card.specs.declared.Reply.{Reply}
use Rattle.card.specs.View.{view, stored, Left}
use Rattle.card.specs.Replies.{replied}
use Rattle.card.proofs.Left.{left-form}
use Rattle.toolkit.specs.declared.Made.{Made}
use Rattle.toolkit.specs.declared.Spot.{Spot}
use Rattle.toolkit.specs.Does.{Does}
use Rattle.toolkit.specs.Beside.{Makes, Finds, FindsContent}

-- NO SECOND ANSWER
pub does-once : {h c d : Card} {x : Call} {v w : Answer} {a b : List ℕ} → Does h x c v a → Does h x d w b → (c ≡ d) × (v ≡ w) × (a ≡ b)
does-once p q =
    let same = p.replies ∙ sym q.replies in
    (ap (λ (r : Reply). r.card) same, ap (λ (r : Reply). r.answer) same, p.fills ∙ sym q.fills)

pub makes-once : (title : List ℕ) {m n : Made} → Makes title m → Makes title n → m ≡ n
makes-once title p q = p ∙ sym q

pub finds-once : (run : List ℕ) (tag occurrence : ℕ) {s t : Spot} → Finds run tag occurrence s → Finds run tag occurrence t → s ≡ t
finds-once run tag occurrence p q = p ∙ sym q

pub finds-content-once : (envelope : List ℕ) {s t : Spot} → FindsContent envelope s → FindsContent envelope t → s ≡ t
finds-content-once envelope p q = p ∙ sym q

pub reads-menu-once : (bytes : List ℕ) {m n : Menu} → ReadsMenu bytes m → ReadsMenu bytes n → m ≡ n
reads-menu-once bytes p q = p ∙ sym q

-- A CALL THAT THE RULES REFUSE leaves the card and the lent buffer, and gives its number only.
pub refused-does : {c d : Card} {w : Answer} {b : List ℕ} (x : Call) → Left c → (n : ℕ) → refusal (view c) x ≡ suc n → Does c x d w b → (d ≡ c) × (w ≡ stored_answer (refused_with (suc n))) × (b ≡ lent x)
unfolding replied
refused-does {c} x left n e p =
    let o = refused (view c) x n e in (
      ap (λ (r : Reply). r.card) p.replies ∙ ap (λ (o : Outcome). stored o.after) o ∙ sym (left-form c left),
      ap (λ (r : Reply). r.answer) p.replies ∙ ap (λ (o : Outcome). stored_answer o.answer) o,
      p.fills ∙ ap (λ (o : Outcome). o.buffer) o,
    )
