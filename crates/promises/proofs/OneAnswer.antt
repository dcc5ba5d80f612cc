-- NO SECOND ANSWER meets the contract of a public call: for each call, by one law. Assumes nothing.
use Prim.Native.Nat.{ℕ}
use mathlib.Core.Path.{◌≡◌, sym, ◌∙◌}
use mathlib.Core.List.{List}
use Rattle.rules.specs.Calls.{Call}
use Rattle.rules.specs.Readers.{Locates, GivesValue, TellsOf, LocatesContent, GivesContent, ReadsEnvelope, ReadsCommand, ReadsMenu}
use Rattle.card.specs.declared.Card.{Card}
use Rattle.card.specs.Replies.{Replies, Fills, MakesFresh}

-- an answer is settled where every two that meet the contract are the same
abbrev pub Settled : {R : Type 0} → (R → Type 0) → Type 0
Settled {R} P = (r s : R) → P r → P s → r ≡ s

-- THE LAW: a contract that is an equation settles its answer
pub one_answer : {R : Type 0} (x : R) → Settled (λ (r : R). r ≡ x)
one_answer x r s p q = p ∙ sym q

-- EVERY CALL ON A CARD, by the contract of its method: the card and the answer, and what stands in a lent buffer; and a fresh card
pub reply-settled : (c : Card) (x : Call) → Settled (Replies c x)
reply-settled c x = one_answer _

pub buffer-settled : (c : Card) (x : Call) → Settled (Fills c x)
buffer-settled c x = one_answer _

pub fresh-settled : (title : List ℕ) → Settled (MakesFresh title)
fresh-settled title = one_answer _

-- THE READERS, by their contracts: an element looked for, where it stands, its bytes, and whether there is one; the handler's content, where it stands and its bytes; what
-- an envelope and a command say; the menu reader.
module _ (bytes : List ℕ) where
  pub locate-settled : (tag occurrence : ℕ) → Settled (Locates bytes tag occurrence)
  locate-settled tag occurrence = one_answer _

  pub find-settled : (tag occurrence : ℕ) → Settled (GivesValue bytes tag occurrence)
  find-settled tag occurrence = one_answer _

  pub has-settled : (tag occurrence : ℕ) → Settled (TellsOf bytes tag occurrence)
  has-settled tag occurrence = one_answer _

  pub content-at-settled : Settled (LocatesContent bytes)
  content-at-settled = one_answer _

  pub content-settled : Settled (GivesContent bytes)
  content-settled = one_answer _

  pub read-envelope-settled : Settled (ReadsEnvelope bytes)
  read-envelope-settled = one_answer _

  pub read-command-settled : Settled (ReadsCommand bytes)
  read-command-settled = one_answer _

  pub read-menu-settled : Settled (ReadsMenu bytes)
  read-menu-settled = one_answer _
