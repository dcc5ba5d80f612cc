-- `floor_orders::call_letter` meets its contract.
-- Assumes nothing.
use mathlib.Core.Path.{sym, ◌∙◌}
use Rattle.floor_orders.proofs.OrderLaws.{letter-of-call, letter-of-none, letter-unfilled}
use Rattle.floor_orders.proofs.call_letter.Goals as goal
use Rattle.floor_orders.proofs.call_letter.Goals.{else-is_filled-via-then-is_filled+else-is_call, else-is_filled-via-else-is_filled}

pub returns-then-is_call : goal.returns-then-is_call
returns-then-is_call c = letter-of-call _ (sym c.if-is_filled.true ∙ c.is_filled.ensures) c.byte_at-letter.ensures c.byte_at.ensures c.arguments.ensures (sym c.if-is_call.true ∙ c.is_call.ensures)

pub returns-else-is_filled : goal.returns-else-is_filled
returns-else-is_filled c = elim c.else-is_filled.branch [
  | else-is_filled-via-then-is_filled+else-is_call w ↦ letter-of-none _ (sym w.if-is_filled.true ∙ c.is_filled.ensures) c.byte_at-letter.ensures w.byte_at.ensures w.arguments.ensures (sym w.if-is_call.false ∙ w.is_call.ensures)
  | else-is_filled-via-else-is_filled w ↦ letter-unfilled _ (sym w.if-is_filled.false ∙ c.is_filled.ensures)
]
