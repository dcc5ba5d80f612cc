-- `send` meets its contract.
-- Assumes nothing.
use Rattle.card.proofs.Sends.{sends}
use Rattle.card.proofs.Card.send.Goals as goal

pub returns : goal.returns
returns c =
    sends c.args.self c.requires c.args.applet c.args.bytes.now c.read_command-command.ensures c.has-there.ensures
    c.send_refusal-refusal.ensures c.outstanding_after-is.ensures c.refusal-answer.ensures
