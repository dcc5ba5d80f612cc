-- `send_refusal` meets its contract, by what the command is.
-- Assumes nothing.
use borrow.Author.Rules.{rules}
use Rattle.rules.specs.Numbers.{refusal_number, number_of}
use Rattle.refusals.proofs.Lines.{send-plain, send-timer, send-malformed}
use Rattle.refusals.proofs.send_refusal.Goals as goal

pub returns-in-Ok-Plain : goal.returns-in-Ok-Plain
returns-in-Ok-Plain c t h = search (send-plain t c.args.applet c.args.there c.args.outstanding c.args.command (refusal_number c.lowest_line.result) c.in-Ok-Plain.kind c.is_system.result, rules)

pub returns-in-Ok-Timer : goal.returns-in-Ok-Timer
returns-in-Ok-Timer c t h = search (send-timer, rules)

pub returns-in-Err : goal.returns-in-Err
unfolding refusal_number number_of
returns-in-Err c t h = search (send-malformed, rules)
