-- `after_request` meets its contract.
use Rattle.polling.proofs.OneRequest.{due-by-request}
use Rattle.polling.proofs.Polling.after_request.Goals as goal

pub returns : goal.returns
returns c =
    due-by-request c.args.session c.args.self.interval c.args.self.off c.args.requests.polls c.args.requests.set c.args.applet c.by_number-own.ensures c.has-counts.ensures c.counted.ensures
    c.args.seconds c.counted-2.ensures c.after_turn.ensures
