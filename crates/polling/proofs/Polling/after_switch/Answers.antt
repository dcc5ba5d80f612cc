-- `after_switch` meets its contract.
use Rattle.std.proofs.Common.{◌≡◌, length, rules}
use Rattle.polling.proofs.OneRequest.{due-by-switch}
use Rattle.polling.proofs.Polling.after_switch.Goals as goal

pub returns : goal.returns
returns c =
    let eight : length c.args.requests.polls ≡ 8 = search rules in
    due-by-switch c.args.session c.args.self.interval c.args.self.off c.args.requests.polls c.args.requests.set c.args.applet c.by_number-own.ensures c.has-was.ensures c.counted.ensures
    eight c.args.on c.counted-2.ensures c.after_turn.ensures
