use Rattle.std.proofs.Common.{rules, arith, refl, ap, ◌∙◌, Ok}
use Rattle.std.proofs.lemmas.Result.{err_from_is_err_and}
use Rattle.script_line.specs.Lines.{arguments_of}
use Rattle.script_line.proofs.LineLaws.{install-bad, last-yes, last-no}
use Rattle.script_line.proofs.RoomLaws.{install-held, event-held}
use Rattle.script_line.proofs.fields.arguments.Goals as goal

pub returns-in_err-bytes-in-Install : goal.returns-in_err-bytes-in-Install
returns-in_err-bytes-in-Install c =
    let p = err_from_is_err_and c.from_residual.result c.from_residual.ensures.1 in
    rw (p.1, p.2, c.in-Install.is) (install-bad c.args.line.now (rw c.requires at c.in_err-bytes-in-Install.ensures))

pub returns-in_err-nothing_left-in-Nothing : goal.returns-in_err-nothing_left-in-Nothing
unfolding arguments_of
returns-in_err-nothing_left-in-Nothing c =
    let r = c.from_residual-in_err-nothing_left-in-Nothing in
    let p = err_from_is_err_and r.result r.ensures.1 in
    rw (p.1, p.2, c.in-Nothing.is, c.in_err-nothing_left-in-Nothing.ensures.cause) (last-no _ _ (search rules))

pub returns-in_ok-bytes-in-Install : goal.returns-in_ok-bytes-in-Install
returns-in_ok-bytes-in-Install c =
    let g = rw c.requires at c.in_ok-bytes-in-Install.ensures in
    rw (c.in-Install.is, c.requires) (install-held c.args.line.now c.bytes.new.room (search rules) g)

pub returns-in_ok-event-in-Event : goal.returns-in_ok-event-in-Event
returns-in_ok-event-in-Event c = rw (c.in-Event.is, c.requires) (event-held c.args.line.now c.copy_from_slice.new.self (search rules) (ap Ok c.copy_from_slice.ensures.after ∙ c.in_ok-event-in-Event.ensures))

pub returns-in_ok-nothing_left-in-Nothing : goal.returns-in_ok-nothing_left-in-Nothing
unfolding arguments_of
returns-in_ok-nothing_left-in-Nothing c = rw c.in-Nothing.is (record { few = omega arith; said = last-yes _ _ (search rules); kept = refl })
