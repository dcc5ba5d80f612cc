use Rattle.std.proofs.Common.{rules, ap, sym, ◌∙◌, Ok, Some}
use Rattle.script_line.specs.Lines.{lettered}
use Rattle.script_line.proofs.LineLaws.{unknown}
use Rattle.script_line.proofs.RoomLaws.{sealed-is}
use Rattle.script_line.proofs.line.write_record.Goals as goal

pub returns-in_default-form : goal.returns-in_default-form
returns-in_default-form c =
    let said = rw c.in-Some.is at c.in_ok-letter.ensures in
    let none = rw c.in_default-form.is at c.form.ensures in
    sym (said ∙ ap (λ f. lettered f c.in-Some.letter c.in-Some.left.now) (sym none) ∙ unknown c.in-Some.letter c.in-Some.left.now)

pub returns : goal.returns
returns c =
    let f = c.in_ok-applet.ensures in
    let said = rw c.in-Some.is at c.in_ok-letter.ensures in
    let some = rw c.in-Some-form.is at c.form.ensures in
    let record_is = sealed-is c.in-Some.letter c.in_ok-applet.applet c.in_ok-applet.count c.read_on.new.room (search rules) (search rules) f.kept in
    sym (said ∙ ap (λ f. lettered f c.in-Some.letter c.in-Some.left.now) (sym some) ∙ f.means c.in-Some.letter ∙ ap (λ r. Ok (Some r)) (sym record_is))
