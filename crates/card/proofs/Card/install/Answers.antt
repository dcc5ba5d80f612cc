-- `card::Card::install` meets its contract. By what its parts say, accepted and refused.
-- Assumes nothing.
use Rattle.rules.proofs.Numbers.{accepted-zero, refused-above}
use Rattle.card.proofs.Order.{order-form, order-eight}
use Rattle.card.proofs.Installs.{from_one, to-eight, count_room, accepts, with-newcomer, as_it_was, install-replies}
use Rattle.card.proofs.Card.install.Goals as goal
use Rattle.card.proofs.Card.install.Goals.{then-is_ok, else-is_ok}

pub roll_with-next-requires : goal.roll_with-next-requires
roll_with-next-requires c =
    let k = c.args.self in
    let l = c.requires in
    let n = c.args.applet in
    let q = c.args.request in
    let a = accepts k l n q c.install_refusal-refusal.ensures (accepted-zero _ c.is_ok.ensures.value c.if-is_ok.true) in
    (from_one k l n q a, to-eight k l n q a, count_room k l n q a, order-form k l, order-eight k l)

pub returns : goal.returns
returns c =
    let k = c.args.self in
    let l = c.requires in
    let n = c.args.applet in
    let q = c.args.request in
    let e = c.install_refusal-refusal.ensures in
    install-replies k l n q e
    (elim c.if-is_ok.branch [
      | then-is_ok w ↦ with-newcomer k l n q e (accepted-zero _ c.is_ok.ensures.value w.if-is_ok.true) (w.granted-grant.ensures n) w.roll_with-next.ensures w.switched-selectable.ensures w.left-is
      | else-is_ok w ↦ as_it_was k l n q e (refused-above _ c.is_ok.ensures.value w.if-is_ok.false) w.left-is
    ])
    c.refusal-answer.ensures
