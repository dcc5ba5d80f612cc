-- `floor_orders::is_call` meets its contract: a case for each letter.
-- Assumes nothing.
use Prim.Native.Char.{code}
use mathlib.Core.Path.{sym, ap, ◌∙◌}
use mathlib.Core.Logic.{inl, inr, ⊎_elim}
use lib.ListN.{length}
use Rattle.rules.specs.Floor.{order_by}
use Rattle.floor_orders.specs.Orders.{makes_call}
use Rattle.floor_orders.proofs.OrderLaws.{made-if, by-letter, then-none, else-some, help-first, NoLetter, unknown}
use Rattle.floor_orders.proofs.is_call.Goals as goal

pub returns-in-73 : goal.returns-in-73
unfolding order_by
returns-in-73 c = by-letter c.args.applet c.args.arguments.now (code "I") c.in-73.is (made-if _ _)

pub returns-in-77 : goal.returns-in-77
unfolding order_by
returns-in-77 c = by-letter c.args.applet c.args.arguments.now (code "M") c.in-77.is (c.marks_help.ensures ∙ help-first _ ∙ made-if _ _)

pub returns-in-69 : goal.returns-in-69
unfolding order_by
returns-in-69 c = ⊎_elim (λ e. by-letter c.args.applet c.args.arguments.now (code "C") e (made-if _ _)) (λ e. by-letter c.args.applet c.args.arguments.now (code "E") e (made-if _ _)) c.in-69.is

pub returns-in-80 : goal.returns-in-80
unfolding order_by
returns-in-80 c = ⊎_elim (λ e. by-letter c.args.applet c.args.arguments.now (code "P") e (made-if _ _)) (λ e. by-letter c.args.applet c.args.arguments.now (code "S") e (made-if _ _)) c.in-80.is

pub returns-then-n-eq0 : goal.returns-then-n-eq0
unfolding order_by
returns-then-n-eq0 c =
    ⊎_elim (λ e. by-letter c.args.applet c.args.arguments.now (code "O") e (then-none (length c.args.arguments.now) c.args.applet c.if-n-eq0.true ∙ made-if _ _))
    (⊎_elim (λ e. by-letter c.args.applet c.args.arguments.now (code "R") e (then-none (length c.args.arguments.now) c.args.applet c.if-n-eq0.true ∙ made-if _ _))
    (λ e. by-letter c.args.applet c.args.arguments.now (code "W") e (then-none (length c.args.arguments.now) c.args.applet c.if-n-eq0.true ∙ made-if _ _))) c.in-79.is

pub returns-else-n-eq0 : goal.returns-else-n-eq0
unfolding order_by
returns-else-n-eq0 c =
    ⊎_elim (λ e. by-letter c.args.applet c.args.arguments.now (code "O") e (else-some (length c.args.arguments.now) c.args.applet c.if-n-eq0.false ∙ made-if _ _))
    (⊎_elim (λ e. by-letter c.args.applet c.args.arguments.now (code "R") e (else-some (length c.args.arguments.now) c.args.applet c.if-n-eq0.false ∙ made-if _ _))
    (λ e. by-letter c.args.applet c.args.arguments.now (code "W") e (else-some (length c.args.arguments.now) c.args.applet c.if-n-eq0.false ∙ made-if _ _))) c.in-79.is

pub returns-then-n-eq0-2 : goal.returns-then-n-eq0-2
unfolding order_by
returns-then-n-eq0-2 c = by-letter c.args.applet c.args.arguments.now (code "N") c.in-78.is (then-none (length c.args.arguments.now) c.args.applet c.if-n-eq0-2.true ∙ made-if _ _)

pub returns-else-n-eq0-2 : goal.returns-else-n-eq0-2
unfolding order_by
returns-else-n-eq0-2 c = by-letter c.args.applet c.args.arguments.now (code "N") c.in-78.is (else-some (length c.args.arguments.now) c.args.applet c.if-n-eq0-2.false ∙ made-if _ _)

pub returns-in-84 : goal.returns-in-84
unfolding order_by
returns-in-84 c = by-letter c.args.applet c.args.arguments.now (code "T") c.in-84.is (made-if _ _)

pub returns-in-68 : goal.returns-in-68
unfolding order_by
returns-in-68 c = ⊎_elim (λ e. by-letter c.args.applet c.args.arguments.now (code "D") e (made-if _ _)) (⊎_elim (λ e. by-letter c.args.applet c.args.arguments.now (code "L") e (made-if _ _)) (λ e. by-letter c.args.applet c.args.arguments.now (code "U") e (made-if _ _))) c.in-68.is

pub returns-in_default : goal.returns-in_default
unfolding makes_call
returns-in_default c =
    let r = c.in_default.in_default-own.rest in
    let q = r.0.0.0 in
    let none : NoLetter c.args.letter = (
      (
        (
          (
            (
              (
                ((((((q.0.0.0, λ e. q.0.0.1 (inr e)), λ e. q.0.0.1 (inl e)), λ e. q.0.1 (inl e)), λ e. q.0.1 (inr e)), λ e. q.1 (inl e)), r.0.0.1),
                λ e. q.1 (inr (inr e)),
              ),
              λ e. q.1 (inr (inl e)),
            ),
            r.0.1,
          ),
          λ e. r.1 (inl e),
        ),
        λ e. r.1 (inr (inl e)),
      ),
      λ e. r.1 (inr (inr e)),
    ) in
    sym (ap makes_call (unknown c.args.letter c.args.applet _ c.args.arguments.now none))
