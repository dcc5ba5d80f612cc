-- `read_items` meets its contract. The invariant: what is read is what stands before `next`, and no other items can stand there.
-- Assumes nothing.
use native.Mathlib.Omega.{arith}
use mathlib.Core.Path.{◌≡◌, refl, sym, ap, subst, ◌∙◌}
use mathlib.Core.Bool.{false}
use lib.ListN.{get_or}
use borrow.Author.Rules.{rules}
use Rattle.menu_reader.specs.Reads.{TextAt}
use Rattle.menu_reader.proofs.Come.{come-none, come-end, come-twice, come-more, come-full}
use Rattle.menu_reader.proofs.read_items.Goals as goal

pub loop-count-init : goal.loop-count-init
loop-count-init c = come-none _ _ c.no_item-none.ensures (search rules)

pub returns-in_default : goal.returns-in_default
returns-in_default c = come-end c.loop-count.invariant c.text_len.ensures c.in_default.is

pub bounds-bytes-next : goal.bounds-bytes-next
bounds-bytes-next c = omega (arith, ((subst (TextAt c.args.bytes.now c.loop-count.next) c.in-Some.is c.text_len.ensures).some c.in-Some.len refl).2)

pub overflow_add-end : goal.overflow_add-end
overflow_add-end c = omega (arith, ((subst (TextAt c.args.bytes.now c.loop-count.next) c.in-Some.is c.text_len.ensures).some c.in-Some.len refl).2)

pub slice_bounds-held-end : goal.slice_bounds-held-end
slice_bounds-held-end c = omega (arith, ((subst (TextAt c.args.bytes.now c.loop-count.next) c.in-Some.is c.text_len.ensures).some c.in-Some.len refl).2)

pub overflow_cast-size : goal.overflow_cast-size
overflow_cast-size c = omega (arith, ((subst (TextAt c.args.bytes.now c.loop-count.next) c.in-Some.is c.text_len.ensures).some c.in-Some.len refl).3)

pub returns-then-seen-from : goal.returns-then-seen-from
returns-then-seen-from c =
    come-twice c.loop-count.invariant (subst (TextAt c.args.bytes.now c.loop-count.next) c.in-Some.is c.text_len.ensures) (search rules) (ap (λ n. get_or c.loop-count.seen n false) (sym c.from.ensures) ∙ c.if-seen-from.true)

pub loop-count-preserved : goal.loop-count-preserved
loop-count-preserved c =
    rw c.from-in-loop-count.ensures
    (come-more c.loop-count.invariant (subst (TextAt c.args.bytes.now c.loop-count.next) c.in-Some.is c.text_len.ensures) c.loop-count-test.true (search rules) (ap (λ n. get_or c.loop-count.seen n false) (sym c.from.ensures) ∙ c.if-seen-from.false) c.held-text.ensures)

pub returns : goal.returns
returns c =
    let e : c.loop-count.count ≡ 12 = omega (arith, c.loop-count.auto.count-end, c.loop-count-test.false) in
    rw e at (come-full c.loop-count.invariant c.loop-count-test.false)
