-- `title_at` meets its contract: the bytes are compared with the front that they ask for. Assumes nothing.
use native.Mathlib.Omega.{arith}
use mathlib.Core.Path.{refl, sym, subst}
use Rattle.menu_reader.specs.Reads.{TitleAt}
use Rattle.menu_reader.proofs.Front.{title-none, title-no, title-there}
use Rattle.menu_reader.proofs.title_at.Goals as goal

pub returns-in_err-v : goal.returns-in_err-v
returns-in_err-v c = subst (TitleAt c.args.bytes.now) (sym c.from_residual.ensures) (title-none c.in_err-v.ensures refl)

pub overflow_add-v : goal.overflow_add-v
overflow_add-v c = omega (arith, (c.in_ok-v.ensures.some c.in_ok-v.v refl).1)

pub bounds-bytes-v : goal.bounds-bytes-v
bounds-bytes-v c = omega (arith, (c.in_ok-v.ensures.some c.in_ok-v.v refl).1)

pub overflow_add-len : goal.overflow_add-len
overflow_add-len c = omega (arith, (c.in_ok-v.ensures.some c.in_ok-v.v refl).1)

pub bounds-bytes-v-2 : goal.bounds-bytes-v-2
bounds-bytes-v-2 c = omega (arith, (c.in_ok-v.ensures.some c.in_ok-v.v refl).1)

pub overflow_add-at : goal.overflow_add-at
overflow_add-at c = omega (arith, (c.in_ok-v.ensures.some c.in_ok-v.v refl).1)

pub slice_bounds-same-end : goal.slice_bounds-same-end
slice_bounds-same-end c = omega (arith, (c.in_ok-v.ensures.some c.in_ok-v.v refl).1)

pub returns-then-same : goal.returns-then-same
returns-then-same c = title-there c.in_ok-v.ensures c.qualifier-q.ensures c.same.ensures c.if-same.true

pub returns : goal.returns
returns c = title-no c.in_ok-v.ensures c.qualifier-q.ensures c.same.ensures c.if-same.false
