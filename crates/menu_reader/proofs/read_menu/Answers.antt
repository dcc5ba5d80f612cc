-- `read_menu` meets its contract: each refusal by a part that every menu command has. Assumes nothing.
use native.Mathlib.Omega.{arith}
use mathlib.Core.Path.{refl, ap, ◌∙◌}
use Rattle.rules.specs.Held.{stored_menu}
use Rattle.menu_reader.proofs.Answer.{no-title, long-title, no_room, bad-items, is_read}
use Rattle.menu_reader.proofs.read_menu.Goals as goal

pub returns-in_default : goal.returns-in_default
returns-in_default c = c.refusal.ensures ∙ ap stored_menu (no-title c.title_at.ensures c.in_default.is)

pub overflow_sub-help : goal.overflow_sub-help
overflow_sub-help c = omega (arith, (c.in-Some.ensures.some c.in-Some.start refl).1)

pub returns-then-len-gt-TITLE : goal.returns-then-len-gt-TITLE
returns-then-len-gt-TITLE c = c.refusal-then-len-gt-TITLE.ensures ∙ ap stored_menu (long-title c.in-Some.ensures (rw c.from-len.ensures at c.if-len-gt-TITLE.true))

pub returns-then-bytes-end : goal.returns-then-bytes-end
returns-then-bytes-end c = c.refusal-then-bytes-end.ensures ∙ ap stored_menu (no_room c.in-Some.ensures (rw c.from-len.ensures at c.if-bytes-end.true))

pub returns-then-parsed-bytes : goal.returns-then-parsed-bytes
returns-then-parsed-bytes c =
    c.refusal-then-parsed-bytes.ensures
    ∙ ap stored_menu (bad-items c.in-Some.ensures (rw c.from-len.ensures at c.if-len-gt-TITLE.false) (rw c.from-len.ensures at c.if-bytes-end.false) (rw c.from-len.ensures at c.items_at-from.ensures) c.read_items-parsed.ensures c.if-parsed-bytes.true)

pub returns : goal.returns
returns c =
    rw c.from-len.ensures
    (is_read c.in-Some.ensures (rw c.from-len.ensures at c.if-len-gt-TITLE.false) (rw c.from-len.ensures at c.if-bytes-end.false) (rw c.from-len.ensures at c.items_at-from.ensures) c.read_items-parsed.ensures c.if-parsed-bytes.false (rw c.from-len.ensures at c.held-title.ensures))
