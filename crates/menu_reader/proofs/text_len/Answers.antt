-- `text_len` meets its contract: each test by a number that every item has there. Assumes nothing.
use native.Mathlib.Omega.{arith}
use Rattle.menu_reader.proofs.Items.{text-none, text-is}
use borrow.Author.Rules.{rules}
use Rattle.menu_reader.proofs.text_len.Goals as goal

pub returns-then-left-lt4 : goal.returns-then-left-lt4
returns-then-left-lt4 c = text-none _ _ (λ n d h i j k e f g. omega arith)

pub returns-then-bytes-at : goal.returns-then-bytes-at
returns-then-bytes-at c = text-none _ _ (λ n d h i j k e f g. c.if-bytes-at.true e)

pub returns-then-bytes-at-eq0 : goal.returns-then-bytes-at-eq0
returns-then-bytes-at-eq0 c = text-none _ _ (λ n d h i j k e f g. omega arith)

pub returns-then-n-lt2 : goal.returns-then-n-lt2
returns-then-n-lt2 c = text-none _ _ (λ n d h i j k e f g. omega arith)

pub returns-then-n : goal.returns-then-n
returns-then-n c = text-none _ _ (λ n d h i j k e f g. omega arith)

pub returns-then-left-n : goal.returns-then-left-n
returns-then-left-n c = text-none _ _ (λ n d h i j k e f g. omega arith)

pub returns : goal.returns
returns c =
    text-is _ _ (search rules) c.from-n.ensures c.if-bytes-at-eq0.false (search rules) (omega arith) (omega arith) (omega arith)
