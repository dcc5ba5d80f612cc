-- `value_at` meets its contract: each test by a number that every command has there. Assumes nothing.
use native.Mathlib.Omega.{arith}
use Rattle.menu_reader.proofs.Front.{value_None, value-short, value-long}
use borrow.Author.Rules.{rules}
use Rattle.menu_reader.proofs.value_at.Goals as goal

pub returns-then-n-lt13 : goal.returns-then-n-lt13
returns-then-n-lt13 c = value_None _ (λ k h i e f g. omega arith) (λ k i e f g j. omega arith)

pub returns-then-bytes : goal.returns-then-bytes
returns-then-bytes c = value_None _ (λ k h i e f g. c.if-bytes.true f) (λ k i e f g j. c.if-bytes.true f)

pub returns-then-from-n : goal.returns-then-from-n
returns-then-from-n c = value-short _ (omega arith) (omega arith) (search rules) (omega (arith, c.from.ensures, c.if-from-n.true))

pub returns-then-n-lt130 : goal.returns-then-n-lt130
returns-then-n-lt130 c = value_None _ (λ k h i e f g. omega arith) (λ k i e f g j. omega arith)

pub returns-then-bytes-2 : goal.returns-then-bytes-2
returns-then-bytes-2 c = value_None _ (λ k h i e f g. omega arith) (λ k i e f g j. c.if-bytes-2.true g)

pub returns-then-n-eq130 : goal.returns-then-n-eq130
returns-then-n-eq130 c = value_None _ (λ k h i e f g. omega arith) (λ k i e f g j. omega arith)

pub returns-then-from-n-2 : goal.returns-then-from-n-2
returns-then-from-n-2 c = value-long _ (omega arith) (search rules) (search rules) (omega (arith, c.from-2.ensures, c.if-from-n-2.true))

pub returns : goal.returns
returns c = value_None _ (λ k h i e f g. omega arith) (λ k i e f g j. omega arith)
