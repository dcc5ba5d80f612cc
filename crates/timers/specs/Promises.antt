-- What the two timer calls of a bank promise, of the bank before, the inputs, the answer and the bank after: what stands then is
-- the rules' outcome. One statement serves the calls by value and those on a lent bank.
use Rattle.std.specs.Prelude.{ℕ, ◌≡◌}
use Rattle.rules.specs.declared.Answer.{Answer}
use Rattle.rules.specs.declared.Bank.{Bank}
use Rattle.rules.specs.Held.{stored_answer}
use Rattle.rules.specs.Beside.{BankOutcome, bank_allocate, bank_release}

-- the answer and the bank are an outcome's
abbrev pub Banks : BankOutcome → Answer → Bank → Type 0
Banks o answer after = (answer ≡ stored_answer o.answer) × (after ≡ record { owner = o.owners })

abbrev pub Allocates : Bank → (applet limit : ℕ) → Answer → Bank → Type 0
Allocates before applet limit answer after = Banks (bank_allocate before.owner applet limit) answer after

-- a release gives the same whatever the applet's limit is
abbrev pub Releases : Bank → (applet timer : ℕ) → Answer → Bank → Type 0
Releases before applet timer answer after = (limit : ℕ) → Banks (bank_release before.owner applet limit timer) answer after
