-- What a timer call promises settles its answer and the bank: no second answer meets it, and a refusal leaves the bank as it was.
-- Assumes nothing.
use mathlib.Core.Path.{◌≡◌, refl, sym, ap, ◌∙◌}
use mathlib.Core.List.{List}
use Prim.Native.Nat.{ℕ, zero, suc}
use native.Mathlib.Omega.{arith}
use Rattle.rules.specs.declared.Answer.{Answer}
use Rattle.rules.specs.declared.Bank.{Bank}
use Rattle.rules.specs.Held.{stored_answer}
use Rattle.rules.specs.Beside.{BankOutcome, bank_allocate, allocate_by, bank_release, release_by}
use Rattle.timers.specs.Promises.{Banks, Allocates, Releases}

pub banks-once : (o : BankOutcome) {a a' : Answer} {c c' : Bank} → Banks o a c → Banks o a' c' → (a ≡ a') × (c ≡ c')
banks-once o h k = (h.0 ∙ sym k.0, h.1 ∙ sym k.1)

-- an outcome that refuses has the owners that there were
abbrev Keeps : (owners : List ℕ) → BankOutcome → Type 0
Keeps owners o = (k : ℕ) → o.answer.refusal ≡ suc k → o.owners ≡ owners

allocate-keeps : (r : ℕ) (owners : List ℕ) (n : ℕ) → Keeps owners (allocate_by r owners n)
unfolding allocate_by
allocate-keeps zero owners n k e = absurd (omega arith)
allocate-keeps (suc r) owners n k e = refl

release-keeps : (r : ℕ) (owners : List ℕ) (timer : ℕ) → Keeps owners (release_by r owners timer)
unfolding release_by
release-keeps zero owners timer k e = absurd (omega arith)
release-keeps (suc r) owners timer k e = refl

refused-leaves : (b : Bank) (o : BankOutcome) → Keeps b.owner o → {a : Answer} {c : Bank} {k : ℕ} → Banks o a c → a.refusal ≡ suc k → c ≡ b
unfolding stored_answer
refused-leaves b o keeps h e =
    h.1 ∙ ap (λ (l : List ℕ). record { owner = l }) (keeps _ (sym (ap (λ (a : Answer). a.refusal) h.0) ∙ e))

module _ (b : Bank) (n : ℕ) {a : Answer} {c : Bank} where
  pub allocates-once : (limit : ℕ) {a' : Answer} {c' : Bank} → Allocates b n limit a c → Allocates b n limit a' c' → (a ≡ a') × (c ≡ c')
  allocates-once limit = banks-once (bank_allocate b.owner n limit)

  pub allocates-refused : (limit k : ℕ) → Allocates b n limit a c → a.refusal ≡ suc k → c ≡ b
  unfolding bank_allocate
  allocates-refused limit k = refused-leaves b (bank_allocate b.owner n limit) (allocate-keeps _ b.owner n)

  pub releases-once : (timer : ℕ) {a' : Answer} {c' : Bank} → Releases b n timer a c → Releases b n timer a' c' → (a ≡ a') × (c ≡ c')
  releases-once timer h k = banks-once (bank_release b.owner n 0 timer) (h 0) (k 0)

  pub releases-refused : (timer k : ℕ) → Releases b n timer a c → a.refusal ≡ suc k → c ≡ b
  unfolding bank_release
  releases-refused timer k h = refused-leaves b (bank_release b.owner n 0 timer) (release-keeps _ b.owner timer) (h 0)
