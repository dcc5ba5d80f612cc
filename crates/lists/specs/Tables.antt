-- An array by its index: what stands in place i is f i.
use Rattle.std.specs.Prelude.{ℕ, zero, suc, List, [], ◌∷◌}

unfoldable pub table : {A : Type 0} → (places : ℕ) → (ℕ → A) → List A
table zero f = []
table (suc n) f = f 0 ∷ table n (λ i. f (suc i))
