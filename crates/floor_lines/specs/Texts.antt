-- What a line says of a refusal and of an answer, and its number in decimal.
use Rattle.std.specs.Prelude.{ℕ, List, Option, Some, None, ◌≡◌, length, take}
use Rattle.std.specs.Prelude.{if◌then◌else◌}
use Rattle.lists.specs.Lists.{empty?}
use Rattle.rules.specs.Floor.{decimal, hex, dash}

-- the number in decimal, or a dash where no call was made
unfoldable pub refusal_text : Option ℕ → List ℕ
refusal_text (Some n) = decimal n
refusal_text None = dash

-- the bytes in upper hex, or a dash where there are none
unfoldable pub answer_text : List ℕ → List ℕ
answer_text l = if empty? l then dash else hex l

-- the first n bytes are the number k in decimal
pub record Spells (k : ℕ) (bytes : List ℕ) (n : ℕ) : Type 0 where
  pub long : n ≡ length (decimal k)
  pub text : take n bytes ≡ decimal k
