-- What is left to read gives the whole number.
use Rattle.std.proofs.Common.{◌≡◌, ◌≤◌, drop}
use Rattle.script_line.specs.Words.{digits_from}
use Rattle.script_line.proofs.words.decimal.Given as goal

abbrev pub invariant-loop-b : goal.invariant-loop-b
invariant-loop-b l = (l.value ≤ 65535) × (digits_from l.value (drop l.b-index l.word) ≡ digits_from 0 l.word)
