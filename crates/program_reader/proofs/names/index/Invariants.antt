use Rattle.std.proofs.Common.{◌≡◌, ℕ, List, drop}
use Rattle.std.specs.Option.{option_or}
use Rattle.program_reader.specs.NameIndex.{number_at, first_from}
use Rattle.program_reader.proofs.names.index.Given as goal

abbrev pub invariant-loop-i : goal.invariant-loop-i
invariant-loop-i l = (x : List ℕ) → option_or (number_at l.numbers.entries x) (first_from l.i (drop l.i l.params) x) ≡ first_from 0 l.params x
