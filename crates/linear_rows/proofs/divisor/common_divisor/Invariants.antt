use Rattle.std.proofs.Common.{◌≡◌, take}
use Rattle.linear_rows.specs.Divisor.{common_divisor}
use Rattle.linear_rows.proofs.divisor.common_divisor.Given as goal

abbrev pub invariant-loop-z : goal.invariant-loop-z
invariant-loop-z l = l.common ≡ common_divisor (take l.z-index l.numbers)
