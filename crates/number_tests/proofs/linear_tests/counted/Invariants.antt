use Rattle.std.proofs.Common.{All}
use Rattle.linear_rows.specs.Row.{IsRowOver}
use Rattle.number_tests.proofs.linear_tests.counted.Given as goal

abbrev pub invariant-loop-bound : goal.invariant-loop-bound
invariant-loop-bound g l = All (IsRowOver 1) l.rows.items
