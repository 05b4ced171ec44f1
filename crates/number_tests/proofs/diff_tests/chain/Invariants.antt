use Rattle.std.proofs.Common.{◌^◌, All}
use Rattle.diff_prover.specs.Row.{IsWithin, IsRowOver}
use Rattle.number_tests.proofs.diff_tests.chain.Given as goal

abbrev pub invariant-loop-i : goal.invariant-loop-i
invariant-loop-i g l = record {
  rows : All (IsRowOver l.n) l.rows.items;
  magnitudes : All (λ row. IsWithin (2 ^ 65) row.by) l.rows.items;
}
