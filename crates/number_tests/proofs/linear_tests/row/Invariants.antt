use Rattle.std.proofs.Common.{◌≡◌, ◌≤◌, ◌^◌, All, length}
use Rattle.std.specs.Prelude.{unsigned_abs}
use Rattle.number_tests.proofs.linear_tests.row.Given as goal

abbrev pub invariant-loop-i : goal.invariant-loop-i
invariant-loop-i g l = record {
  count : length l.coefficients.items ≡ l.i;
  small : All (λ a. unsigned_abs a ≤ 2 ^ 62) l.coefficients.items;
}
