use Rattle.std.proofs.Common.{◌≡◌, drop}
use Rattle.linear_rows.specs.Fractions.{whole, IsProper}
use Rattle.linear_rows.specs.Elimination.{left_over}
use Rattle.linear_rows.proofs.value.left_over.Given as goal

abbrev pub invariant-loop-i : goal.invariant-loop-i
invariant-loop-i l = record {
  rest : left_over (whole l.bound) l.coefficients l.xs ≡ left_over l.sum (drop l.i l.coefficients) (drop l.i l.xs);
  proper : IsProper l.sum;
}
