use Rattle.std.proofs.Common.{◌≡◌, None, drop}
use Rattle.std.specs.Prelude.{IfSome}
use Rattle.linear_rows.specs.Fractions.{IsProper}
use Rattle.linear_rows.specs.Elimination.{best_lower}
use Rattle.linear_rows.specs.Lines.{items_of}
use Rattle.linear_rows.proofs.value.greatest_lower.Given as goal

abbrev pub invariant-loop-line : goal.invariant-loop-line
invariant-loop-line l = record {
  rest : best_lower l.xs None (items_of l.lines) ≡ best_lower l.xs l.best (items_of (drop l.line-index l.lines));
  proper : IfSome l.best IsProper;
}
