use Rattle.std.proofs.Common.{All}
use Rattle.linear_rows.specs.Row.{IsRowOver}
use Rattle.number_tests.proofs.linear_tests.rows_of.Given as goal

abbrev pub invariant-loop-line : goal.invariant-loop-line
invariant-loop-line g l = (goal.iterator-loop-line g).can_next l.line-iterator × (goal.iterator-loop-line g).is_finite l.line-iterator × All (IsRowOver l.n) l.rows.items
