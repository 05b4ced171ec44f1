use Rattle.std.proofs.Common.{◌≡◌, ◌<◌, ◌++◌, Some, None, take, drop}
use Rattle.std.specs.List.{last_or}
use Rattle.linear_rows.specs.Steps.{column_of, last_by}
use Rattle.linear_rows.proofs.multipliers.last_number.Given as goal

abbrev pub invariant-loop-i : goal.invariant-loop-i
invariant-loop-i l = record {
  rest : last_by (column_of l.rows l.column) l.steps ≡ last_by (column_of l.rows l.column ++ take l.i l.numbers) (drop l.i l.steps);
  last : 0 < l.i → last_or None (column_of l.rows l.column ++ take l.i l.numbers) ≡ Some l.last;
}
