use Rattle.std.proofs.Common.{◌≡◌, ℕ, ◌<◌, length, Some, pos}
use Rattle.linear_rows.specs.Steps.{column_of, last_by}
use Rattle.linear_rows.proofs.multipliers.check_multipliers.Given as goal

abbrev pub invariant-loop-column : goal.invariant-loop-column
invariant-loop-column l = record {
  variables : l.room.n ≡ l.fn.room.n;
  room : length l.room.numbers.items ≡ length l.fn.room.numbers.items;
  none : (j : ℕ) → j < l.column → last_by (column_of l.rows j) l.steps ≡ Some (pos 0);
}
