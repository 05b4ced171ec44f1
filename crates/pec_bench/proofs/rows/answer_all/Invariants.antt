use Rattle.std.proofs.Common.{◌≤◌, All}
use Rattle.linear_rows.specs.Row.{IsRowOver}
use Rattle.pec_bench.proofs.rows.answer_all.Given as goal

abbrev pub invariant-loop-line : goal.invariant-loop-line
invariant-loop-line l = record {
  can_next : (goal.iterator-loop-line).can_next l.line-iterator;
  is_finite : (goal.iterator-loop-line).is_finite l.line-iterator;
  few : l.n ≤ 64;
  rows : All (IsRowOver l.n) l.rows.items;
}
