-- So many are among the parameters looked at, and the others are counted behind them.
use Rattle.std.proofs.Common.{◌≡◌, ◌+◌, ◌≤◌, drop}
use Rattle.escape_marks.specs.Marks.{count_names}
use Rattle.escape_marks.proofs.marks.count_names.Given as goal

abbrev pub invariant-loop-kind : goal.invariant-loop-kind
invariant-loop-kind l = record { counted : l.n + count_names (drop l.kind-index l.params) ≡ count_names l.params; few : l.n ≤ l.kind-index }
