use Rattle.std.proofs.Common.{◌≡◌, ◌^◌, length, All}
use Rattle.std.specs.Prelude.{sum_by}
use Rattle.diff_prover.specs.Row.{IsWithin}
use Rattle.diff_prover.specs.Search.{AreExplained, height}
use Rattle.diff_prover.proofs.search.lower_until_settled.Given as goal

abbrev pub invariant-loop-variable : goal.invariant-loop-variable
invariant-loop-variable l = record {
  explained : AreExplained (length l.values) l.rows l.values l.parents;
  within : All (IsWithin (2 ^ 81)) l.values;
  visits : length l.trail.visits.items ≡ length l.values;
}

abbrev pub decreases-loop-variable : goal.decreases-loop-variable
decreases-loop-variable l = sum_by height l.values
