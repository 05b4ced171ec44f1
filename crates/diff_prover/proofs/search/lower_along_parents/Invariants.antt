use Rattle.std.proofs.Common.{◌≤◌, ◌^◌, length, All}
use Rattle.std.specs.Prelude.{sum_by}
use Rattle.diff_prover.specs.Row.{IsWithin}
use Rattle.diff_prover.specs.Search.{AreExplained, IsTrail, height}
use Rattle.diff_prover.proofs.search.lower_along_parents.Given as goal

abbrev pub invariant-loop-variable : goal.invariant-loop-variable
invariant-loop-variable l = record {
  explained : AreExplained (length l.values) l.rows l.values l.parents;
  within : All (IsWithin (2 ^ 81)) l.values;
  no_higher : sum_by height l.values ≤ sum_by height l.fn.values;
  trail : IsTrail l.rows l.parents l.trail.visits.items l.trail.places.items;
}
