use Rattle.std.proofs.Common.{◌≡◌, ◌≤◌, ◌^◌, length, All}
use Rattle.std.specs.Prelude.{sum_by}
use Rattle.diff_prover.specs.Row.{IsWithin}
use Rattle.diff_prover.specs.Search.{AreExplained, height}
use Rattle.diff_prover.proofs.lowering.lower_walk.Given as goal

abbrev pub invariant-loop-i : goal.invariant-loop-i
invariant-loop-i l = record {
  explained : AreExplained (length l.values) l.rows l.values l.parents;
  kept : l.parents ≡ l.fn.parents;
  within : All (IsWithin (2 ^ 81)) l.values;
  no_higher : sum_by height l.values ≤ sum_by height l.fn.values;
}
