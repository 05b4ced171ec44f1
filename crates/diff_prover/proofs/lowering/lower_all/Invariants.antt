use Rattle.std.proofs.Common.{◌≡◌, length}
use Rattle.diff_prover.specs.Search.{AreExplained}
use Rattle.diff_prover.proofs.Passes.{Passes}
use Rattle.diff_prover.proofs.lowering.lower_all.Given as goal

abbrev pub invariant-loop-i : goal.invariant-loop-i
invariant-loop-i l = record {
  count_is : l.count ≡ length l.rows;
  explained : AreExplained (length l.values) l.rows l.values l.parents;
  passes : Passes l.rows l.backward l.fn.values l.values l.lowered l.i;
}
