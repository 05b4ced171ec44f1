-- The parts that are left are right exactly where the refutation is.
use Rattle.std.proofs.Common.{◌≡◌, drop}
use Rattle.refutations.specs.Refutation.{parts}
use Rattle.proof_steps.specs.Refutes.{refutes_under}
use Rattle.proof_steps.specs.Ways.{all_listed, ways, parts_right}
use Rattle.proof_steps.proofs.walk.refutes_under.Given as goal

abbrev pub invariant-loop-i : goal.invariant-loop-i
invariant-loop-i l = parts_right l.ob (drop l.i (parts l.proof)) (drop l.i (ways (all_listed l.assumed) l.proof)) ≡ refutes_under l.ob l.proof (all_listed l.assumed)
