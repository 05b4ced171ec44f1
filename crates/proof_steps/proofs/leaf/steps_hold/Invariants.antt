-- The steps that are left hold behind those before exactly where all of them hold.
use Rattle.std.proofs.Common.{◌≡◌, [], take, drop}
use Rattle.proof_steps.specs.Refutes.{given_at}
use Rattle.proof_steps.specs.Leaves.{steps_hold}
use Rattle.proof_steps.specs.Ways.{assumed_list}
use Rattle.proof_steps.proofs.leaf.steps_hold.Given as goal

abbrev pub invariant-loop-i : goal.invariant-loop-i
invariant-loop-i l =
    steps_hold l.ob (given_at l.ob (assumed_list l.assumed)) (take l.i l.steps) (drop l.i l.steps) ≡ steps_hold l.ob (given_at l.ob (assumed_list l.assumed)) [] l.steps
