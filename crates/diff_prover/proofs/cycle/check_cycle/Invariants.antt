use Rattle.std.proofs.Common.{◌^◌, ◌+◌, ◌*◌, ◌↔◌, drop}
use Rattle.diff_prover.specs.Row.{IsWithin}
use Rattle.diff_prover.specs.Cycle.{IsNegativeCycle}
use Rattle.diff_prover.proofs.Closing.{Closes}
use Rattle.diff_prover.proofs.cycle.check_cycle.Given as goal

abbrev pub invariant-loop-place : goal.invariant-loop-place
invariant-loop-place l = record {
  small : IsWithin ((l.place-index + 1) * 2 ^ 65) l.sum;
  left_over : IsNegativeCycle l.rows l.cycle ↔ Closes l.rows l.start.left l.at l.sum (drop l.place-index l.others);
}
