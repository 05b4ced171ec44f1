-- What is left of the rows adds up from where the rows have come exactly where all rows do.
use Rattle.std.proofs.Common.{◌≡◌, ◌≤◌, ◌^◌, drop}
use Rattle.std.specs.Prelude.{pos, unsigned_abs}
use Rattle.proof_steps.specs.Sums.{adds_up}
use Rattle.proof_steps.specs.Rows.{side_of}
use Rattle.proof_steps.proofs.sums.add_up.Given as goal

abbrev pub invariant-loop-row : goal.invariant-loop-row
invariant-loop-row l =
    record {
      left : adds_up l.earlier (drop l.row-index l.rows) (side_of l.here.side) l.here.sum l.z l.c ≡ adds_up l.earlier l.rows l.a (pos 0) l.z l.c;
      small : unsigned_abs l.here.sum ≤ 2 ^ 100;
    }
