use Rattle.std.proofs.Common.{◌^◌, ◌≤◌}
use Rattle.std.specs.Prelude.{unsigned_abs}
use Rattle.linear_rows.proofs.Walking.{without_first_all}
use Rattle.linear_rows.proofs.gathering.sum_of.Goals as goal

pub returns-clause-wide : goal.returns-clause-wide
returns-clause-wide c =
    rw c.drop_first.ensures (without_first_all (λ z. unsigned_abs z ≤ 2 ^ 126) c.in_ok-line.line.items c.in_ok-line.ensures.wide)
