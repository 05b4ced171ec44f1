use Rattle.std.proofs.Common.{◌≡◌, rules, arith}
use Rattle.claim_table.proofs.NewTable.{splits}
use Rattle.claim_table.proofs.table.ClaimTable.split.Goals as goal

pub split_seat-seat-requires : goal.split_seat-seat-requires
split_seat-seat-requires c =
    let first : c.first.inside.seat.me.0.number ≡ 0 = rw (← c.first.view_is) at c.requires.first in
    (search rules, omega (arith, c.self.invariant.0), splits _ _ _ first)
