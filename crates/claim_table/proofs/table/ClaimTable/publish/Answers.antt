use Rattle.std.proofs.Common.{◌≡◌, ◌-◌, ◌≤◌, rules, ap, arith}
use Rattle.atomic_table.specs.Seated.{TableId}
use Rattle.claim_table.proofs.CountSteps.{publish}
use Rattle.claim_table.proofs.table.ClaimTable.publish.Goals as goal

pub fetch_max-before-requires : goal.fetch_max-before-requires
fetch_max-before-requires c =
    let same : c.chair.inside.seat.table_id ≡ c.self.inside.table.shared.table_id = search rules in
    let words = ap (λ (z : TableId). z.words) same in
    let count : c.args.count ≤ c.self.inside.table.shared.table_id.words - 1 = rw (← c.self.view_is) at c.requires.count in
    let fits : c.from.result ≤ c.chair.inside.seat.me.0.slots = omega (arith, words, count, c.from.ensures, c.chair.invariant.slots_are.0) in
    (same, omega (arith, c.self.invariant.0), publish _ _ _ _ _ fits)
