use Rattle.std.proofs.Common.{◌≡◌, ◌+◌, ◌-◌, ◌<◌, rules, ap, refl, arith}
use Rattle.atomic_table.specs.Seated.{TableId}
use Rattle.claim_table.specs.Occurrences.{times}
use Rattle.claim_table.specs.Views.{after_finish}
use Rattle.claim_table.proofs.SlotSteps.{finish}
use Rattle.claim_table.proofs.Seats.{seated_after, below_without}
use Rattle.claim_table.proofs.table.ClaimTable.finish.Goals as goal

pub swap-found-requires : goal.swap-found-requires
swap-found-requires c =
    let same : c.chair.inside.seat.table_id ≡ c.self.inside.table.shared.table_id = search rules in
    let words = ap (λ (z : TableId). z.words) same in
    let mine : 0 < times c.args.slot c.chair.inside.seat.me.0.held = rw (← c.chair.view_is) at c.requires.held in
    let below = c.chair.invariant.held_below c.args.slot mine in
    (same, omega (arith, words, below, c.chair.invariant.slots_are.0, c.chair.invariant.seen_within), finish _ _ _ _ _ mine)

pub invariant_of-chair : goal.invariant_of-chair
invariant_of-chair c =
    let s = c.chair.invariant in
    let me = c.chair.inside.seat.me.0 in
    let now = after_finish (c.args.slot + 1 - 1) me in
    seated_after _ _ _ _ _ now s c.swap-found.ensures.0 c.swap-found.ensures.2.1 refl refl s.seen_within
    (below_without me now (c.args.slot + 1 - 1) s.held_below refl refl)
