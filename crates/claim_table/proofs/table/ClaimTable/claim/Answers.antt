use Rattle.std.proofs.Common.{◌≡◌, ◌+◌, ◌-◌, ◌∙◌, ◌<◌, rules, ap, arith}
use Rattle.atomic_table.specs.Seated.{TableId}
use Rattle.claim_table.specs.Steps.{Place}
use Rattle.claim_table.proofs.SlotSteps.{look}
use Rattle.claim_table.proofs.SlotSteps.{claim}
use Rattle.claim_table.proofs.Seats.{seated_claims}
use Rattle.claim_table.proofs.table.ClaimTable.claim.Goals as goal

pub load-requires : goal.load-requires
load-requires c =
    let same : c.chair.inside.seat.table_id ≡ c.self.inside.table.shared.table_id = search rules in
    let words = ap (λ (z : TableId). z.words) same in
    let below : c.args.slot < c.chair.inside.seat.me.0.seen = rw (← c.chair.view_is) at c.requires.published in
    (same, omega (arith, words, below, c.chair.invariant.slots_are.0, c.chair.invariant.seen_within), look _ _ _ _ _)

pub compare_exchange-found-requires : goal.compare_exchange-found-requires
compare_exchange-found-requires c =
    let same : c.load.new.seat.table_id ≡ c.self.inside.table.shared.table_id = search rules in
    let words = ap (λ (z : TableId). z.words) same in
    let was = ap (λ (z : TableId). z.words) c.load.ensures.0 in
    let below : c.args.slot < c.chair.inside.seat.me.0.seen = rw (← c.chair.view_is) at c.requires.published in
    let me : c.load.new.seat.me ≡ c.chair.inside.seat.me = rw c.if-load-ne-FREE.false at c.load.ensures.2 in
    let seen = ap (λ (m : Place). m.0.seen) me in
    let number = ap (λ (m : Place). m.0.number) me in (
      same,
      omega (arith, words, was, below, c.chair.invariant.slots_are.0, c.chair.invariant.seen_within),
      claim _ _ _ _ _ _ (omega (arith, number, c.from-mine.ensures, c.chair.invariant.number_is)) (omega (arith, seen, below)),
    )

pub invariant_of-chair-2 : goal.invariant_of-chair-2
invariant_of-chair-2 c =
    let me : c.load.new.seat.me ≡ c.chair.inside.seat.me = rw c.if-load-ne-FREE.false at c.load.ensures.2 in
    let below : c.args.slot < c.chair.inside.seat.me.0.seen = rw (← c.chair.view_is) at c.requires.published in
    seated_claims _ _ _ _ _ c.args.slot (c.args.slot + 1 - 1) c.compare_exchange-found.result c.chair.invariant
    (c.compare_exchange-found.ensures.0 ∙ c.load.ensures.0) below (omega arith) (rw me at c.compare_exchange-found.ensures.2)
