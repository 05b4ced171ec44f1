use Rattle.std.proofs.Common.{◌≡◌, ℕ, ◌+◌, ap, sym, ◌∙◌, subst, arith}
use Rattle.claim_table.specs.declared.view.View.{View}
use Rattle.claim_table.specs.Chairs.{IsEmpty}
use Rattle.claim_table.proofs.Chairs.{next-new, all-new, new-empty, split-empty}
use Rattle.claim_table.proofs.table.ClaimTable.all_chairs.Goals as goal

pub loop-number-preserved : goal.loop-number-preserved
loop-number-preserved c =
    let so_far = c.loop-number.invariant in
    let number = ap (λ (v : View). v.number) c.split.ensures.chair ∙ so_far.3 in
    let empty : IsEmpty c.split.result.view = subst IsEmpty (sym c.split.ensures.chair) (new-empty c.loop-number.first.view) in (
      rw c.in_ok-push.ensures.items
          (next-new _ _ _ c.split.result c.loop-number.auto.number so_far.0 c.split.ensures.table.1 number empty),
      c.split.ensures.table.0,
      ap (λ (v : View). v.number) c.split.ensures.first ∙ so_far.2,
      ap (λ (v : View). v.made) c.split.ensures.first ∙ ap (λ (n : ℕ). n + 1) so_far.3,
      subst IsEmpty (sym c.split.ensures.first) (split-empty c.loop-number.first.view so_far.4),
    )

pub returns-clause-chairs : goal.returns-clause-chairs
returns-clause-chairs c =
    let so_far = c.loop-number.invariant in
    let some = c.loop-number.auto.number in
    let last : c.loop-number.number ≡ c.args.seats = omega (arith, c.loop-number-test.false, c.loop-number.auto.number-end c.requires.seats.0) in
    rw c.in_ok-insert.ensures.items
    (all-new _ _ _ _ _ some last so_far.0 so_far.1 so_far.2 so_far.4)

pub returns-clause-all : goal.returns-clause-all
returns-clause-all c =
    let last : c.loop-number.number ≡ c.args.seats = omega (arith, c.loop-number-test.false, c.loop-number.auto.number-end c.requires.seats.0) in
    rw c.in_ok-insert.ensures.items (c.loop-number.invariant.3 ∙ last)
