use Rattle.std.proofs.Common.{ℕ, ◌+◌, ◌<◌, List, rules, ap, sym, subst, arith}
use Rattle.claim_table.specs.declared.view.View.{View}
use Rattle.claim_table.specs.Occurrences.{times}
use Rattle.claim_table.specs.Chairs.{Passes}
use Rattle.claim_table.proofs.Occurrences.{times-push_same}
use Rattle.claim_table.proofs.Chairs.{passes-more}
use Rattle.claim_table.proofs.table.ClaimTable.take.Goals as goal

pub returns-then-claim-clause-held : goal.returns-then-claim-clause-held
returns-then-claim-clause-held c =
    let held = ap (λ (v : View). v.held) c.if-claim.ensures.view in
    let more = times-push_same c.loop-slot.slot c.loop-slot.chair.view.held in
    subst (λ (xs : List ℕ). 0 < times c.loop-slot.slot xs) (sym held) (omega arith)

pub loop-slot-preserved : goal.loop-slot-preserved
loop-slot-preserved c = (
  search rules,
  subst (λ (v : View). Passes (c.loop-slot.slot + 1) c.load_count-count.new.chair.view v) (sym c.if-claim.ensures.view) (passes-more _ _ _ c.loop-slot.invariant.1),
)
