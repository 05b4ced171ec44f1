use Rattle.std.proofs.Common.{◌<◌, ◌-◌, ◌||◌, [], get_or, sym, ◌∙◌, arith}
use Rattle.law_clauses.specs.Signed.{signed_of}
use Rattle.proof_steps.specs.Ways.{all_listed, ways}
use Rattle.proof_steps.proofs.Walking.{among, back_step}
use Rattle.proof_steps.proofs.assumed.is_on_way.Goals as goal

pub returns-then-is_turned : goal.returns-then-is_turned
returns-then-is_turned c =
    let some : 0 < get_or c.distances-distances.result.now c.loop-at.at 0 = omega arith in
    let step = back_step (all_listed c.args.first.now) c.args.proof.now c.parts-parts.result.now c.distances-distances.result.now c.loop-at.at (signed_of c.args.x.now) c.index-parts-at.result
    c.parts-parts.ensures c.distances-distances.ensures c.loop-at.invariant.within some c.index-parts-at.is in
    let yes = sym c.is_turned.ensures ∙ c.if-is_turned.true in
    sym (sym c.loop-at.invariant.right ∙ step ∙ (λ j. yes j || among (signed_of c.args.x.now) (get_or (ways (all_listed c.args.first.now) c.args.proof.now) (c.loop-at.at - get_or c.distances-distances.result.now c.loop-at.at 0) [])))

pub loop-at-preserved : goal.loop-at-preserved
loop-at-preserved c =
    let some : 0 < get_or c.distances-distances.result.now c.loop-at.at 0 = omega arith in
    let step = back_step (all_listed c.args.first.now) c.args.proof.now c.parts-parts.result.now c.distances-distances.result.now c.loop-at.at (signed_of c.args.x.now) c.index-parts-at.result
    c.parts-parts.ensures c.distances-distances.ensures c.loop-at.invariant.within some c.index-parts-at.is in
    let no = sym c.is_turned.ensures ∙ c.if-is_turned.false in
    let within = c.loop-at.invariant.within in
    record {
      within = omega arith;
      right = sym (step ∙ (λ j. no j || among (signed_of c.args.x.now) (get_or (ways (all_listed c.args.first.now) c.args.proof.now) (c.loop-at.at - get_or c.distances-distances.result.now c.loop-at.at 0) []))) ∙ c.loop-at.invariant.right;
    }
