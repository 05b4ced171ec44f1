use Rattle.std.proofs.Common.{◌<◌, ◌&&◌, ◌+◌, length, drop, sym, ◌∙◌, arith}
use Rattle.refutations.specs.Refutation.{parts}
use Rattle.proof_steps.specs.Ways.{all_listed, ways, parts_right}
use Rattle.proof_steps.proofs.Refuting.{walk_step}
use Rattle.proof_steps.proofs.walk.refutes_under.Goals as goal

pub returns-then-not-is_right : goal.returns-then-not-is_right
returns-then-not-is_right c =
    let below : c.loop-i.i < length c.parts-parts.result.now = omega arith in
    let step = walk_step c.args.ob.now c.args.proof.now (all_listed c.args.assumed.now) c.parts-parts.result.now c.loop-i.i c.index-parts-i.result c.parts-parts.ensures below c.index-parts-i.is in
    let no = sym c.is_right.ensures ∙ c.if-not-is_right.true in
    sym (sym c.loop-i.invariant ∙ step ∙ (λ j. no j && parts_right c.args.ob.now (drop (c.loop-i.i + 1) (parts c.args.proof.now)) (drop (c.loop-i.i + 1) (ways (all_listed c.args.assumed.now) c.args.proof.now))))

pub loop-i-preserved : goal.loop-i-preserved
loop-i-preserved c =
    let below : c.loop-i.i < length c.parts-parts.result.now = omega arith in
    let step = walk_step c.args.ob.now c.args.proof.now (all_listed c.args.assumed.now) c.parts-parts.result.now c.loop-i.i c.index-parts-i.result c.parts-parts.ensures below c.index-parts-i.is in
    let yes = sym c.is_right.ensures ∙ c.if-not-is_right.false in
    sym (step ∙ (λ j. yes j && parts_right c.args.ob.now (drop (c.loop-i.i + 1) (parts c.args.proof.now)) (drop (c.loop-i.i + 1) (ways (all_listed c.args.assumed.now) c.args.proof.now)))) ∙ c.loop-i.invariant
