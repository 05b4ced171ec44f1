use Rattle.std.proofs.Common.{◌++◌, ◌∙◌, ap}
use Rattle.refutation_text.specs.StepText.{written_step}
use Rattle.refutation_text.proofs.FlatTurns.{put_more}
use Rattle.refutation_text.proofs.step_writing.put_steps.Goals as goal

pub loop-s-preserved : goal.loop-s-preserved
loop-s-preserved c =
    put_more written_step c.args.out.now c.args.items.now c.loop-s.s-index c.s-item.result c.loop-s.out _ c.loop-s-test.true c.loop-s.invariant
    (c.in_ok-put_step.ensures ∙ ap (λ x. c.loop-s.out ++ written_step x) c.s-item.is)
