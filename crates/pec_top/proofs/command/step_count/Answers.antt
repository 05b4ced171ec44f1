use Rattle.std.proofs.Common.{arith, ◌∙◌}
use Rattle.pec_top.proofs.Words.{none_read, many_read, other_read, told_apart}
use Rattle.pec_top.proofs.command.step_count.Goals as goal

pub returns-in_default : goal.returns-in_default
returns-in_default c = none_read _ _ _ c.parse.ensures.value.0 _ c.in_default.is

pub returns-then-steps-gt-MOST_STEPS : goal.returns-then-steps-gt-MOST_STEPS
returns-then-steps-gt-MOST_STEPS c = many_read _ _ _ c.parse.ensures.value.0 _ c.in-Ok.is (omega (arith, c.if-steps-gt-MOST_STEPS.true))

pub returns-then-ne : goal.returns-then-ne
returns-then-ne c = other_read _ _ _ c.parse.ensures.value.0 _ c.in-Ok.is (λ e. told_apart c.format.result.now c.args.word.now c.ne.result c.ne.ensures c.if-ne.true (c.format.ensures.text ∙ e))
