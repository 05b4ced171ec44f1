use Rattle.std.proofs.Common.{◌++◌, ◌∙◌, ap}
use Rattle.term_text.specs.TermText.{store_words, value_words}
use Rattle.refutation_text.specs.StepText.{part_words}
use Rattle.refutation_text.proofs.FlatTurns.{put_more}
use Rattle.refutation_text.proofs.step_writing.put_parts.Goals as goal

pub loop-part-preserved : goal.loop-part-preserved
loop-part-preserved c =
    put_more (part_words store_words value_words) c.args.out.now c.args.items.now c.loop-part.part-index c.part-item.result c.loop-part.out _ c.loop-part-test.true c.loop-part.invariant
    (c.in_ok-put_part.ensures ∙ ap (λ x. c.loop-part.out ++ (part_words store_words value_words) x) c.part-item.is)
