use Rattle.std.proofs.Common.{◌++◌, ◌∙◌, ap}
use Rattle.term_text.specs.TermText.{value_words}
use Rattle.refutation_text.specs.StepText.{row_words}
use Rattle.refutation_text.proofs.FlatTurns.{put_more}
use Rattle.refutation_text.proofs.step_writing.put_rows.Goals as goal

pub loop-row-preserved : goal.loop-row-preserved
loop-row-preserved c =
    put_more (row_words value_words) c.args.out.now c.args.items.now c.loop-row.row-index c.row-item.result c.loop-row.out _ c.loop-row-test.true c.loop-row.invariant
    (c.in_ok-put_row.ensures ∙ ap (λ x. c.loop-row.out ++ (row_words value_words) x) c.row-item.is)
