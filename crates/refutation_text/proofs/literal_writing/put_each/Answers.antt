use Rattle.std.proofs.Common.{◌++◌, ◌∙◌, ap}
use Rattle.term_text.specs.TermText.{store_words, value_words}
use Rattle.refutation_text.specs.LiteralText.{literal_words}
use Rattle.refutation_text.proofs.FlatTurns.{put_more}
use Rattle.refutation_text.proofs.literal_writing.put_each.Goals as goal

pub loop-x-preserved : goal.loop-x-preserved
loop-x-preserved c =
    put_more (literal_words store_words value_words) c.args.out.now c.args.items.now c.loop-x.x-index c.x-item.result c.loop-x.out _ c.loop-x-test.true c.loop-x.invariant
    (c.in_ok-put_literal.ensures ∙ ap (λ x. c.loop-x.out ++ (literal_words store_words value_words) x) c.x-item.is)
