use Rattle.std.proofs.Common.{◌++◌, ◌∙◌, ap}
use Rattle.term_text.specs.TermText.{store_words, value_words}
use Rattle.cert_format.specs.CertificateText.{entry_words}
use Rattle.refutation_text.proofs.FlatTurns.{put_more}
use Rattle.cert_format.proofs.certificate_writing.put_entries.Goals as goal

pub loop-item-preserved : goal.loop-item-preserved
loop-item-preserved c =
    put_more (entry_words store_words value_words) c.args.out.now c.args.items.now c.loop-item.item-index c.item-item.result c.loop-item.out _ c.loop-item-test.true c.loop-item.invariant
    (c.in_ok-put_entry.ensures ∙ ap (λ x. c.loop-item.out ++ (entry_words store_words value_words) x) c.item-item.is)
