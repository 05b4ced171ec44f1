use Rattle.std.proofs.Common.{◌≡◌, ◌++◌, take}
use Rattle.std.specs.List.{flat_map}
use Rattle.term_text.specs.TermText.{store_words, value_words}
use Rattle.cert_format.specs.CertificateText.{proved_words}
use Rattle.cert_format.proofs.certificate_writing.put_proofs.Given as goal

abbrev pub invariant-loop-item : goal.invariant-loop-item
invariant-loop-item l = l.out ≡ l.initial.out ++ flat_map (proved_words store_words value_words) (take l.item-index l.items)
