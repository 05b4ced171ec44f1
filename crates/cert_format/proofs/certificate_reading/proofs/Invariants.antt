use Rattle.std.proofs.Common.{◌≡◌, ◌-◌}
use Rattle.refutation_text.specs.NumberText.{many_read}
use Rattle.term_text.specs.TermReading.{store_read, value_read}
use Rattle.cert_format.specs.CertificateReading.{proved_read}
use Rattle.refutation_text.proofs.Turns.{with_found}
use Rattle.cert_format.proofs.certificate_reading.proofs.Given as goal

abbrev pub invariant-loop-turn : goal.invariant-loop-turn
invariant-loop-turn l = with_found l.found (many_read (proved_read (store_read 4100) (value_read 4100)) (l.n - l._turn) l.rest) ≡ many_read (proved_read (store_read 4100) (value_read 4100)) l.n l.tokens
