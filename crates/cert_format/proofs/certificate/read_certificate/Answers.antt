use Rattle.std.proofs.Common.{subst}
use Rattle.word_text.specs.Words.{AreTokens}
use Rattle.cert_format.proofs.Answering.{body_answer}
use Rattle.cert_format.proofs.certificate.read_certificate.Goals as goal

pub returns-in-Ok-Some : goal.returns-in-Ok-Some
returns-in-Ok-Some c =
    body_answer c.args.body.now c.in-Ok-Some.all c.certificate_of.result (subst (AreTokens c.args.body.now) c.in-Ok-Some.field-0-is c.in-Ok-Some.ensures)
    (rw c.as_slice.ensures at c.certificate_of.ensures)
