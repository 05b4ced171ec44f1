use Rattle.cert_format.proofs.TextLaws.{certificate_reads_back}
use Rattle.cert_format.proofs.laws.certificate_reads_back.Goals as goal

pub returns : goal.returns
returns c = certificate_reads_back
