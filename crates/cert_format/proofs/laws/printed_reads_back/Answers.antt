use Rattle.cert_format.proofs.TextLaws.{printed_reads_back}
use Rattle.cert_format.proofs.laws.printed_reads_back.Goals as goal

pub returns : goal.returns
returns c = printed_reads_back
