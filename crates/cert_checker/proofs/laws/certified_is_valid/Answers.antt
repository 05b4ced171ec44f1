-- A rule with a certificate is valid.
use Rattle.cert_checker.proofs.Certified.{certified_is_valid}
use Rattle.cert_checker.proofs.laws.certified_is_valid.Goals as goal

pub returns : goal.returns
returns c = certified_is_valid
