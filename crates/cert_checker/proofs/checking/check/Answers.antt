-- What has a certificate is valid.
use Rattle.cert_checker.proofs.Certifying.{valid_by}
use Rattle.cert_checker.proofs.checking.check.Goals as goal

pub returns-clause-valid : goal.returns-clause-valid
returns-clause-valid c = valid_by c.args.rule.now c.args.cert.now c.requires.well_formed c.requires.simulates c.is_certificate.result c.is_certificate.ensures
