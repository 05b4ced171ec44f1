-- The law of certificates, on which every rule that is called proved rests.
use Rattle.std.specs.Prelude.{◌≡◌, true}
use Rattle.toy_imp.specs.declared.rule.Rule.{Rule}
use Rattle.toy_imp.specs.Faults.{well_formed, is_simulate}
use Rattle.toy_imp.specs.Valid.{Valid}
use Rattle.cert_checker.specs.declared.certificate.Certificate.{Certificate}
use Rattle.cert_checker.specs.Certificates.{IsCertificate}

-- a rule with a certificate is valid
abbrev pub CertifiedIsValid : Type 0
CertifiedIsValid = (rule : Rule) (cert : Certificate) → well_formed rule ≡ true → is_simulate rule.method ≡ true → IsCertificate rule cert → Valid rule
