-- The laws of certificates as text: the canonical body of each certificate within the grammar is read as it, and a body spells at most
-- one certificate.
use Rattle.std.specs.Prelude.{◌≡◌, ℕ, true, List}
use Rattle.std.specs.List.{list_all}
use Rattle.word_text.specs.Words.{is_token}
use Rattle.cert_checker.specs.declared.certificate.Certificate.{Certificate}
use Rattle.cert_format.specs.CertificateText.{first_format, certificate_fits}
use Rattle.cert_format.specs.SectionText.{Spells, certificate_body}

-- terms nest at most 4,100 deep, and every number has the bits of its type
abbrev pub CertificateReadsBack : Type 0
CertificateReadsBack =
    (c : Certificate) → certificate_fits c ≡ true → list_all is_token (first_format c) ≡ true → Spells (certificate_body c) c

-- what is printed of a certificate that was read is read as it
abbrev pub PrintedReadsBack : Type 0
PrintedReadsBack = (body : List ℕ) (c : Certificate) → Spells body c → Spells (certificate_body c) c

abbrev pub OneCertificate : Type 0
OneCertificate = (body : List ℕ) (c d : Certificate) → Spells body c → Spells body d → c ≡ d
