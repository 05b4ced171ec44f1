-- The canonical body of a certificate is read as it, and a body spells at most one certificate.
use Rattle.std.specs.Prelude.{◌≡◌, true, List, [], Option, Some, None, refl}
use Rattle.std.specs.List.{list_all}
use Rattle.std.proofs.Common.{sym, ap, ◌∙◌, subst, append-nil}
use Rattle.cert_checker.specs.declared.certificate.Certificate.{Certificate}
use Rattle.word_text.specs.declared.token.Token.{Token}
use Rattle.word_text.specs.Words.{is_token, Says}
use Rattle.word_text.proofs.ReadBack.{text_reads_back, one_reading}
use Rattle.cert_format.specs.CertificateText.{first_format}
use Rattle.cert_format.specs.CertificateReading.{first_read}
use Rattle.cert_format.specs.SectionText.{certificate_body}
use Rattle.cert_format.specs.TextLaws.{CertificateReadsBack, PrintedReadsBack, OneCertificate}
use Rattle.cert_format.proofs.CertificateReads.{first_reads}
use Rattle.cert_format.proofs.WholeLines.{format_lines}

canonical_says : (c : Certificate) → list_all is_token (first_format c) ≡ true → Says (certificate_body c) (first_format c)
canonical_says c h = text_reads_back (first_format c) (format_lines c) h

pub certificate_reads_back : CertificateReadsBack
certificate_reads_back c fits valid =
    let read : first_read (first_format c) ≡ Some (c, []) = ap first_read (sym (append-nil (first_format c))) ∙ first_reads c [] fits in
    record { tokens = first_format c; says = canonical_says c valid; are = record { read = read; words = refl } }

pub printed_reads_back : PrintedReadsBack
printed_reads_back body c s =
    let valid : list_all is_token (first_format c) ≡ true = subst (λ ts. list_all is_token ts ≡ true) s.are.words s.says.valid in
    let read : first_read (first_format c) ≡ Some (c, []) = subst (λ ts. first_read ts ≡ Some (c, [])) s.are.words s.are.read in
    record { tokens = first_format c; says = canonical_says c valid; are = record { read = read; words = refl } }

abbrev pub first_of : Certificate → Option (Certificate × List Token) → Certificate
first_of c None = c
first_of c (Some p) = p.0

pub one_certificate : OneCertificate
one_certificate body c d s t =
    let same : s.tokens ≡ t.tokens = one_reading body s.tokens t.tokens s.says t.says in
    let both : Some (c, []) ≡ Some (d, []) = sym s.are.read ∙ ap first_read same ∙ t.are.read in
    ap (first_of c) both
