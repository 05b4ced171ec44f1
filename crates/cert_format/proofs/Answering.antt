-- From what was read and put again to what a body spells.
use Rattle.std.specs.Prelude.{◌≡◌, ◌≢◌, ℕ, List, [], Option, Some, None, Result, Ok, Err}
use Rattle.std.proofs.Common.{sym, ap, ◌∙◌, subst}
use Rattle.cert_checker.specs.declared.certificate.Certificate.{Certificate}
use Rattle.word_text.specs.declared.token.Token.{Token}
use Rattle.word_text.specs.Words.{Says}
use Rattle.word_text.proofs.ReadBack.{one_reading}
use Rattle.term_text.specs.declared.refusal.Unread.{Unread}
use Rattle.cert_format.specs.CertificateText.{first_format}
use Rattle.cert_format.specs.CertificateReading.{first_read}
use Rattle.cert_format.specs.SectionText.{AreWordsOf, TokensAnswer, CertificateAnswer}
use Rattle.cert_format.proofs.TextLaws.{first_of}

-- nothing stands behind the certificate, and the words are its own
pub read_words : (ts rest : List Token) (c : Certificate) → first_read ts ≡ Some (c, rest) → rest ≡ [] → ts ≡ first_format c → AreWordsOf ts c
read_words ts rest c read none words = record { read = read ∙ ap (λ r. Some (c, r)) none; words = words }

-- something stands behind it, or the words are others: they are of no certificate
abbrev rest_of : List Token → Option (Certificate × List Token) → List Token
rest_of ts None = ts
rest_of ts (Some p) = p.1

pub other_rest : (ts rest : List Token) (c : Certificate) → first_read ts ≡ Some (c, rest) → rest ≢ [] → (d : Certificate) → AreWordsOf ts d → ⊥
other_rest ts rest c read some d are =
    let both : Some (c, rest) ≡ Some (d, []) = sym read ∙ are.read in
    some (ap (rest_of rest) both)

pub other_words : (ts rest : List Token) (c : Certificate) → first_read ts ≡ Some (c, rest) → ts ≢ first_format c → (d : Certificate) → AreWordsOf ts d → ⊥
other_words ts rest c read other d are =
    let both : Some (c, rest) ≡ Some (d, []) = sym read ∙ are.read in
    let same : c ≡ d = ap (first_of c) both in
    other (are.words ∙ ap first_format (sym same))

-- of one list of tokens, and so of the body
pub body_answer : (body : List ℕ) (ts : List Token) (r : Result Certificate Unread) → Says body ts → TokensAnswer ts r → CertificateAnswer body r
body_answer body ts (Ok c) says are = record { tokens = ts; says = says; are = are }
body_answer body ts (Err u) says none =
    λ e c s. none e c (subst (λ z. AreWordsOf z c) (one_reading body s.tokens ts s.says says) s.are)
