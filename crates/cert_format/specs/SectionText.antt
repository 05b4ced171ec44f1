-- Which certificate the body of a section spells, and what a reader of bodies answers. Two things make it one: it is read as the
-- certificate, with terms and numbers within their limits, and its words are those of the certificate and no others.
use Rattle.std.specs.Prelude.{◌≡◌, ℕ, List, [], Some, MatchResult}
use Rattle.std.specs.declared.result.Result.{Result}
use Rattle.word_text.specs.declared.token.Token.{Token}
use Rattle.word_text.specs.Words.{Says, text_of}
use Rattle.term_text.specs.declared.refusal.Unread.{Unread}
use Rattle.term_text.specs.declared.refusal.Unread.TheVariants.{NotGrammar}
use Rattle.cert_checker.specs.declared.certificate.Certificate.{Certificate}
use Rattle.cert_format.specs.CertificateText.{first_format}
use Rattle.cert_format.specs.CertificateReading.{first_read}

pub record AreWordsOf (ts : List Token) (c : Certificate) : Type 0 where
  pub read : first_read ts ≡ Some (c, [])
  pub words : ts ≡ first_format c

pub record Spells (body : List ℕ) (c : Certificate) : Type 0 where
  pub tokens : List Token
  pub says : Says body tokens
  pub are : AreWordsOf tokens c

-- want of memory says nothing
abbrev pub TokensAnswer : List Token → Result Certificate Unread → Type 0
TokensAnswer ts result =
    MatchResult result (λ c. AreWordsOf ts c) (λ unread. unread ≡ NotGrammar → (c : Certificate) → ¬ (AreWordsOf ts c))

abbrev pub CertificateAnswer : List ℕ → Result Certificate Unread → Type 0
CertificateAnswer body result =
    MatchResult result (λ c. Spells body c) (λ unread. unread ≡ NotGrammar → (c : Certificate) → ¬ (Spells body c))

-- canonical text: one space between words, a line feed behind each line
abbrev pub certificate_body : Certificate → List ℕ
certificate_body c = text_of (first_format c)
