-- Headers and end lines, by their words: the facts, and the tests that compute.
-- A header is two words, that of a kind and a title; an end line is the one word `end`.
use Rattle.std.specs.Prelude.{◌≡◌, ℕ, Bool, true, false, Option, None, List, [], ◌∷◌, codes, find, bytes_eq, option_map, if◌then◌else◌}
use Rattle.pec_text.specs.Id.{is_id}
use Rattle.pec_text.specs.Line.{words}
use Rattle.pec_text.specs.declared.section_data.SectionKind.{SectionKind}
use Rattle.pec_text.specs.declared.section_data.SectionKind.TheVariants.{Rule, Program, Cert, Refused, Trace, Report, Chain}

-- the first word of a header
abbrev pub word_of : SectionKind → List ℕ
word_of Rule = codes "rule"
word_of Program = codes "program"
word_of Cert = codes "cert"
word_of Refused = codes "refused"
word_of Trace = codes "trace"
word_of Report = codes "report"
word_of Chain = codes "chain"

-- a header is two words, that of a kind and a title, which is an ID
abbrev pub IsHeader : List ℕ → SectionKind → List ℕ → Type 0
IsHeader line kind title = (words line ≡ word_of kind ∷ title ∷ []) × (is_id title ≡ true)

-- an end line has the one word `end`
abbrev pub IsEnd : List ℕ → Type 0
IsEnd line = words line ≡ codes "end" ∷ []

-- the kinds, in the order of the type
abbrev pub kinds : List SectionKind
kinds = Rule ∷ Program ∷ Cert ∷ Refused ∷ Trace ∷ Report ∷ Chain ∷ []

-- the kind whose word this is
abbrev pub kind_of : List ℕ → Option SectionKind
kind_of word = find (λ kind. bytes_eq word (word_of kind)) kinds

-- the kind and title of a header with these words
abbrev pub header_of_words : List (List ℕ) → Option (SectionKind × List ℕ)
header_of_words (word ∷ title ∷ []) = if is_id title then option_map (λ kind. (kind, title)) (kind_of word) else None
header_of_words _ = None

-- the kind and title of a header; nothing for another line
unfoldable pub header_of : List ℕ → Option (SectionKind × List ℕ)
header_of line = header_of_words (words line)

-- whether the one word is `end`
abbrev pub is_end_of_words : List (List ℕ) → Bool
is_end_of_words (word ∷ []) = bytes_eq word (codes "end")
is_end_of_words _ = false

-- whether a line is an end line
unfoldable pub is_end : List ℕ → Bool
is_end line = is_end_of_words (words line)
