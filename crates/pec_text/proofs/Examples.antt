-- Worked examples: texts with the tokens that they spell, texts that spell none, and texts with their sections.
use Rattle.std.proofs.Common.{◌≡◌, ℕ, zero, suc, List, [], ◌∷◌, Option, Some, None, option_map, codes, refl, subst}
use Rattle.std.proofs.lemmas.Option.{none-some, same_Some}
use Rattle.pec_text.specs.Line.{kept_lines}
use Rattle.pec_text.specs.Scanning.{after_gap, sign_len, reserved_of, sign_of, name_token, number_token, sign_token, name_at, number_at, sign_at, first_token}
use Rattle.pec_text.specs.SectionHeader.{header_of, is_end}
use Rattle.pec_text.specs.SectionsOf.{sections_of}
use Rattle.pec_text.specs.Spelling.{Spells}
use Rattle.pec_text.specs.declared.section_data.Section.{Section}
use Rattle.pec_text.specs.declared.section_data.SectionKind.{SectionKind}
use Rattle.pec_text.specs.declared.section_data.SectionKind.TheVariants as kind
use Rattle.pec_text.specs.declared.section_data.SectionList.{SectionList}
use Rattle.pec_text.specs.declared.section_data.TextRefusal.{TextRefusal}
use Rattle.pec_text.specs.declared.section_data.TextRefusal.TheVariants.{Unended, Stray}
use Rattle.pec_text.specs.declared.token.Numeral.TheVariants as n
use Rattle.pec_text.specs.declared.token.Sign.{Sign}
use Rattle.pec_text.specs.declared.token.Sign.TheVariants as s
use Rattle.pec_text.specs.declared.token.Token.{Token}
use Rattle.pec_text.specs.declared.token.Token.TheVariants as t
use Rattle.pec_text.specs.declared.token.Word.{Word}
use Rattle.pec_text.specs.declared.token.Word.TheVariants as w
use Rattle.pec_text.proofs.Gaps.{spells_before_gap}
use Rattle.pec_text.proofs.ReadTokens.{begins_with_read}

-- ---- tokens, read one by one
abbrev with_more : Option (Token × List ℕ) → (List ℕ → Option (List Token)) → Option (List Token)
with_more None more = None
with_more (Some p) more = option_map (λ tokens. p.0 ∷ tokens) (more (after_gap p.1))

-- the tokens of a text that no gap begins, fewer than n of them
abbrev read : ℕ → List ℕ → Option (List Token)
read zero text = None
read (suc n) [] = Some []
read (suc n) (byte ∷ text) = with_more (first_token (byte ∷ text)) (λ rest. read n rest)

first_and_more : (text : List ℕ) (more : List ℕ → Option (List Token)) (spelled : (rest : List ℕ) (tokens : List Token) → more rest ≡ Some tokens → Spells rest tokens)
    (found : Option (Token × List ℕ)) (tokens : List Token) → first_token text ≡ found → with_more found more ≡ Some tokens → Spells text tokens
first_and_more text more spelled None tokens e h = absurd (none-some _ h)
first_and_more text more spelled (Some p) tokens e h = behind (more (after_gap p.1)) refl h
  where
    behind : (rest : Option (List Token)) → more (after_gap p.1) ≡ rest → option_map (λ tokens. p.0 ∷ tokens) rest ≡ Some tokens → Spells text tokens
    behind None d k = absurd (none-some _ k)
    behind (Some others) d k =
        subst (Spells text) (same_Some _ _ k) (p.1, begins_with_read text p.0 p.1 e, spells_before_gap p.1 others (spelled (after_gap p.1) others d))

-- what is read is what the text spells
read_spells : (n : ℕ) (text : List ℕ) (tokens : List Token) → read n text ≡ Some tokens → Spells text tokens
read_spells zero text tokens h = absurd (none-some _ h)
read_spells (suc n) [] tokens h = subst (Spells []) (same_Some _ _ h) refl
read_spells (suc n) (byte ∷ text) tokens h =
    first_and_more (byte ∷ text) (λ rest. read n rest) (λ rest more e. read_spells n rest more e) (first_token (byte ∷ text)) tokens refl h

abbrev name : List ℕ → Token
name x = t.Name x

abbrev number : ℕ → Token
number m = t.Number (n.Value m)

-- an assertion and a write
assertion : Spells (codes "assert x<=3;\nassert_1 := -10") (t.Word w.Assert ∷ name (codes "x") ∷ t.Sign s.LessEq ∷ number 3 ∷ t.Sign s.Semicolon
    ∷ name (codes "assert_1") ∷ t.Sign s.Assign ∷ t.Sign s.Minus ∷ number 10 ∷ [])
unfolding first_token name_at number_at sign_at name_token number_token sign_token reserved_of sign_of sign_len after_gap
assertion = read_spells 99 (codes "assert x<=3;\nassert_1 := -10") _ refl

-- the longest sign is taken, and a gap parts two
longest_signs : Spells (codes "=== <== <<= < = :==") (t.Sign s.DoubleEquals ∷ t.Sign s.Equals ∷ t.Sign s.LessEq ∷ t.Sign s.Equals ∷ t.Sign s.Less ∷ t.Sign s.LessEq
    ∷ t.Sign s.Less ∷ t.Sign s.Equals ∷ t.Sign s.Assign ∷ t.Sign s.Equals ∷ [])
unfolding first_token name_at number_at sign_at name_token number_token sign_token reserved_of sign_of sign_len after_gap
longest_signs = read_spells 99 (codes "=== <== <<= < = :==") _ refl

-- digits end a numeral at a letter; a name goes on with digits and `_`; words are told from names by the last byte and by capitals
words_and_names : Spells (codes "12while while1 While keeps end") (number 12 ∷ t.Word w.While ∷ name (codes "while1") ∷ name (codes "While") ∷ name (codes "keeps") ∷ t.Word w.End ∷ [])
unfolding first_token name_at number_at sign_at name_token number_token sign_token reserved_of sign_of sign_len after_gap
words_and_names = read_spells 99 (codes "12while while1 While keeps end") _ refl

-- the greatest numeral with a value, and the next one
widest : Spells (codes "9223372036854775807 9223372036854775808 0") (number 9223372036854775807 ∷ t.Number n.Wide ∷ number 0 ∷ [])
unfolding first_token name_at number_at sign_at name_token number_token sign_token reserved_of sign_of sign_len after_gap
widest = read_spells 99 (codes "9223372036854775807 9223372036854775808 0") _ refl

-- a name of 32 bytes, and a run of 33 that is no token
longest_name : Spells (codes "a123456789b123456789c123456789d1") (name (codes "a123456789b123456789c123456789d1") ∷ [])
unfolding first_token name_at number_at sign_at name_token number_token sign_token reserved_of sign_of sign_len after_gap
longest_name = read_spells 99 (codes "a123456789b123456789c123456789d1") _ refl

too_long : first_token (codes "a123456789b123456789c123456789d12") ≡ None
unfolding first_token name_at number_at sign_at name_token number_token sign_token reserved_of sign_of sign_len
too_long = refl

-- a numeral with a leading zero, a colon alone, bytes of no token
leading_zero : first_token (codes "01") ≡ None
unfolding first_token name_at number_at sign_at name_token number_token sign_token reserved_of sign_of sign_len
leading_zero = refl

colon : first_token (codes ": =") ≡ None
unfolding first_token name_at number_at sign_at name_token number_token sign_token reserved_of sign_of sign_len
colon = refl

underscore : first_token (codes "_a") ≡ None
unfolding first_token name_at number_at sign_at name_token number_token sign_token reserved_of sign_of sign_len
underscore = refl

carriage_return : first_token (13 ∷ []) ≡ None
unfolding first_token name_at number_at sign_at name_token number_token sign_token reserved_of sign_of sign_len
carriage_return = refl

-- ---- sections
abbrev section : SectionKind → List ℕ → List ℕ → Section
section kind title body = record { kind = kind; title = title; body = body }

abbrev whole : List Section → SectionList
whole found = record { whole = found; rest = None }

abbrev up_to : List Section → TextRefusal → SectionList
up_to found why = record { whole = found; rest = Some why }

-- blank lines and comments are dropped in bodies too; a line with more words than `end` ends no section
kept_body : sections_of (codes "# a\n\n program\tp \nend x\n  x  y \n # c\n\n\tz\n\tend \n") ≡ whole (section kind.Program (codes "p") (codes "end x\n  x  y \n\tz\n") ∷ [])
unfolding sections_of header_of is_end
kept_body = refl

-- each kind of section, titles that are words, and a last line without its line feed
all_kinds : sections_of (codes "rule end\nend\nprogram skip\nend\ncert assert\nend\nrefused chain\nend\ntrace c_1\nend\nreport r\nend\nchain chain\nx\nend")
    ≡ whole (section kind.Rule (codes "end") [] ∷ section kind.Program (codes "skip") [] ∷ section kind.Cert (codes "assert") [] ∷ section kind.Refused (codes "chain") []
    ∷ section kind.Trace (codes "c_1") [] ∷ section kind.Report (codes "r") [] ∷ section kind.Chain (codes "chain") (codes "x\n") ∷ [])
unfolding sections_of header_of is_end
all_kinds = refl

-- the fault is that of the section after the whole ones
unended : sections_of (codes "rule a\nend\nchain b\nend x") ≡ up_to (section kind.Rule (codes "a") [] ∷ []) (Unended 2)
unfolding sections_of header_of is_end
unended = refl

stray : sections_of (codes "rule a\nend\nrule a\nend\nend\n") ≡ up_to (section kind.Rule (codes "a") [] ∷ section kind.Rule (codes "a") [] ∷ []) (Stray 3)
unfolding sections_of header_of is_end
stray = refl

-- lines that are no headers: without a title, with two, with one that is no ID, with another word
no_title : sections_of (codes "chain\nend\n") ≡ up_to [] (Stray 1)
unfolding sections_of header_of is_end
no_title = refl

two_titles : sections_of (codes "chain a b\nend\n") ≡ up_to [] (Stray 1)
unfolding sections_of header_of is_end
two_titles = refl

no_id : sections_of (codes "rule 1a\nend\n") ≡ up_to [] (Stray 1)
unfolding sections_of header_of is_end
no_id = refl

long_title : sections_of (codes "rule abcdefghijklmnopqrstuvwxyz_012345\nend\n") ≡ up_to [] (Stray 1)
unfolding sections_of header_of is_end
long_title = refl

capital : sections_of (codes "Chain a\nend\n") ≡ up_to [] (Stray 1)
unfolding sections_of header_of is_end
capital = refl
