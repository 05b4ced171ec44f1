-- Gaps in front of a token: with or without one a text begins with the same token.
use Rattle.std.proofs.Common.{◌≡◌, ℕ, ◌<◌, true, List, [], ◌∷◌, ◌++◌, length, take, drop, slice_index, refl, sym, ap, ◌∙◌, subst, arith, length-append}
use Rattle.std.specs.Char.{is_ascii_alphabetic, is_ascii_digit}
use Rattle.std.specs.List.{list_all, prefix_len}
use Rattle.std.proofs.lemmas.Bool.{false≢true}
use Rattle.std.proofs.lemmas.List.{append_assoc, take-append-drop, drop_at, append-nil}
use Rattle.std.proofs.lemmas.List.Folds.{list_all-append}
use Rattle.pec_text.specs.declared.token.Sign.{Sign}
use Rattle.pec_text.specs.declared.token.Sign.TheVariants as s
use Rattle.pec_text.specs.declared.token.Token.{Token}
use Rattle.pec_text.specs.declared.token.Token.TheVariants as t
use Rattle.pec_text.specs.Spelling.{is_gap_byte, sign_text, IsLexeme, goes_on, StopsBefore, Begins, Spells}
use Rattle.pec_text.specs.Scanning.{after_gap}
use Rattle.pec_text.proofs.FirstTokens.{letter_no_gap, digit_no_gap, first_digit}
use Rattle.pec_text.proofs.Ids.{run_of_id}
use Rattle.pec_text.proofs.Runs.{both_true, run_passes, run_stops, prefix_len-run}
use Rattle.pec_text.proofs.Tables.{reserved_text}

letter_stops : (lexeme rest : List ℕ) → is_ascii_alphabetic (slice_index lexeme 0) ≡ true → StopsBefore is_gap_byte (lexeme ++ rest)
letter_stops [] rest h = absurd (false≢true h)
letter_stops (byte ∷ lexeme) rest h = letter_no_gap byte h

digit_stops : (lexeme rest : List ℕ) → is_ascii_digit (slice_index lexeme 0) ≡ true → StopsBefore is_gap_byte (lexeme ++ rest)
digit_stops [] rest h = absurd (false≢true h)
digit_stops (byte ∷ lexeme) rest h = digit_no_gap byte h

sign_no_gap : (sign : Sign) (rest : List ℕ) → StopsBefore is_gap_byte (sign_text sign ++ rest)
sign_no_gap sign rest = elim sign as (λ sign. StopsBefore is_gap_byte (sign_text sign ++ rest)) [ s.Less ↦ refl | _ ↦ refl ]

-- no lexeme begins with a byte of a gap
word_stops : (lexeme rest : List ℕ) (token : Token) → IsLexeme lexeme token → StopsBefore is_gap_byte (lexeme ++ rest)
word_stops lexeme rest (t.Name name) is = letter_stops lexeme rest (run_of_id lexeme is.0.id).letter
word_stops lexeme rest (t.Word reserved) is = rw is (letter_stops _ rest (reserved_text reserved).letter)
word_stops lexeme rest (t.Number numeral) is = digit_stops lexeme rest (first_digit lexeme is.0.some is.0.digits)
word_stops lexeme rest (t.Sign sign) is = rw is (sign_no_gap sign rest)

-- and each token has a byte
pub sign_has_byte : (sign : Sign) → 0 < length (sign_text sign)
sign_has_byte sign = elim sign as (λ sign. 0 < length (sign_text sign)) [ s.Less ↦ omega arith | _ ↦ omega arith ]

letter_has_byte : (lexeme : List ℕ) → is_ascii_alphabetic (slice_index lexeme 0) ≡ true → 0 < length lexeme
letter_has_byte [] h = absurd (false≢true h)
letter_has_byte (byte ∷ lexeme) h = omega arith

word_has_byte : (lexeme : List ℕ) (token : Token) → IsLexeme lexeme token → 0 < length lexeme
word_has_byte lexeme (t.Name name) is = letter_has_byte lexeme (run_of_id lexeme is.0.id).letter
word_has_byte lexeme (t.Word reserved) is = rw is (letter_has_byte _ (reserved_text reserved).letter)
word_has_byte lexeme (t.Number numeral) is = is.0.some
word_has_byte lexeme (t.Sign sign) is = rw is (sign_has_byte sign)

-- the rest behind a token is shorter
pub begins_shortens : (bytes rest : List ℕ) (token : Token) → Begins bytes token rest → length rest < length bytes
begins_shortens bytes rest token begins =
    let some = word_has_byte begins.lexeme token begins.is_lexeme in
    rw (begins.joined, length-append begins.gap (begins.lexeme ++ rest), length-append begins.lexeme rest) (omega arith)

-- what stands behind the gap does not begin with one
pub after_gap_stops : (bytes : List ℕ) → StopsBefore is_gap_byte (after_gap bytes)
unfolding after_gap
after_gap_stops bytes = run_stops is_gap_byte bytes

after_gap-append : (gap rest : List ℕ) → list_all is_gap_byte gap ≡ true → StopsBefore is_gap_byte rest → after_gap (gap ++ rest) ≡ rest
unfolding after_gap
after_gap-append gap rest gap_bytes stops =
    ap (λ n. drop n (gap ++ rest)) (prefix_len-run is_gap_byte gap rest gap_bytes stops) ∙ drop_at gap rest (length gap) refl

pub begins_after_gap : (bytes rest : List ℕ) (token : Token) → Begins bytes token rest → Begins (after_gap bytes) token rest
begins_after_gap bytes rest token begins = record {
  gap = [];
  lexeme = begins.lexeme;
  joined = ap after_gap begins.joined ∙ after_gap-append begins.gap (begins.lexeme ++ rest) begins.is_gap (word_stops begins.lexeme rest token begins.is_lexeme);
  is_gap = refl;
  is_lexeme = begins.is_lexeme;
  longest = begins.longest;
}

pub begins_before_gap : (bytes rest : List ℕ) (token : Token) → Begins (after_gap bytes) token rest → Begins bytes token rest
unfolding after_gap
begins_before_gap bytes rest token begins =
    let n = prefix_len is_gap_byte bytes in record {
      gap = take n bytes ++ begins.gap;
      lexeme = begins.lexeme;
      joined = sym (take-append-drop n bytes) ∙ (ap (λ rest. take n bytes ++ rest) begins.joined ∙ sym (append_assoc (take n bytes) begins.gap (begins.lexeme ++ rest)));
      is_gap = rw (list_all-append is_gap_byte (take n bytes) begins.gap, run_passes is_gap_byte bytes) begins.is_gap;
      is_lexeme = begins.is_lexeme;
      longest = begins.longest;
    }

-- a text that begins with a token, and with no gap, begins with the token's lexeme
pub begins_at_once : (bytes rest : List ℕ) (token : Token) → StopsBefore is_gap_byte bytes → Begins bytes token rest
    → (lexeme : List ℕ) × (bytes ≡ lexeme ++ rest) × IsLexeme lexeme token × StopsBefore (goes_on token) rest
begins_at_once bytes rest token stops begins = at_once begins.gap begins.joined begins.is_gap
  where
    at_once : (gap : List ℕ) → bytes ≡ gap ++ (begins.lexeme ++ rest) → list_all is_gap_byte gap ≡ true → (lexeme : List ℕ) × (bytes ≡ lexeme ++ rest) × IsLexeme lexeme token × StopsBefore (goes_on token) rest
    at_once [] joined gap_bytes = (begins.lexeme, joined, begins.is_lexeme, begins.longest)
    at_once (byte ∷ gap) joined gap_bytes =
        absurd (false≢true (sym (subst (StopsBefore is_gap_byte) joined stops) ∙ (both_true (is_gap_byte byte) (list_all is_gap_byte gap) gap_bytes).0))

gap_alone : (bytes : List ℕ) → list_all is_gap_byte bytes ≡ true → after_gap bytes ≡ []
gap_alone bytes gap_bytes = ap after_gap (sym (append-nil bytes)) ∙ after_gap-append bytes [] gap_bytes tt

gap_in_front : (bytes : List ℕ) → list_all is_gap_byte (after_gap bytes) ≡ true → list_all is_gap_byte bytes ≡ true
unfolding after_gap
gap_in_front bytes gap_bytes =
    let n = prefix_len is_gap_byte bytes in
    ap (list_all is_gap_byte) (sym (take-append-drop n bytes)) ∙ rw (list_all-append is_gap_byte (take n bytes) (drop n bytes), run_passes is_gap_byte bytes) gap_bytes

-- A gap in front changes nothing of what is spelled.
pub spells_after_gap : (bytes : List ℕ) (tokens : List Token) → Spells bytes tokens → Spells (after_gap bytes) tokens
spells_after_gap bytes [] gap_bytes = rw (gap_alone bytes gap_bytes) refl
spells_after_gap bytes (token ∷ tokens) spelled = (spelled.0, begins_after_gap bytes spelled.0 token spelled.1, spelled.2)

pub spells_before_gap : (bytes : List ℕ) (tokens : List Token) → Spells (after_gap bytes) tokens → Spells bytes tokens
spells_before_gap bytes [] gap_bytes = gap_in_front bytes gap_bytes
spells_before_gap bytes (token ∷ tokens) spelled = (spelled.0, begins_before_gap bytes spelled.0 token spelled.1, spelled.2)
