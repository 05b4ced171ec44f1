-- Bytes that spell tokens, joined piece by piece. `Lays Behind bytes tokens` says that the bytes spell the tokens in front
-- of whatever meets `Behind`, and that no numeral of them is too wide. Pieces go on with a line, end it, or are whole lines.
use Rattle.std.proofs.Common.{◌≡◌, ℕ, zero, suc, ◌<◌, ◌^◌, true, false, List, [], ◌∷◌, ◌++◌, codes, decimal, length, get_or, slice_index, refl, sym, ap, ◌∙◌, subst, arith}
use Rattle.std.specs.Char.{is_ascii_digit}
use Rattle.std.specs.List.{list_all, list_any}
use Rattle.std.specs.Str.Parse.{digits_value}
use Rattle.std.proofs.lemmas.Bool.{and_parts, and_from, lt-ltb}
use Rattle.std.proofs.lemmas.Bool.Decides.{nat_tests}
use Rattle.std.proofs.lemmas.Fmt.{digits_decimal, digits_value-decimal, decimal_nonempty, first_decimal, decimal_digit}
use Rattle.std.proofs.lemmas.Str.Parse.{IsDigitsTest, IsNumeralModel, numerals_by_value}
use Rattle.std.proofs.Common.{rules}
use Rattle.std.proofs.lemmas.List.{append_assoc}
use Rattle.std.proofs.lemmas.List.Folds.{list_all-append, list_any-append}
use Rattle.pec_text.specs.Byte.{is_id_byte}
use Rattle.pec_text.specs.Spelling.{is_gap_byte, word_text, sign_text, IsName, numeral_of, IsLexeme, sign_goes_on, goes_on, StopsBefore, Begins, Spells}
use Rattle.pec_text.specs.declared.token.Numeral.TheVariants as n
use Rattle.pec_text.specs.declared.token.Sign.{Sign}
use Rattle.pec_text.specs.declared.token.Token.{Token}
use Rattle.pec_text.specs.declared.token.Token.TheVariants as t
use Rattle.pec_text.specs.declared.token.Word.{Word}
use Rattle.pec_text.proofs.Ids.{run_of_id}
use Rattle.program_reader.specs.ProgramReading.{is_wide}
use Rattle.rule_printer.proofs.WrittenLines.{is_plain, GoesOn, CanEnd, IsWhole, goes_on-plain, goes_on-append, can_end-append}

pub record Lays (Behind : List ℕ → Type 0) (bytes : List ℕ) (tokens : List Token) : Type 0 where
  pub spells : (rest : List ℕ) (more : List Token) → Behind rest → Spells rest more → Spells (bytes ++ rest) (tokens ++ more)
  pub narrow : list_any is_wide tokens ≡ false

-- whatever follows, and what no name, word or numeral goes on with
abbrev pub Anything : List ℕ → Type 0
Anything rest = Unit {0}

abbrev pub Breaks : List ℕ → Type 0
Breaks rest = StopsBefore is_id_byte rest

-- a piece of a line, the last piece of a line, and whole lines
pub record Piece (Behind : List ℕ → Type 0) (bytes : List ℕ) (tokens : List Token) : Type 0 where
  pub lays : Lays Behind bytes tokens
  pub on : GoesOn bytes

pub record Ending (bytes : List ℕ) (tokens : List Token) : Type 0 where
  pub lays : Lays Anything bytes tokens
  pub ends : CanEnd bytes

pub record Lines (bytes : List ℕ) (tokens : List Token) : Type 0 where
  pub lays : Lays Anything bytes tokens
  pub whole : IsWhole bytes

-- ---- joining
no_wide : (ts us : List Token) → list_any is_wide ts ≡ false → list_any is_wide us ≡ false → list_any is_wide (ts ++ us) ≡ false
no_wide ts us h k = list_any-append is_wide ts us ∙ rw h k

pub lays-append : (P Q : List ℕ → Type 0) (a b : List ℕ) (ts us : List Token) → Lays P a ts → Lays Q b us → ((rest : List ℕ) → Q rest → P (b ++ rest)) → Lays Q (a ++ b) (ts ++ us)
lays-append P Q a b ts us x y fits = record {
  spells = λ rest more behind spelled.
      subst (λ z. Spells z ((ts ++ us) ++ more)) (sym (append_assoc a b rest))
      (subst (Spells (a ++ (b ++ rest))) (sym (append_assoc ts us more)) (x.spells (b ++ rest) (us ++ more) (fits rest behind) (y.spells rest more behind spelled)));
  narrow = no_wide ts us x.narrow y.narrow;
}

pub then : {P Q : List ℕ → Type 0} {a b : List ℕ} {ts us : List Token} → Piece P a ts → Piece Q b us → ((rest : List ℕ) → Q rest → P (b ++ rest)) → Piece Q (a ++ b) (ts ++ us)
then {P} {Q} {a} {b} {ts} {us} x y fits = record { lays = lays-append P Q a b ts us x.lays y.lays fits; on = goes_on-append a b x.on y.on }

pub then_end : {P : List ℕ → Type 0} {a b : List ℕ} {ts us : List Token} → Piece P a ts → Ending b us → ((rest : List ℕ) → P (b ++ rest)) → Ending (a ++ b) (ts ++ us)
then_end {P} {a} {b} {ts} {us} x y fits = record { lays = lays-append P Anything a b ts us x.lays y.lays (λ rest _. fits rest); ends = can_end-append a b x.on y.ends }

pub before : {P Q : List ℕ → Type 0} {a : List ℕ} {ts : List Token} → Piece P a ts → ((rest : List ℕ) → Q rest → P rest) → Piece Q a ts
before x fits = record { lays = record { spells = λ rest more behind spelled. x.lays.spells rest more (fits rest behind) spelled; narrow = x.lays.narrow }; on = x.on }

-- ---- gaps
spells_gap : (gap rest : List ℕ) (more : List Token) → list_all is_gap_byte gap ≡ true → Spells rest more → Spells (gap ++ rest) more
spells_gap gap rest [] h spelled = list_all-append is_gap_byte gap rest ∙ and_from (list_all is_gap_byte gap) (list_all is_gap_byte rest) h spelled
spells_gap gap rest (token ∷ tokens) h spelled =
    let begins : Begins rest token spelled.0 = spelled.1 in (
      spelled.0,
      record {
        gap = gap ++ begins.gap;
        lexeme = begins.lexeme;
        joined = ap (λ z. gap ++ z) begins.joined ∙ sym (append_assoc gap begins.gap (begins.lexeme ++ spelled.0));
        is_gap = list_all-append is_gap_byte gap begins.gap ∙ and_from (list_all is_gap_byte gap) (list_all is_gap_byte begins.gap) h begins.is_gap;
        is_lexeme = begins.is_lexeme;
        longest = begins.longest;
      },
      spelled.2,
    )

pub gap_lays : (gap : List ℕ) → list_all is_gap_byte gap ≡ true → Lays Anything gap []
gap_lays gap h = record { spells = λ rest more _ spelled. spells_gap gap rest more h spelled; narrow = refl }

pub space : Piece Anything (codes " ") []
space = record { lays = gap_lays (codes " ") refl; on = goes_on-plain (codes " ") refl }

-- ---- tokens
lexeme_lays : (lexeme : List ℕ) (token : Token) → IsLexeme lexeme token → is_wide token ≡ false → Lays (StopsBefore (goes_on token)) lexeme (token ∷ [])
lexeme_lays lexeme token is narrow = record {
  spells = λ rest more stops spelled. (rest, record { gap = []; lexeme = lexeme; joined = refl; is_gap = refl; is_lexeme = is; longest = stops }, spelled);
  narrow = rw narrow refl;
}

-- a sign alone, and one between spaces
pub sign_laid : (sign : Sign) → list_all is_plain (sign_text sign) ≡ true → ((rest : List ℕ) → StopsBefore (sign_goes_on sign) rest) → Piece Anything (sign_text sign) (t.Sign sign ∷ [])
sign_laid sign plain never = record {
  lays = record { spells = λ rest more _ spelled. (lexeme_lays (sign_text sign) (t.Sign sign) refl refl).spells rest more (never rest) spelled; narrow = refl };
  on = goes_on-plain (sign_text sign) plain;
}

sign_lexeme : (sign : Sign) → list_all is_plain (sign_text sign) ≡ true → Piece (StopsBefore (sign_goes_on sign)) (sign_text sign) (t.Sign sign ∷ [])
sign_lexeme sign plain = record { lays = lexeme_lays (sign_text sign) (t.Sign sign) refl refl; on = goes_on-plain (sign_text sign) plain }

pub sign_between : (sign : Sign) → list_all is_plain (sign_text sign) ≡ true → ((rest : List ℕ) → StopsBefore (sign_goes_on sign) (codes " " ++ rest)) → Piece Anything (codes " " ++ (sign_text sign ++ codes " ")) (t.Sign sign ∷ [])
sign_between sign plain stops = then space (then (sign_lexeme sign plain) space (λ rest _. stops rest)) (λ rest _. tt)

-- a word before a space, and one between spaces
pub word_lexeme : (word : Word) → list_all is_plain (word_text word) ≡ true → Piece Breaks (word_text word) (t.Word word ∷ [])
word_lexeme word plain = record { lays = lexeme_lays (word_text word) (t.Word word) refl refl; on = goes_on-plain (word_text word) plain }

pub word_before : (word : Word) → list_all is_plain (word_text word) ≡ true → Piece Anything (word_text word ++ codes " ") (t.Word word ∷ [])
word_before word plain = then (word_lexeme word plain) space (λ rest _. refl)

pub word_between : (word : Word) → list_all is_plain (word_text word) ≡ true → Piece Anything (codes " " ++ (word_text word ++ codes " ")) (t.Word word ∷ [])
word_between word plain = then space (word_before word plain) (λ rest _. tt)

-- ---- names
id_plain : (byte : ℕ) → is_id_byte byte ≡ true → is_plain byte ≡ true
id_plain byte h = grind (arith, nat_tests)

run_plain : (run : List ℕ) → list_all is_id_byte run ≡ true → list_all is_plain run ≡ true
run_plain [] h = refl
run_plain (byte ∷ run) h =
    let parts : (is_id_byte byte ≡ true) × (list_all is_id_byte run ≡ true) = and_parts (is_id_byte byte) (list_all is_id_byte run) h in
    and_from (is_plain byte) (list_all is_plain run) (id_plain byte parts.0) (run_plain run parts.1)

pub name_laid : (name : List ℕ) → IsName name → Piece Breaks name (t.Name name ∷ [])
name_laid name is = record { lays = lexeme_lays name (t.Name name) (is, refl) refl; on = goes_on-plain name (run_plain name (run_of_id name is.id).run) }

-- ---- numerals
digit_plain : (byte : ℕ) → is_ascii_digit byte ≡ true → is_plain byte ≡ true
digit_plain byte h = grind (arith, nat_tests)

digits_plain : (run : List ℕ) → list_all is_ascii_digit run ≡ true → list_all is_plain run ≡ true
digits_plain [] h = refl
digits_plain (byte ∷ run) h =
    let parts : (is_ascii_digit byte ≡ true) × (list_all is_ascii_digit run ≡ true) = and_parts (is_ascii_digit byte) (list_all is_ascii_digit run) h in
    and_from (is_plain byte) (list_all is_plain run) (digit_plain byte parts.0) (digits_plain run parts.1)

tells_digits : IsDigitsTest (λ digits. list_all is_ascii_digit digits ≡ true)
tells_digits = search rules

own : IsNumeralModel (λ digits. list_all is_ascii_digit digits ≡ true) (digits_value 10)
own = numerals_by_value _ tells_digits

zero_alone : (m : ℕ) → m < 2 ^ 64 → slice_index (decimal m) 0 ≡ 48 → length (decimal m) ≡ 1
zero_alone zero low h = ap length (decimal_digit 0 (omega arith))
zero_alone (suc m) low h = let above : 48 < get_or (decimal (suc m)) 0 0 = first_decimal (suc m) (omega arith) low in absurd (omega arith)

narrow_numeral : (m : ℕ) → m < 2 ^ 63 → numeral_of m ≡ n.Value m
narrow_numeral m low = rw (lt-ltb m (2 ^ 63) low) refl

decimal_lexeme : (m : ℕ) → m < 2 ^ 63 → IsLexeme (decimal m) (t.Number (numeral_of m))
decimal_lexeme m low =
    let wide : m < 2 ^ 64 = omega (arith, low) in (
      record { some = decimal_nonempty m wide; digits = digits_decimal own m wide; zero_alone = zero_alone m wide },
      ap numeral_of (sym (digits_value-decimal own m wide)),
    )

not_digit : (byte : ℕ) → is_id_byte byte ≡ false → is_ascii_digit byte ≡ false
not_digit byte h = grind (arith, nat_tests)

breaks_digits : (rest : List ℕ) → Breaks rest → StopsBefore is_ascii_digit rest
breaks_digits [] h = tt
breaks_digits (byte ∷ rest) h = not_digit byte h

pub number_laid : (m : ℕ) → m < 2 ^ 63 → Piece Breaks (decimal m) (t.Number (numeral_of m) ∷ [])
number_laid m low = record {
  lays = record {
    spells = λ rest more breaks spelled.
        (lexeme_lays (decimal m) (t.Number (numeral_of m)) (decimal_lexeme m low) (ap (λ z. is_wide (t.Number z)) (narrow_numeral m low))).spells rest more (breaks_digits rest breaks) spelled;
    narrow = ap (λ z. list_any is_wide (t.Number z ∷ [])) (narrow_numeral m low);
  };
  on = goes_on-plain (decimal m) (digits_plain (decimal m) (digits_decimal own m (omega (arith, low))));
}
