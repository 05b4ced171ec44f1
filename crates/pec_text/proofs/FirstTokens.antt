-- The token that is computed at the front of a text is the one that the text begins with.
use Rattle.std.proofs.Common.{◌≡◌, ℕ, ◌<◌, ◌≤◌, true, false, ◌&&◌, eqb, ltb, leb, List, [], ◌∷◌, ◌++◌, length, slice_index, Option, Some, None, refl, sym, ap, ◌∙◌, arith}
use Rattle.std.specs.Char.{is_ascii_alphabetic, is_ascii_digit}
use Rattle.std.specs.List.{list_all, prefix_len}
use Rattle.std.specs.Option.{option_map}
use Rattle.std.specs.Str.Parse.{digits_value}
use Rattle.std.proofs.lemmas.Bool.{false≢true}
use Rattle.std.proofs.lemmas.Bool.Decides.{nat_tests}
use Rattle.std.proofs.lemmas.List.{take_at, drop_at}
use Rattle.pec_text.specs.declared.token.Sign.{Sign}
use Rattle.pec_text.specs.declared.token.Sign.TheVariants as s
use Rattle.pec_text.specs.declared.token.Token.{Token}
use Rattle.pec_text.specs.declared.token.Token.TheVariants as t
use Rattle.pec_text.specs.declared.token.Word.{Word}
use Rattle.pec_text.specs.Byte.{is_id_byte}
use Rattle.pec_text.specs.Spelling.{is_gap_byte, word_text, sign_text, numeral_of, IsName, IsNumeral, IsLexeme, sign_goes_on, goes_on, StopsBefore}
use Rattle.pec_text.specs.Scanning.{sign_len, reserved_of, word_or_name, name_token, number_token, sign_token, with_rest, split_token, name_at, number_at, sign_at, first_token}
use Rattle.pec_text.proofs.Ids.{run_of_id}
use Rattle.pec_text.proofs.Runs.{both_true, prefix_len-run}
use Rattle.pec_text.proofs.Tables.{reserved_text, sign_found, reserved_none}

-- ---- classes of bytes

pub digit_no_letter : (byte : ℕ) → is_ascii_digit byte ≡ true → is_ascii_alphabetic byte ≡ false
digit_no_letter byte h = grind (arith, nat_tests)

pub letter_no_gap : (byte : ℕ) → is_ascii_alphabetic byte ≡ true → is_gap_byte byte ≡ false
letter_no_gap byte h = grind (arith, nat_tests)

pub digit_no_gap : (byte : ℕ) → is_ascii_digit byte ≡ true → is_gap_byte byte ≡ false
digit_no_gap byte h = grind (arith, nat_tests)

-- ---- from a lexeme and what follows it to the token that is computed

split_token-lexeme : (token_of : List ℕ → Option Token) (n : ℕ) (lexeme rest : List ℕ) → n ≡ length lexeme
    → split_token token_of n (lexeme ++ rest) ≡ with_rest rest (token_of lexeme)
split_token-lexeme token_of n lexeme rest is = rw (take_at lexeme rest n (sym is), drop_at lexeme rest n (sym is)) refl

pub begins_by_letter : (lexeme rest : List ℕ) → is_ascii_alphabetic (slice_index lexeme 0) ≡ true → is_ascii_alphabetic (slice_index (lexeme ++ rest) 0) ≡ true
begins_by_letter [] rest h = absurd (false≢true h)
begins_by_letter (byte ∷ lexeme) rest h = h

pub begins_by_digit : (lexeme rest : List ℕ) → is_ascii_digit (slice_index lexeme 0) ≡ true → is_ascii_digit (slice_index (lexeme ++ rest) 0) ≡ true
begins_by_digit [] rest h = absurd (false≢true h)
begins_by_digit (byte ∷ lexeme) rest h = h

first_token-name : (text : List ℕ) → is_ascii_alphabetic (slice_index text 0) ≡ true → first_token text ≡ name_at text
unfolding first_token
first_token-name text h = rw h

first_token-number : (text : List ℕ) → is_ascii_digit (slice_index text 0) ≡ true → first_token text ≡ number_at text
unfolding first_token
first_token-number text h = rw (digit_no_letter (slice_index text 0) h, h)

run_is_read : (lexeme rest : List ℕ) → is_ascii_alphabetic (slice_index lexeme 0) ≡ true → list_all is_id_byte lexeme ≡ true → StopsBefore is_id_byte rest
    → first_token (lexeme ++ rest) ≡ with_rest rest (name_token lexeme)
unfolding name_at
run_is_read lexeme rest letter run stops =
    first_token-name (lexeme ++ rest) (begins_by_letter lexeme rest letter)
    ∙ split_token-lexeme name_token (prefix_len is_id_byte (lexeme ++ rest)) lexeme rest (prefix_len-run is_id_byte lexeme rest run stops)

name_token-name : (run : List ℕ) → reserved_of run ≡ None → length run ≤ 32 → name_token run ≡ Some (t.Name run)
unfolding name_token
name_token-name run free short =
    let within : leb (length run) 32 ≡ true = grind (arith, nat_tests) in
    ap (λ found. word_or_name found run) free ∙ rw within

name_token-lexeme : (run : List ℕ) (reserved : Word) → reserved_of run ≡ Some reserved → name_token run ≡ Some (t.Word reserved)
unfolding name_token
name_token-lexeme run reserved found = ap (λ found. word_or_name found run) found

reads_name : (lexeme rest : List ℕ) → IsName lexeme → StopsBefore is_id_byte rest → first_token (lexeme ++ rest) ≡ Some (t.Name lexeme, rest)
reads_name lexeme rest is stops =
    let run = run_of_id lexeme is.id in
    run_is_read lexeme rest run.letter run.run stops ∙ ap (with_rest rest) (name_token-name lexeme (reserved_none lexeme is.free) run.short)

reads_word : (reserved : Word) (rest : List ℕ) → StopsBefore is_id_byte rest → first_token (word_text reserved ++ rest) ≡ Some (t.Word reserved, rest)
reads_word reserved rest stops =
    let is = reserved_text reserved in
    run_is_read (word_text reserved) rest is.letter is.run stops ∙ ap (with_rest rest) (name_token-lexeme (word_text reserved) reserved is.found)

pub first_digit : (digits : List ℕ) → 0 < length digits → list_all is_ascii_digit digits ≡ true → is_ascii_digit (slice_index digits 0) ≡ true
first_digit [] some all = absurd (omega arith)
first_digit (digit ∷ digits) some all = (both_true (is_ascii_digit digit) (list_all is_ascii_digit digits) all).0

reads_number : (digits rest : List ℕ) → IsNumeral digits → StopsBefore is_ascii_digit rest
    → first_token (digits ++ rest) ≡ Some (t.Number (numeral_of (digits_value 10 digits)), rest)
unfolding number_at number_token
reads_number digits rest is stops =
    let plain : (ltb 1 (length digits) && eqb (slice_index digits 0) 48) ≡ false = (let h = is.zero_alone in grind (arith, nat_tests)) in
    first_token-number (digits ++ rest) (begins_by_digit digits rest (first_digit digits is.some is.digits))
    ∙ (split_token-lexeme number_token (prefix_len is_ascii_digit (digits ++ rest)) digits rest (prefix_len-run is_ascii_digit digits rest is.digits stops) ∙ rw plain refl)

sign_token-sign : (sign : Sign) → sign_token (sign_text sign) ≡ Some (t.Sign sign)
unfolding sign_token
sign_token-sign sign = ap (option_map t.Sign) (sign_found sign)

sign_len-sign : (sign : Sign) (rest : List ℕ) → StopsBefore (sign_goes_on sign) rest → sign_len (sign_text sign ++ rest) ≡ length (sign_text sign)
unfolding sign_len
sign_len-sign sign [] stops = elim sign as (λ sign. sign_len (sign_text sign ++ []) ≡ length (sign_text sign)) [ s.Less ↦ refl | _ ↦ refl ]
sign_len-sign s.Less (byte ∷ rest) stops = rw stops
sign_len-sign s.Equals (byte ∷ rest) stops = rw stops
sign_len-sign _ (byte ∷ rest) stops = refl

first_token-sign : (sign : Sign) (rest : List ℕ) → first_token (sign_text sign ++ rest) ≡ sign_at (sign_text sign ++ rest)
unfolding first_token
first_token-sign sign rest = elim sign as (λ sign. first_token (sign_text sign ++ rest) ≡ sign_at (sign_text sign ++ rest)) [ s.Less ↦ refl | _ ↦ refl ]

reads_sign : (sign : Sign) (rest : List ℕ) → StopsBefore (sign_goes_on sign) rest → first_token (sign_text sign ++ rest) ≡ Some (t.Sign sign, rest)
unfolding sign_at
reads_sign sign rest stops =
    first_token-sign sign rest
    ∙ (split_token-lexeme sign_token (sign_len (sign_text sign ++ rest)) (sign_text sign) rest (sign_len-sign sign rest stops)
    ∙ ap (with_rest rest) (sign_token-sign sign))

-- A lexeme as long as it can be is read as its token.
pub reads_word_of : (lexeme rest : List ℕ) (token : Token) → IsLexeme lexeme token → StopsBefore (goes_on token) rest → first_token (lexeme ++ rest) ≡ Some (token, rest)
reads_word_of lexeme rest (t.Name name) is stops = reads_name lexeme rest is.0 stops ∙ ap (λ name. Some (t.Name name, rest)) (sym is.1)
reads_word_of lexeme rest (t.Word reserved) is stops = ap (λ lexeme. first_token (lexeme ++ rest)) is ∙ reads_word reserved rest stops
reads_word_of lexeme rest (t.Number numeral) is stops = reads_number lexeme rest is.0 stops ∙ ap (λ numeral. Some (t.Number numeral, rest)) (sym is.1)
reads_word_of lexeme rest (t.Sign sign) is stops = ap (λ lexeme. first_token (lexeme ++ rest)) is ∙ reads_sign sign rest stops
