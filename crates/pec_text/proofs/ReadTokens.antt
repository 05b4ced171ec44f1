-- What is computed at the front of a text is a token that the text begins with.
use Rattle.std.proofs.Common.{◌≡◌, inl, inr, ℕ, ◌<◌, ◌≤◌, true, false, cond, ◌&&◌, eqb, ltb, leb, List, [], ◌∷◌, length, take, drop, slice_index, Option, Some, None, refl, sym, ap, subst, arith}
use Rattle.std.specs.Char.{is_ascii_alphabetic, is_ascii_digit}
use Rattle.std.specs.List.{list_all, prefix_len}
use Rattle.std.specs.Option.{option_map}
use Rattle.std.specs.Str.Parse.{digits_value}
use Rattle.std.proofs.lemmas.Bool.{false≢true}
use Rattle.std.proofs.lemmas.Bool.Decides.{nat_tests}
use Rattle.std.proofs.lemmas.List.{take-append-drop, get_or-take, length-take-le}
use Rattle.std.proofs.lemmas.List.Sums.{prefix_len-le-length}
use Rattle.pec_text.specs.declared.token.Sign.{Sign}
use Rattle.pec_text.specs.declared.token.Sign.TheVariants as s
use Rattle.pec_text.specs.declared.token.Token.{Token}
use Rattle.pec_text.specs.declared.token.Token.TheVariants as t
use Rattle.pec_text.specs.Byte.{is_id_byte}
use Rattle.pec_text.specs.Spelling.{sign_text, numeral_of, IsName, IsNumeral, IsLexeme, sign_goes_on, goes_on, StopsBefore, Begins}
use Rattle.pec_text.specs.Scanning.{is_before_equals, sign_len, reserved_of, sign_of, word_or_name, name_token, number_token, sign_token, with_rest, split_token, name_at, number_at, sign_at, first_token}
use Rattle.pec_text.proofs.Ids.{letter_in_id, id_of_run}
use Rattle.pec_text.proofs.Runs.{chosen, run_passes, run_stops, stops_never}
use Rattle.pec_text.proofs.Tables.{reserved_is, sign_is, reserved_free}

-- The token of the first n bytes, and the rest, were computed.
record IsSplit (token_of : List ℕ → Option Token) (n : ℕ) (text : List ℕ) (token : Token) (rest : List ℕ) : Type 0 where
  computed : token_of (take n text) ≡ Some token
  behind : drop n text ≡ rest

with_rest_is : (after rest : List ℕ) (found : Option Token) (token : Token) → with_rest after found ≡ Some (token, rest) → (found ≡ Some token) × (after ≡ rest)
with_rest_is after rest None token h = cc
with_rest_is after rest (Some found) token h =
    let same : ◌≡◌ {A = Token × List ℕ} (found, after) (token, rest) = cc in (ap (λ pair. Some pair.0) same, ap (λ pair. pair.1) same)

split_of : (token_of : List ℕ → Option Token) (n : ℕ) (text : List ℕ) (token : Token) (rest : List ℕ) → split_token token_of n text ≡ Some (token, rest) → IsSplit token_of n text token rest
split_of token_of n text token rest h =
    let parts = with_rest_is (drop n text) rest (token_of (take n text)) token h in record { computed = parts.0; behind = parts.1 }

-- A text that is cut at a lexeme begins with the lexeme's token.
begins_by_cut : (n : ℕ) (text : List ℕ) (token : Token) → IsLexeme (take n text) token → StopsBefore (goes_on token) (drop n text) → Begins text token (drop n text)
begins_by_cut n text token is stops = record {
  gap = [];
  lexeme = take n text;
  joined = sym (take-append-drop n text);
  is_gap = refl;
  is_lexeme = is;
  longest = stops;
}

-- ---- names and reserved words

run_nonempty : (text : List ℕ) → is_ascii_alphabetic (slice_index text 0) ≡ true → 0 < prefix_len is_id_byte text
run_nonempty [] h = absurd (false≢true h)
run_nonempty (byte ∷ text) h = rw (letter_in_id byte h) (omega arith)

name_is : (run : List ℕ) (token : Token) → is_ascii_alphabetic (slice_index run 0) ≡ true → list_all is_id_byte run ≡ true → name_token run ≡ Some token
    → IsLexeme run token × (goes_on token ≡ is_id_byte)
unfolding name_token
name_is run token letter all h =
    elim (reserved_of run) as (λ found. reserved_of run ≡ found → word_or_name found run ≡ Some token → IsLexeme run token × (goes_on token ≡ is_id_byte)) [
      | Some reserved ↦ λ found e. subst (λ token. IsLexeme run token × (goes_on token ≡ is_id_byte)) (some_is e) (reserved_is run reserved found, refl)
      | None ↦ λ free e. elim (chosen (leb (length run) 32) (Some (t.Name run)) None (Some token) e) [
        | inl short ↦
            let within : length run ≤ 32 = (let e = short.0 in grind (arith, nat_tests)) in
            let is : IsName run = record { id = id_of_run run letter all within; free = reserved_free run free } in
            subst (λ token. IsLexeme run token × (goes_on token ≡ is_id_byte)) (some_is short.1) ((is, refl), refl)
        | inr long ↦ none_is long.1
      ]
    ] refl h
  where
    some_is : {A : Type 0} {x y : A} → Some x ≡ Some y → x ≡ y
    some_is e = cc

    none_is : {A : Type 0} {x : A} {P : Type 0} → None ≡ Some x → P
    none_is e = cc

-- a name or reserved word is read where the text begins with it
begins_by_name : (text : List ℕ) (token : Token) (rest : List ℕ) → is_ascii_alphabetic (slice_index text 0) ≡ true → name_at text ≡ Some (token, rest) → Begins text token rest
unfolding name_at
begins_by_name text token rest letter h =
    let n = prefix_len is_id_byte text in
    let split = split_of name_token n text token rest h in
    let first : is_ascii_alphabetic (slice_index (take n text) 0) ≡ true = rw (get_or-take n text 0 0 (run_nonempty text letter)) letter in
    let is = name_is (take n text) token first (run_passes is_id_byte text) split.computed in
    let stops : StopsBefore (goes_on token) (drop n text) = rw is.1 (run_stops is_id_byte text) in
    subst (λ rest. Begins text token rest) split.behind (begins_by_cut n text token is.0 stops)

-- ---- numerals

digits_nonempty : (text : List ℕ) → is_ascii_digit (slice_index text 0) ≡ true → 0 < prefix_len is_ascii_digit text
digits_nonempty [] h = absurd (false≢true h)
digits_nonempty (byte ∷ text) h = rw h (omega arith)

number_is : (digits : List ℕ) (token : Token) → 0 < length digits → list_all is_ascii_digit digits ≡ true → number_token digits ≡ Some token
    → IsLexeme digits token × (goes_on token ≡ is_ascii_digit)
unfolding number_token
number_is digits token some all h =
    elim (chosen (ltb 1 (length digits) && eqb (slice_index digits 0) 48) None (Some (t.Number (numeral_of (digits_value 10 digits)))) (Some token) h) [
      | inl leading ↦ let e = leading.1 in absurd cc
      | inr plain ↦
          let is : IsNumeral digits = record { some = some; digits = all; zero_alone = λ begins. (let e = plain.0 in grind (arith, nat_tests)) } in
          let same : t.Number (numeral_of (digits_value 10 digits)) ≡ token = (let e = plain.1 in cc) in
          subst (λ token. IsLexeme digits token × (goes_on token ≡ is_ascii_digit)) same ((is, refl), refl)
    ]

begins_by_number : (text : List ℕ) (token : Token) (rest : List ℕ) → is_ascii_digit (slice_index text 0) ≡ true → number_at text ≡ Some (token, rest) → Begins text token rest
unfolding number_at
begins_by_number text token rest digit h =
    let n = prefix_len is_ascii_digit text in
    let split = split_of number_token n text token rest h in
    let some : 0 < length (take n text) = rw (length-take-le n text (prefix_len-le-length is_ascii_digit text)) (digits_nonempty text digit) in
    let is = number_is (take n text) token some (run_passes is_ascii_digit text) split.computed in
    let stops : StopsBefore (goes_on token) (drop n text) = rw is.1 (run_stops is_ascii_digit text) in
    subst (λ rest. Begins text token rest) split.behind (begins_by_cut n text token is.0 stops)

-- ---- signs

-- the token of a sign's bytes is the sign
record IsSignToken (lexeme : List ℕ) (token : Token) : Type 0 where
  sign : Sign
  spelled : lexeme ≡ sign_text sign
  named : t.Sign sign ≡ token

sign_token_is : (lexeme : List ℕ) (token : Token) → sign_token lexeme ≡ Some token → IsSignToken lexeme token
unfolding sign_token
sign_token_is lexeme token h =
    elim (sign_of lexeme) as (λ found. sign_of lexeme ≡ found → option_map t.Sign found ≡ Some token → IsSignToken lexeme token) [
      | None ↦ λ found e. absurd cc
      | Some sign ↦ λ found e. record { sign = sign; spelled = sign_is lexeme sign found; named = cc }
    ] refl h

long_stops : (sign : Sign) (first second : ℕ) (more : List ℕ) → first ∷ second ∷ [] ≡ sign_text sign → StopsBefore (sign_goes_on sign) more
long_stops s.Less first second more e = absurd cc
long_stops s.Equals first second more e = absurd cc
long_stops _ first second more e = stops_never more

short_stops : (sign : Sign) (first second : ℕ) → (is_before_equals first && eqb second 61) ≡ false → first ∷ [] ≡ sign_text sign → sign_goes_on sign second ≡ false
short_stops s.Less first second short e =
    let is : first ≡ 60 = cc in let P : ℕ → Type 0 = λ first. (is_before_equals first && eqb second 61) ≡ false in subst P is short
short_stops s.Equals first second short e =
    let is : first ≡ 61 = cc in let P : ℕ → Type 0 = λ first. (is_before_equals first && eqb second 61) ≡ false in subst P is short
short_stops _ first second short e = refl

-- a sign as long as it goes stops there
sign_stops : (text : List ℕ) (sign : Sign) → take (sign_len text) text ≡ sign_text sign → StopsBefore (sign_goes_on sign) (drop (sign_len text) text)
unfolding sign_len
sign_stops [] sign e = tt
sign_stops (first ∷ []) sign e = tt
sign_stops (first ∷ second ∷ more) sign e =
    elim (is_before_equals first && eqb second 61)
    as (λ long. (is_before_equals first && eqb second 61) ≡ long → take (cond long 2 1) (first ∷ second ∷ more) ≡ sign_text sign
    → StopsBefore (sign_goes_on sign) (drop (cond long 2 1) (first ∷ second ∷ more))) [
      | true ↦ λ _ is. long_stops sign first second more is
      | false ↦ λ short is. short_stops sign first second short is
    ] refl e

begins_by_sign : (text : List ℕ) (token : Token) (rest : List ℕ) → sign_at text ≡ Some (token, rest) → Begins text token rest
unfolding sign_at
begins_by_sign text token rest h =
    let split = split_of sign_token (sign_len text) text token rest h in
    let is = sign_token_is (take (sign_len text) text) token split.computed in
    let begins = begins_by_cut (sign_len text) text (t.Sign is.sign) is.spelled (sign_stops text is.sign is.spelled) in
    subst (λ rest. Begins text token rest) split.behind (subst (λ token. Begins text token (drop (sign_len text) text)) is.named begins)

-- What is read at the front of a text is a token that the text begins with.
pub begins_with_read : (text : List ℕ) (token : Token) (rest : List ℕ) → first_token text ≡ Some (token, rest) → Begins text token rest
unfolding first_token
begins_with_read text token rest h =
    elim (chosen (is_ascii_alphabetic (slice_index text 0)) (name_at text) (cond (is_ascii_digit (slice_index text 0)) (number_at text) (sign_at text)) (Some (token, rest)) h) [
      | inl letter ↦ begins_by_name text token rest letter.0 letter.1
      | inr other ↦ elim (chosen (is_ascii_digit (slice_index text 0)) (number_at text) (sign_at text) (Some (token, rest)) other.1) [
        | inl digit ↦ begins_by_number text token rest digit.0 digit.1
        | inr sign ↦ begins_by_sign text token rest sign.1
      ]
    ]
