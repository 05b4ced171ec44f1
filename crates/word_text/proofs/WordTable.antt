-- A word of the grammar is found by its bytes, and each other token is told by the first byte of its word.
use Rattle.std.proofs.Common.{◌≡◌, ◌≢◌, ℕ, zero, suc, ◌<◌, ◌≤◌, ◌^◌, true, false, nat_lt, List, [], ◌∷◌, length, map, Option, Some, None, Result, Ok, Err, refl, sym, ap, ◌∙◌, subst, arith, inl, inr}
use Rattle.std.specs.Prelude.{decimal}
use Rattle.std.specs.Str.{bytes_eq}
use Rattle.std.specs.Char.{digit_value}
use Rattle.std.specs.Str.Parse.{digits_value, IsNumeral}
use Rattle.std.specs.Str.{IsUtf8}
use Rattle.std.specs.Str.Parse.{ParsesUnsigned}
use Rattle.std.proofs.lemmas.Fmt.{decimal_is_IsNumeral_wide, parse-decimal_wide, IsAscii-decimal_wide}
use Rattle.std.proofs.lemmas.Str.{IsUtf8-from_ascii}
use Rattle.std.proofs.lemmas.Bool.Decides.{nat_tests}
use Rattle.std.proofs.lemmas.Slice.Eq.{bytes_eq-Decides}
use Rattle.pec_text.proofs.Runs.{chosen}
use Rattle.word_text.specs.declared.token.Key.{Key}
use Rattle.word_text.specs.declared.token.Key.TheVariants as key
use Rattle.word_text.specs.declared.token.Token.{Token}
use Rattle.word_text.specs.declared.token.Token.TheVariants as token
use Rattle.word_text.specs.Words.{key_word, keys, spelling, is_token}
use Rattle.word_text.specs.WordLookup.{lookup, key_of, Reads, is_par, is_negative, is_plain, is_number}

lookup_is : (items : List Key) (word : List ℕ) (k : Key) → lookup (map (λ a. (key_word a, a)) items) word ≡ Some k → word ≡ key_word k
lookup_is [] word k h = cc
lookup_is (first ∷ items) word k h =
    elim (chosen (bytes_eq (key_word first) word) (Some first) (lookup (map (λ a. (key_word a, a)) items) word) (Some k) h) [
      | inl found ↦ let same : first ≡ k = (let e = found.1 in cc) in sym ((bytes_eq-Decides (key_word first) word).0 found.0) ∙ ap key_word same
      | inr other ↦ lookup_is items word k other.1
    ]

pub key_is : (word : List ℕ) (k : Key) → key_of word ≡ Some k → word ≡ key_word k
unfolding key_of
key_is word k h = lookup_is keys word k h

pub key_found : (k : Key) → key_of (key_word k) ≡ Some k
unfolding key_of
key_found k = elim k as (λ k. key_of (key_word k) ≡ Some k) [ key.L ↦ refl | _ ↦ refl ]

-- a number is told by its digits
pub decimal_is : (m n : ℕ) → m < 2 ^ 128 → n < 2 ^ 128 → decimal m ≡ decimal n → m ≡ n
decimal_is m n a b e = sym (decimal_is_IsNumeral_wide m (omega (arith, a))).1 ∙ ap (digits_value 10) e ∙ (decimal_is_IsNumeral_wide n (omega (arith, b))).1

-- a number begins with a digit
pub decimal_begins : (n b : ℕ) (digits : List ℕ) → n < 2 ^ 128 → decimal n ≡ b ∷ digits → digit_value b < 10
decimal_begins n b digits h e = let is = subst (λ ds. IsNumeral 10 ds) e (decimal_is_IsNumeral_wide n (omega (arith, h))).0 in is.1.0

no_digit : (b : ℕ) (n : ℕ) (digits : List ℕ) → n < 2 ^ 128 → 10 ≤ digit_value b → decimal n ≢ b ∷ digits
no_digit b n digits h big e = let small : digit_value b < 10 = decimal_begins n b digits h e in omega (arith, small, big)

same_word : (a b : List ℕ) → Some a ≡ Some b → a ≡ b
same_word a b e = cc

first_of : (a b : ℕ) (xs ys : List ℕ) → a ∷ xs ≡ b ∷ ys → a ≡ b
first_of a b xs ys e = cc

below : (n k : ℕ) → nat_lt n k ≡ true → n < k
below n k h = grind (arith, nat_tests, h)

-- ---- from the forms of numbers to all tokens
pub hash_form : (digits : List ℕ) (r : Option Token) → Reads is_par (35 ∷ digits) r → Reads is_number (35 ∷ digits) r
hash_form digits (Some t) h = h
hash_form digits None h = λ t. elim t as (λ t. is_number t ≡ true → is_token t ≡ true → spelling t ≢ Some (35 ∷ digits)) [
  | token.Par k ↦ λ f v e. h (token.Par k) refl v e
  | token.Number false n ↦ λ f v e. no_digit 35 n digits (below n (2 ^ 128) v) (omega arith) (same_word _ _ e)
  | token.Number true zero ↦ λ f v e. cc
  | token.Number true (suc n) ↦ λ f v e. let is : 45 ≡ 35 = first_of 45 35 _ _ (same_word _ _ e) in omega (arith, is)
  | token.Key k ↦ λ f v e. cc
  | token.End ↦ λ f v e. cc
]

pub minus_form : (digits : List ℕ) (r : Option Token) → Reads is_negative (45 ∷ digits) r → Reads is_number (45 ∷ digits) r
minus_form digits (Some t) h = h
minus_form digits None h = λ t. elim t as (λ t. is_number t ≡ true → is_token t ≡ true → spelling t ≢ Some (45 ∷ digits)) [
  | token.Par k ↦ λ f v e. let is : 35 ≡ 45 = first_of 35 45 _ _ (same_word _ _ e) in omega (arith, is)
  | token.Number false n ↦ λ f v e. no_digit 45 n digits (below n (2 ^ 128) v) (omega arith) (same_word _ _ e)
  | token.Number true n ↦ λ f v e. h (token.Number true n) refl v e
  | token.Key k ↦ λ f v e. cc
  | token.End ↦ λ f v e. cc
]

pub plain_form : (b : ℕ) (digits : List ℕ) (r : Option Token) → b ≢ 35 → b ≢ 45 → Reads is_plain (b ∷ digits) r → Reads is_number (b ∷ digits) r
plain_form b digits (Some t) hash minus h = h
plain_form b digits None hash minus h = λ t. elim t as (λ t. is_number t ≡ true → is_token t ≡ true → spelling t ≢ Some (b ∷ digits)) [
  | token.Par k ↦ λ f v e. hash (sym (first_of 35 b _ _ (same_word _ _ e)))
  | token.Number false n ↦ λ f v e. h (token.Number false n) refl v e
  | token.Number true n ↦ λ f v e. minus (sym (first_of 45 b _ _ (same_word _ _ e)))
  | token.Key k ↦ λ f v e. cc
  | token.End ↦ λ f v e. cc
]

pub nothing : (xs : List ℕ) → length xs ≡ 0 → xs ≡ []
nothing [] h = refl
nothing (x ∷ xs) h = absurd (omega (arith, h))

pub no_form : Reads is_number [] None
no_form = λ t. elim t as (λ t. is_number t ≡ true → is_token t ≡ true → spelling t ≢ Some []) [
  | token.Par k ↦ λ f v e. cc
  | token.Number false n ↦ λ f v e. let some : 0 < length (decimal n) = (decimal_is_IsNumeral_wide n (omega (arith, below n (2 ^ 128) v))).0.0 in let none : length (decimal n) ≡ 0 = ap (λ (ds : List ℕ). length ds) (same_word _ _ e) in omega (arith, some, none)
  | token.Number true n ↦ λ f v e. cc
  | token.Key k ↦ λ f v e. cc
  | token.End ↦ λ f v e. cc
]

pub any_form : (word : List ℕ) (r : Option Token) → key_of word ≡ None → Reads is_number word r → Reads is_token word r
any_form word (Some t) none h = h
any_form word None none h = λ t. elim t as (λ t. is_token t ≡ true → is_token t ≡ true → spelling t ≢ Some word) [
  | token.Key k ↦ λ f v e. let found : key_of word ≡ Some k = ap key_of (sym (same_word _ _ e)) ∙ key_found k in cc
  | token.Par k ↦ λ f v e. h (token.Par k) refl v e
  | token.Number s n ↦ λ f v e. h (token.Number s n) refl v e
  | token.End ↦ λ f v e. cc
]

pub key_form : (word : List ℕ) (k : Key) → key_of word ≡ Some k → Reads is_token word (Some (token.Key k))
key_form word k h = (ap (λ w. Some w) (sym (key_is word k h)), refl)

-- ---- digits that are no number
pub none_of_text : (ds : List ℕ) → ¬ (IsUtf8 ds) → (n : ℕ) → n < 2 ^ 128 → ds ≢ decimal n
none_of_text ds h n small e = h (subst (λ xs. IsUtf8 xs) (sym e) (IsUtf8-from_ascii (decimal n) (IsAscii-decimal_wide n (omega (arith, small)))))

pub parsed : {E : Type 0} (ds : List ℕ) (r : Result ℕ E) → ParsesUnsigned 128 10 ds r → (n : ℕ) → n < 2 ^ 128 → ds ≡ decimal n → r ≡ Ok n
parsed ds r h n small e = parse-decimal_wide 128 n ds r small (omega (arith, small)) e h

pub none_parsed : {E : Type 0} (ds : List ℕ) (error : E) → ParsesUnsigned 128 10 ds (Err error) → (n : ℕ) → n < 2 ^ 128 → ds ≢ decimal n
none_parsed ds error h n small e = let is = parsed ds (Err error) h n small e in cc

pub none_printed : {E : Type 0} (ds : List ℕ) (m : ℕ) (r : Result ℕ E) → ParsesUnsigned 128 10 ds r → r ≡ Ok m → ds ≢ decimal m → (n : ℕ) → n < 2 ^ 128 → ds ≢ decimal n
none_printed ds m r h is other n small e = let same : m ≡ n = (let both = sym is ∙ parsed ds r h n small e in cc) in other (e ∙ ap decimal (sym same))

-- zero has no sign
pub none_negative : (digits : List ℕ) → digits ≡ decimal 0 → Reads is_negative (45 ∷ digits) None
none_negative digits zero_is = λ t. elim t as (λ t. is_negative t ≡ true → is_token t ≡ true → spelling t ≢ Some (45 ∷ digits)) [
  | token.Number true zero ↦ λ f v e. cc
  | token.Number true (suc n) ↦ λ f v e. (
      let same : decimal (suc n) ≡ digits = (let word = same_word _ _ e in cc) in
      let is : suc n ≡ 0 = decimal_is (suc n) 0 (below (suc n) (2 ^ 128) v) (omega arith) (same ∙ zero_is) in
      omega (arith, is))
  | token.Number false n ↦ λ f v e. cc
  | token.Par k ↦ λ f v e. cc
  | token.Key k ↦ λ f v e. cc
  | token.End ↦ λ f v e. cc
]

-- a parameter has a number of 32 bits
pub none_par : (digits : List ℕ) (n : ℕ) → digits ≡ decimal n → n < 2 ^ 128 → 2 ^ 32 ≤ n → Reads is_par (35 ∷ digits) None
none_par digits n number small big = λ t. elim t as (λ t. is_par t ≡ true → is_token t ≡ true → spelling t ≢ Some (35 ∷ digits)) [
  | token.Par k ↦ λ f v e. (
      let same : decimal k ≡ digits = (let word = same_word _ _ e in cc) in
      let less : k < 2 ^ 32 = below k (2 ^ 32) v in
      let is : k ≡ n = decimal_is k n (omega (arith, less)) small (same ∙ number) in
      omega (arith, is, less, big))
  | token.Number s n ↦ λ f v e. cc
  | token.Key k ↦ λ f v e. cc
  | token.End ↦ λ f v e. cc
]
