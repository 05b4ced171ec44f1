-- The word of a token is a run of bytes without blanks and line feeds, and it is the word of no other token.
use Rattle.std.specs.Prelude.{◌≡◌, ◌≢◌, ◌&&◌, ◌||◌, ◌==◌, ◌<◌, ◌≤◌, ◌^◌, ℕ, zero, suc, Bool, true, false, not, List, [], ◌∷◌, length, Option, Some, None, decimal, nat_lt, refl}
use Rattle.std.proofs.Common.{sym, ap, ◌∙◌, subst, arith}
use Rattle.std.specs.Char.{digit_value}
use Rattle.std.specs.List.{list_all}
use Rattle.std.specs.Str.Parse.{AllDigits, IsNumeral}
use Rattle.std.proofs.lemmas.Bool.{and_from}
use Rattle.std.proofs.lemmas.Bool.Decides.{nat_tests}
use Rattle.std.proofs.lemmas.Fmt.{decimal_is_IsNumeral_wide}
use Rattle.std.proofs.lemmas.Str.Parse.{digit_from_value}
use Rattle.pec_text.specs.Byte.{is_blank}
use Rattle.word_text.specs.declared.token.Key.{Key}
use Rattle.word_text.specs.declared.token.Key.TheVariants as key
use Rattle.word_text.specs.declared.token.Token.{Token}
use Rattle.word_text.specs.declared.token.Token.TheVariants as token
use Rattle.word_text.specs.Words.{key_word, spelling, is_token}
use Rattle.word_text.specs.WordLookup.{key_of}
use Rattle.word_text.proofs.WordTable.{key_found, decimal_is}

-- a byte that stands in words
abbrev pub is_inner : ℕ → Bool
is_inner b = not (is_blank b) && not (b == 10)

abbrev pub is_some : List ℕ → Bool
is_some [] = false
is_some (b ∷ bs) = true

pub record IsRun (word : List ℕ) : Type 0 where
  pub some : is_some word ≡ true
  pub inner : list_all is_inner word ≡ true

key_run : (k : Key) → IsRun (key_word k)
key_run k = elim k as (λ k. IsRun (key_word k)) [ key.L ↦ record { some = refl; inner = refl } | _ ↦ record { some = refl; inner = refl } ]

inner_digit : (b : ℕ) → digit_value b < 10 → is_inner b ≡ true
inner_digit b h = let low = digit_from_value b h in grind (arith, nat_tests, low)

inner_digits : (ds : List ℕ) → AllDigits 10 ds → list_all is_inner ds ≡ true
inner_digits [] h = refl
inner_digits (b ∷ ds) h = and_from (is_inner b) (list_all is_inner ds) (inner_digit b h.0) (inner_digits ds h.1)

some_from : (ds : List ℕ) → 0 < length ds → is_some ds ≡ true
some_from [] h = absurd (omega (arith, h))
some_from (b ∷ ds) h = refl

small : (n k : ℕ) → nat_lt n k ≡ true → n < k
small n k h = grind (arith, nat_tests, h)

numeral : (n : ℕ) → n < 2 ^ 128 → IsNumeral 10 (decimal n)
numeral n h = (decimal_is_IsNumeral_wide n (omega (arith, h))).0

number_run : (n : ℕ) → n < 2 ^ 128 → IsRun (decimal n)
number_run n h = record { some = some_from (decimal n) (numeral n h).0; inner = inner_digits (decimal n) (numeral n h).1 }

-- a sign in front
signed_run : (b n : ℕ) → is_inner b ≡ true → n < 2 ^ 128 → IsRun (b ∷ decimal n)
signed_run b n i h = record { some = refl; inner = and_from (is_inner b) (list_all is_inner (decimal n)) i (inner_digits (decimal n) (numeral n h).1) }

-- the word of a token that is no end of a line
abbrev pub word_of : Option (List ℕ) → List ℕ
word_of None = []
word_of (Some word) = word

abbrev pub IsRunOr : Option (List ℕ) → Type 0
IsRunOr None = Unit {0}
IsRunOr (Some word) = IsRun word

pub token_run : (t : Token) → is_token t ≡ true → IsRunOr (spelling t)
token_run (token.Key k) h = key_run k
token_run (token.Number false n) h = number_run n (small n (2 ^ 128) h)
token_run (token.Number true zero) h = cc
token_run (token.Number true (suc n)) h = signed_run 45 (suc n) refl (small (suc n) (2 ^ 128) h)
token_run (token.Par k) h = signed_run 35 k refl (let less = small k (2 ^ 32) h in omega (arith, less))
token_run token.End h = tt

-- ---- one token for a word
-- whether a word is that of a number or a parameter, by its first bytes
abbrev is_numeric : List ℕ → Bool
is_numeric [] = false
is_numeric (b ∷ bs) = nat_lt (digit_value b) 10 || (b == 35 || (b == 45 && is_some bs))

key_numeric : (k : Key) → is_numeric (key_word k) ≡ false
key_numeric k = elim k as (λ k. is_numeric (key_word k) ≡ false) [ key.L ↦ refl | _ ↦ refl ]

digits_numeric : (ds : List ℕ) → IsNumeral 10 ds → is_numeric ds ≡ true
digits_numeric [] h = absurd (omega (arith, h.0))
digits_numeric (b ∷ ds) h =
    let low = h.1.0 in
    let is : nat_lt (digit_value b) 10 ≡ true = grind (arith, nat_tests, low) in
    ap (λ v. v || (b == 35 || (b == 45 && is_some ds))) is

same_words : (a b : List ℕ) → Some a ≡ Some b → a ≡ b
same_words a b e = cc

-- the words of a word of the grammar and of a number differ
no_key : (k : Key) (word : List ℕ) → is_numeric word ≡ true → key_word k ≢ word
no_key k word h e = let no = key_numeric k in let yes : is_numeric (key_word k) ≡ true = ap is_numeric e ∙ h in cc

key_one : (k j : Key) → key_word k ≡ key_word j → k ≡ j
key_one k j e = let both : Some k ≡ Some j = sym (key_found k) ∙ ap key_of e ∙ key_found j in cc

digit_first : (n b : ℕ) (bs : List ℕ) → n < 2 ^ 128 → 10 ≤ digit_value b → decimal n ≢ b ∷ bs
digit_first n b bs h big e = let is = subst (λ ds. IsNumeral 10 ds) e (numeral n h) in let low = is.1.0 in omega (arith, low, big)

rest_of : (a b : ℕ) (xs ys : List ℕ) → a ∷ xs ≡ b ∷ ys → xs ≡ ys
rest_of a b xs ys e = cc

numeric_minus : (n : ℕ) → n < 2 ^ 128 → is_numeric (45 ∷ decimal n) ≡ true
numeric_minus n h = ap (λ v. v) (some_from (decimal n) (numeral n h).0)

pub one_token : (t u : Token) → is_token t ≡ true → is_token u ≡ true → spelling t ≡ spelling u → t ≡ u
one_token (token.Key k) (token.Key j) a b e = ap (λ i. token.Key i) (key_one k j (same_words _ _ e))
one_token (token.Key k) (token.Number false n) a b e = absurd (no_key k (decimal n) (digits_numeric (decimal n) (numeral n (small n (2 ^ 128) b))) (same_words _ _ e))
one_token (token.Key k) (token.Number true zero) a b e = cc
one_token (token.Key k) (token.Number true (suc n)) a b e = absurd (no_key k (45 ∷ decimal (suc n)) (numeric_minus (suc n) (small (suc n) (2 ^ 128) b)) (same_words _ _ e))
one_token (token.Key k) (token.Par j) a b e = absurd (no_key k (35 ∷ decimal j) refl (same_words _ _ e))
one_token (token.Key k) token.End a b e = cc
one_token (token.Number false n) (token.Key j) a b e = absurd (no_key j (decimal n) (digits_numeric (decimal n) (numeral n (small n (2 ^ 128) a))) (sym (same_words _ _ e)))
one_token (token.Number false n) (token.Number false m) a b e = ap (λ i. token.Number false i) (decimal_is n m (small n (2 ^ 128) a) (small m (2 ^ 128) b) (same_words _ _ e))
one_token (token.Number false n) (token.Number true zero) a b e = cc
one_token (token.Number false n) (token.Number true (suc m)) a b e = absurd (digit_first n 45 (decimal (suc m)) (small n (2 ^ 128) a) (omega arith) (same_words _ _ e))
one_token (token.Number false n) (token.Par j) a b e = absurd (digit_first n 35 (decimal j) (small n (2 ^ 128) a) (omega arith) (same_words _ _ e))
one_token (token.Number false n) token.End a b e = cc
one_token (token.Number true zero) u a b e = cc
one_token (token.Number true (suc n)) (token.Key j) a b e = absurd (no_key j (45 ∷ decimal (suc n)) (numeric_minus (suc n) (small (suc n) (2 ^ 128) a)) (sym (same_words _ _ e)))
one_token (token.Number true (suc n)) (token.Number false m) a b e = absurd (digit_first m 45 (decimal (suc n)) (small m (2 ^ 128) b) (omega arith) (sym (same_words _ _ e)))
one_token (token.Number true (suc n)) (token.Number true zero) a b e = cc
one_token (token.Number true (suc n)) (token.Number true (suc m)) a b e =
    ap (λ i. token.Number true i) (decimal_is (suc n) (suc m) (small (suc n) (2 ^ 128) a) (small (suc m) (2 ^ 128) b) (rest_of 45 45 _ _ (same_words _ _ e)))
one_token (token.Number true (suc n)) (token.Par j) a b e = let words = same_words _ _ e in cc
one_token (token.Number true (suc n)) token.End a b e = cc
one_token (token.Par k) (token.Key j) a b e = absurd (no_key j (35 ∷ decimal k) refl (sym (same_words _ _ e)))
one_token (token.Par k) (token.Number false m) a b e = absurd (digit_first m 35 (decimal k) (small m (2 ^ 128) b) (omega arith) (sym (same_words _ _ e)))
one_token (token.Par k) (token.Number true zero) a b e = cc
one_token (token.Par k) (token.Number true (suc m)) a b e = let words = same_words _ _ e in cc
one_token (token.Par k) (token.Par j) a b e =
    let low = small k (2 ^ 32) a in
    let less = small j (2 ^ 32) b in
    ap (λ i. token.Par i) (decimal_is k j (omega (arith, low)) (omega (arith, less)) (rest_of 35 35 _ _ (same_words _ _ e)))
one_token (token.Par k) token.End a b e = cc
one_token token.End (token.Key j) a b e = cc
one_token token.End (token.Number false m) a b e = cc
one_token token.End (token.Number true zero) a b e = cc
one_token token.End (token.Number true (suc m)) a b e = cc
one_token token.End (token.Par j) a b e = cc
one_token token.End token.End a b e = refl
