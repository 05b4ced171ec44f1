-- What a word spells: the token of a form, or nothing where it spells none; and how a word of the grammar is looked up.
use Rattle.std.specs.Prelude.{◌≡◌, ◌≢◌, ℕ, Bool, true, false, cond, List, [], ◌∷◌, map, Option, Some, None}
use Rattle.std.specs.Str.{bytes_eq}
use Rattle.word_text.specs.declared.token.Key.{Key}
use Rattle.word_text.specs.declared.token.Token.{Token}
use Rattle.word_text.specs.declared.token.Token.TheVariants as token
use Rattle.word_text.specs.Words.{key_word, keys, spelling, is_token}

abbrev pub lookup : List (List ℕ × Key) → List ℕ → Option Key
lookup [] word = None
lookup (entry ∷ more) word = cond (bytes_eq entry.0 word) (Some entry.1) (lookup more word)

unfoldable pub key_of : List ℕ → Option Key
key_of word = lookup (map (λ k. (key_word k, k)) keys) word

abbrev pub is_par : Token → Bool
is_par (token.Par k) = true
is_par _ = false

abbrev pub is_negative : Token → Bool
is_negative (token.Number true n) = true
is_negative _ = false

abbrev pub is_plain : Token → Bool
is_plain (token.Number false n) = true
is_plain _ = false

abbrev pub is_number : Token → Bool
is_number (token.Par k) = true
is_number (token.Number s n) = true
is_number _ = false

-- the token of the form that a word spells, or nothing where it spells none
abbrev pub Reads : (Token → Bool) → List ℕ → Option Token → Type 0
Reads form word (Some t) = (spelling t ≡ Some word) × (is_token t ≡ true)
Reads form word None = (t : Token) → form t ≡ true → is_token t ≡ true → spelling t ≢ Some word
