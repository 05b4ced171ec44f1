-- The laws of words: canonical text has the tokens that were put, and a text has at most one list of tokens.
use Rattle.std.specs.Prelude.{◌≡◌, ℕ, true, false, List}
use Rattle.std.specs.List.{list_all}
use Rattle.word_text.specs.declared.token.Token.{Token}
use Rattle.word_text.specs.Words.{is_token, text_of, are_lines, Says}

-- of whole lines, each of which begins with a word of the grammar
abbrev pub TextReadsBack : Type 0
TextReadsBack = (ts : List Token) → are_lines false ts ≡ true → list_all is_token ts ≡ true → Says (text_of ts) ts

abbrev pub OneReading : Type 0
OneReading = (bytes : List ℕ) (ts us : List Token) → Says bytes ts → Says bytes us → ts ≡ us
