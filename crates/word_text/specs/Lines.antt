-- How a text is read line by line: what is found of a line, and where reading stops.
use Rattle.std.specs.Prelude.{◌≡◌, ◌≢◌, ℕ, Bool, true, false, List, ◌∷◌, ◌++◌, map, Option, Some}
use Rattle.std.specs.List.{list_all}
use Rattle.std.specs.List.{flat_map}
use Rattle.pec_text.specs.Line.{kept_lines, words}
use Rattle.word_text.specs.declared.token.Token.{Token}
use Rattle.word_text.specs.Words.{spelling, is_token, line_words}

-- a word that no token has
abbrev pub IsStrange : List ℕ → Type 0
IsStrange word = (t : Token) → is_token t ≡ true → spelling t ≢ Some word

-- words, among which is one that no token has
pub record HasStrange (all : List (Option (List ℕ))) : Type 0 where
  pub front : List (Option (List ℕ))
  pub word : List ℕ
  pub back : List (Option (List ℕ))
  pub in_order : all ≡ front ++ (Some word ∷ back)
  pub strange : IsStrange word

-- the tokens after are those before and those of these words
pub record Adds (all : List (Option (List ℕ))) (before after : List Token) : Type 0 where
  pub said : map spelling after ≡ map spelling before ++ all
  pub valid : list_all is_token before ≡ true → list_all is_token after ≡ true

abbrev pub LineRead : List ℕ → List Token → List Token → Bool → Type 0
LineRead line before after true = Adds (line_words line) before after
LineRead line before after false = HasStrange (line_words line)

-- ---- on the way: what is left, and the tokens of what was read
pub record LineSoFar (line rest : List ℕ) (before now : List Token) : Type 0 where
  pub front : List (List ℕ)
  pub cut : words line ≡ front ++ words rest
  pub said : map spelling now ≡ map spelling before ++ map Some front
  pub valid : list_all is_token before ≡ true → list_all is_token now ≡ true

pub record TextSoFar (text rest : List ℕ) (now : List Token) : Type 0 where
  pub front : List (List ℕ)
  pub cut : kept_lines text ≡ front ++ kept_lines rest
  pub said : map spelling now ≡ flat_map line_words front
  pub valid : list_all is_token now ≡ true
