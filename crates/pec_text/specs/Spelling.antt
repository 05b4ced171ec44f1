-- When bytes spell a list of tokens: the lexemes of the tokens in order, each as long as it can be, with gaps between
-- them. A lexeme is the bytes of one token: a name, a reserved word, a numeral or a sign.
use Rattle.std.specs.Prelude.{◌≡◌, ◌≢◌, ℕ, ◌<◌, ◌≤◌, ◌^◌, Bool, true, false, ◌||◌, ◌==◌, nat_lt, if◌then◌else◌, List, [], ◌∷◌, ◌++◌, length, slice_index, codes}
use Rattle.std.specs.Char.{is_ascii_digit}
use Rattle.std.specs.List.{list_all}
use Rattle.std.specs.Str.Parse.{digits_value}
use Rattle.pec_text.specs.Byte.{is_id_byte}
use Rattle.pec_text.specs.Id.{is_id}
use Rattle.pec_text.specs.declared.token.Numeral.{Numeral}
use Rattle.pec_text.specs.declared.token.Numeral.TheVariants as n
use Rattle.pec_text.specs.declared.token.Sign.{Sign}
use Rattle.pec_text.specs.declared.token.Sign.TheVariants as s
use Rattle.pec_text.specs.declared.token.Token.{Token}
use Rattle.pec_text.specs.declared.token.Token.TheVariants as t
use Rattle.pec_text.specs.declared.token.Word.{Word}
use Rattle.pec_text.specs.declared.token.Word.TheVariants as w

-- Between tokens stand spaces, tabs and line feeds.
abbrev pub is_gap_byte : ℕ → Bool
is_gap_byte byte = byte == 32 || byte == 9 || byte == 10

-- The bytes of a reserved word.
abbrev pub word_text : Word → List ℕ
word_text w.Skip = codes "skip"
word_text w.Assert = codes "assert"
word_text w.If = codes "if"
word_text w.Else = codes "else"
word_text w.While = codes "while"
word_text w.For = codes "for"
word_text w.To = codes "to"
word_text w.Let = codes "let"
word_text w.Not = codes "not"
word_text w.And = codes "and"
word_text w.Or = codes "or"
word_text w.End = codes "end"
word_text w.Left = codes "left"
word_text w.Right = codes "right"
word_text w.Given = codes "given"
word_text w.Method = codes "method"
word_text w.Cuts = codes "cuts"
word_text w.None = codes "none"
word_text w.Name = codes "name"
word_text w.Expr = codes "expr"
word_text w.Test = codes "test"
word_text w.Stmt = codes "stmt"

-- The bytes of a sign.
abbrev pub sign_text : Sign → List ℕ
sign_text s.OpenBrace = codes "{"
sign_text s.CloseBrace = codes "}"
sign_text s.OpenParen = codes "("
sign_text s.CloseParen = codes ")"
sign_text s.OpenBracket = codes "["
sign_text s.CloseBracket = codes "]"
sign_text s.Semicolon = codes ";"
sign_text s.Comma = codes ","
sign_text s.Assign = codes ":="
sign_text s.Equals = codes "="
sign_text s.Plus = codes "+"
sign_text s.Minus = codes "-"
sign_text s.Star = codes "*"
sign_text s.Less = codes "<"
sign_text s.LessEq = codes "<="
sign_text s.DoubleEquals = codes "=="

-- A name is an ID that is no reserved word.
pub record IsName (lexeme : List ℕ) : Type 0 where
  pub id : is_id lexeme ≡ true
  pub free : (reserved : Word) → lexeme ≢ word_text reserved

-- A numeral is `0`, or digits of which the first is not 0.
pub record IsNumeral (lexeme : List ℕ) : Type 0 where
  pub some : 0 < length lexeme
  pub digits : list_all is_ascii_digit lexeme ≡ true
  pub zero_alone : slice_index lexeme 0 ≡ 48 → length lexeme ≡ 1

-- A numeral keeps a value below 2 ^ 63, and of another one that it is wide.
abbrev pub numeral_of : ℕ → Numeral
numeral_of value = if nat_lt value (2 ^ 63) then n.Value value else n.Wide

-- These bytes are the lexeme of a token.
abbrev pub IsLexeme : List ℕ → Token → Type 0
IsLexeme lexeme (t.Name name) = IsName lexeme × (name ≡ lexeme)
IsLexeme lexeme (t.Word reserved) = lexeme ≡ word_text reserved
IsLexeme lexeme (t.Number numeral) = IsNumeral lexeme × (numeral ≡ numeral_of (digits_value 10 lexeme))
IsLexeme lexeme (t.Sign sign) = lexeme ≡ sign_text sign

-- A sign goes on where a longer one begins with it: `<` and `=` before a `=`.
abbrev pub sign_goes_on : Sign → ℕ → Bool
sign_goes_on s.Less = λ byte. byte == 61
sign_goes_on s.Equals = λ byte. byte == 61
sign_goes_on _ = λ _. false

-- A name or reserved word goes on with letters, digits and `_`, a numeral with digits.
abbrev pub goes_on : Token → ℕ → Bool
goes_on (t.Name _) = is_id_byte
goes_on (t.Word _) = is_id_byte
goes_on (t.Number _) = is_ascii_digit
goes_on (t.Sign sign) = sign_goes_on sign

-- What goes on with some bytes stops before any other byte, and at the end of the text.
abbrev pub StopsBefore : (ℕ → Bool) → List ℕ → Type 0
StopsBefore goes_on [] = Unit {0}
StopsBefore goes_on (byte ∷ rest) = goes_on byte ≡ false

-- A text begins with a token: a gap, the token's lexeme as long as it can be, and the rest.
pub record Begins (bytes : List ℕ) (token : Token) (rest : List ℕ) : Type 0 where
  pub gap : List ℕ
  pub lexeme : List ℕ
  pub joined : bytes ≡ gap ++ (lexeme ++ rest)
  pub is_gap : list_all is_gap_byte gap ≡ true
  pub is_lexeme : IsLexeme lexeme token
  pub longest : StopsBefore (goes_on token) rest

-- A gap alone spells no token; a text that begins with a token, and then spells others, spells it and them.
abbrev pub Spells : List ℕ → List Token → Type 0
Spells bytes [] = list_all is_gap_byte bytes ≡ true
Spells bytes (token ∷ tokens) = (rest : List ℕ) × Begins bytes token rest × Spells rest tokens

-- The longest token is taken: where a lexeme stops before a byte that does not go on with its token, the text begins
-- with no longer lexeme.
abbrev pub TakesLongest : Type 0
TakesLongest = (lexeme rest front behind : List ℕ) (token other : Token)
    → IsLexeme lexeme token → StopsBefore (goes_on token) rest → IsLexeme front other → lexeme ++ rest ≡ front ++ behind → length front ≤ length lexeme

-- One text spells at most one list of tokens.
abbrev pub OneReading : Type 0
OneReading = (bytes : List ℕ) (tokens others : List Token) → Spells bytes tokens → Spells bytes others → tokens ≡ others
