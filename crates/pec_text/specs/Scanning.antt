-- The token at the front of a text, as it is computed: how far its lexeme goes, and which token the lexeme is.
-- That it is the token which the text begins with is proved; public contracts cite that relation of Spelling.
use Rattle.std.specs.Prelude.{◌≡◌, ℕ, Bool, ◌&&◌, ◌||◌, ◌==◌, nat_lt, nat_le, if◌then◌else◌, List, [], ◌∷◌, length, map, take, drop, slice_index, Option, Some, None, Result, MatchResult}
use Rattle.std.specs.Char.{is_ascii_alphabetic, is_ascii_digit}
use Rattle.std.specs.List.{prefix_len}
use Rattle.std.specs.Option.{option_map}
use Rattle.std.specs.Str.{bytes_eq}
use Rattle.std.specs.Str.Parse.{digits_value}
use Rattle.pec_text.specs.declared.lexer.LexRefusal.{LexRefusal}
use Rattle.pec_text.specs.declared.lexer.LexRefusal.TheVariants.{NotTokens}
use Rattle.pec_text.specs.declared.token.Sign.{Sign}
use Rattle.pec_text.specs.declared.token.Sign.TheVariants as s
use Rattle.pec_text.specs.declared.token.Token.{Token}
use Rattle.pec_text.specs.declared.token.Token.TheVariants as t
use Rattle.pec_text.specs.declared.token.Word.{Word}
use Rattle.pec_text.specs.declared.token.Word.TheVariants as w
use Rattle.pec_text.specs.Byte.{is_id_byte}
use Rattle.pec_text.specs.Spelling.{is_gap_byte, word_text, sign_text, numeral_of}

-- the text behind the gap at its front
unfoldable pub after_gap : List ℕ → List ℕ
after_gap text = drop (prefix_len is_gap_byte text) text

-- `:`, `<` and `=` may stand before a `=` in one sign
abbrev pub is_before_equals : ℕ → Bool
is_before_equals byte = byte == 58 || byte == 60 || byte == 61

-- how far the sign at the front of a text goes: `:=`, `<=` and `==` have two bytes
unfoldable pub sign_len : List ℕ → ℕ
sign_len [] = 0
sign_len (first ∷ []) = 1
sign_len (first ∷ second ∷ text) = if is_before_equals first && second == 61 then 2 else 1

-- what a table has for a lexeme
abbrev pub lookup : {A : Type 0} → List (List ℕ × A) → List ℕ → Option A
lookup [] lexeme = None
lookup (entry ∷ table) lexeme = if bytes_eq entry.0 lexeme then Some entry.1 else lookup table lexeme

-- all reserved words
abbrev pub words : List Word
words = w.Skip ∷ w.Assert ∷ w.If ∷ w.Else ∷ w.While ∷ w.For ∷ w.To ∷ w.Let ∷ w.Not ∷ w.And ∷ w.Or ∷ w.End ∷ w.Left ∷ w.Right ∷ w.Given ∷ w.Method ∷ w.Cuts ∷ w.None ∷ w.Name ∷ w.Expr ∷ w.Test ∷ w.Stmt ∷ []

-- all signs
abbrev pub signs : List Sign
signs = s.OpenBrace ∷ s.CloseBrace ∷ s.OpenParen ∷ s.CloseParen ∷ s.OpenBracket ∷ s.CloseBracket ∷ s.Semicolon ∷ s.Comma ∷ s.Assign ∷ s.Equals ∷ s.Plus ∷ s.Minus ∷ s.Star ∷ s.Less ∷ s.LessEq ∷ s.DoubleEquals ∷ []

-- the reserved word that these bytes are
unfoldable pub reserved_of : List ℕ → Option Word
reserved_of = lookup (map (λ reserved. (word_text reserved, reserved)) words)

-- the sign that these bytes are
unfoldable pub sign_of : List ℕ → Option Sign
sign_of = lookup (map (λ sign. (sign_text sign, sign)) signs)

-- the token of a run that begins with a letter: the reserved word that it is, else a name of at most 32 bytes
abbrev pub word_or_name : Option Word → List ℕ → Option Token
word_or_name (Some reserved) run = Some (t.Word reserved)
word_or_name None run = if nat_le (length run) 32 then Some (t.Name run) else None

unfoldable pub name_token : List ℕ → Option Token
name_token run = word_or_name (reserved_of run) run

-- the token of a run of digits
unfoldable pub number_token : List ℕ → Option Token
number_token digits =
    if nat_lt 1 (length digits) && slice_index digits 0 == 48 then None else Some (t.Number (numeral_of (digits_value 10 digits)))

-- the token of the bytes of a sign
unfoldable pub sign_token : List ℕ → Option Token
sign_token lexeme = option_map t.Sign (sign_of lexeme)

-- a token, where there is one, and the text behind it
abbrev pub with_rest : List ℕ → Option Token → Option (Token × List ℕ)
with_rest rest None = None
with_rest rest (Some token) = Some (token, rest)

-- the token of the first `length` bytes, and the rest
abbrev pub split_token : (List ℕ → Option Token) → ℕ → List ℕ → Option (Token × List ℕ)
split_token token_of length text = with_rest (drop length text) (token_of (take length text))

-- the name or reserved word at the front of a text, the numeral and the sign there
unfoldable pub name_at : List ℕ → Option (Token × List ℕ)
name_at text = split_token name_token (prefix_len is_id_byte text) text

unfoldable pub number_at : List ℕ → Option (Token × List ℕ)
number_at text = split_token number_token (prefix_len is_ascii_digit text) text

unfoldable pub sign_at : List ℕ → Option (Token × List ℕ)
sign_at text = split_token sign_token (sign_len text) text

-- the token at the front of a text, told by the first byte, and the rest
unfoldable pub first_token : List ℕ → Option (Token × List ℕ)
first_token text =
    if is_ascii_alphabetic (slice_index text 0) then name_at text
    else if is_ascii_digit (slice_index text 0) then number_at text
    else sign_at text

-- The result, seen through `view`, is what is computed, and `NotTokens` comes where nothing is. Memory may be wanting.
abbrev pub Gives : {A B : Type 0} → (A → B) → Result A LexRefusal → Option B → Type 0
Gives view result computed = MatchResult result (λ x. computed ≡ Some (view x)) (λ refusal. refusal ≡ NotTokens → computed ≡ None)
