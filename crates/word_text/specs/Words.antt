-- How words are spelled, and which words a text has: those of its lines that count, with the end of the line behind those of each.
-- A `+` or `-` that stands alone is a word of the grammar; a number has no zero in front, and `-0` is none.
use Rattle.std.specs.Prelude.{◌≡◌, ◌^◌, ℕ, zero, suc, Bool, true, false, not, List, [], ◌∷◌, ◌++◌, map, flat_map, codes, decimal, nat_lt, Option, Some, None}
use Rattle.std.specs.List.{list_all}
use Rattle.pec_text.specs.Line.{kept_lines, words}
use Rattle.word_text.specs.declared.token.Key.{Key}
use Rattle.word_text.specs.declared.token.Key.TheVariants as key
use Rattle.word_text.specs.declared.token.Token.{Token}
use Rattle.word_text.specs.declared.token.Token.TheVariants as token

abbrev pub key_word : Key → List ℕ
key_word key.Plus = codes "+"
key_word key.Minus = codes "-"
key_word key.L = codes "L"
key_word key.R = codes "R"
key_word key.Put = codes "put"
key_word key.Run = codes "run"
key_word key.Num = codes "num"
key_word key.Get = codes "get"
key_word key.Ev = codes "ev"
key_word key.Add = codes "add"
key_word key.Sub = codes "sub"
key_word key.Mul = codes "mul"
key_word key.Name = codes "name"
key_word key.Store = codes "store"
key_word key.Value = codes "value"
key_word key.Most = codes "most"
key_word key.Ends = codes "ends"
key_word key.Holds = codes "holds"
key_word key.Conj = codes "conj"
key_word key.Then = codes "then"
key_word key.False = codes "false"
key_word key.Format = codes "format"
key_word key.Simulate = codes "simulate"
key_word key.Terms = codes "terms"
key_word key.Entries = codes "entries"
key_word key.Entry = codes "entry"
key_word key.Proofs = codes "proofs"
key_word key.Proof = codes "proof"
key_word key.Split = codes "split"
key_word key.Leaf = codes "leaf"
key_word key.Step = codes "step"
key_word key.Given = codes "given"
key_word key.Known = codes "known"
key_word key.Refl = codes "refl"
key_word key.Flip = codes "flip"
key_word key.Chain = codes "chain"
key_word key.Alike = codes "alike"
key_word key.Carry = codes "carry"
key_word key.Law = codes "law"
key_word key.Meet = codes "meet"
key_word key.Sum = codes "sum"
key_word key.Of = codes "of"
key_word key.Back = codes "back"
key_word key.Off = codes "off"
key_word key.OffBack = codes "offback"

-- all words of the grammar that are no numbers
abbrev pub keys : List Key
keys = key.Plus ∷ key.Minus ∷ key.L ∷ key.R ∷ key.Put ∷ key.Run ∷ key.Num ∷ key.Get ∷ key.Ev ∷ key.Add ∷ key.Sub ∷ key.Mul ∷ key.Name ∷ key.Store ∷ key.Value ∷ key.Most ∷ key.Ends ∷ key.Holds ∷ key.Conj ∷ key.Then ∷ key.False ∷ key.Format ∷ key.Simulate ∷ key.Terms ∷ key.Entries ∷ key.Entry ∷ key.Proofs ∷ key.Proof ∷ key.Split ∷ key.Leaf ∷ key.Step ∷ key.Given ∷ key.Known ∷ key.Refl ∷ key.Flip ∷ key.Chain ∷ key.Alike ∷ key.Carry ∷ key.Law ∷ key.Meet ∷ key.Sum ∷ key.Of ∷ key.Back ∷ key.Off ∷ key.OffBack ∷ []

-- the bytes of a word; nothing for the end of a line
abbrev pub spelling : Token → Option (List ℕ)
spelling (token.Key k) = Some (key_word k)
spelling (token.Number false n) = Some (decimal n)
spelling (token.Number true n) = Some (45 ∷ decimal n)
spelling (token.Par k) = Some (35 ∷ decimal k)
spelling token.End = None

-- a number has 128 bits and zero no sign, the number of a parameter has 32 bits
abbrev pub is_token : Token → Bool
is_token (token.Key k) = true
is_token (token.Number false n) = nat_lt n (2 ^ 128)
is_token (token.Number true zero) = false
is_token (token.Number true (suc n)) = nat_lt (suc n) (2 ^ 128)
is_token (token.Par k) = nat_lt k (2 ^ 32)
is_token token.End = true

abbrev pub line_words : List ℕ → List (Option (List ℕ))
line_words line = map Some (words line) ++ None ∷ []

abbrev pub text_words : List ℕ → List (Option (List ℕ))
text_words bytes = flat_map line_words (kept_lines bytes)

-- the words of the text are these tokens
pub record Says (bytes : List ℕ) (ts : List Token) : Type 0 where
  pub said : map spelling ts ≡ text_words bytes
  pub valid : list_all is_token ts ≡ true

-- the tokens of a text, or nothing where some word is no token
abbrev pub AreTokens : List ℕ → Option (List Token) → Type 0
AreTokens bytes (Some ts) = Says bytes ts
AreTokens bytes None = (ts : List Token) → ¬ (Says bytes ts)

-- ---- canonical text: one space between the words of a line, and a line feed behind each line
-- the bytes of a word, a space in front where a word of its line stands before it
abbrev pub placed : Bool → Option (List ℕ) → List ℕ
placed before None = 10 ∷ []
placed false (Some word) = word
placed true (Some word) = 32 ∷ word

abbrev pub is_end : Token → Bool
is_end token.End = true
is_end _ = false

-- .. of words, where a word of the first line stands before them or not
unfoldable pub text_behind : Bool → List Token → List ℕ
text_behind before [] = []
text_behind before (t ∷ ts) = placed before (spelling t) ++ text_behind (not (is_end t)) ts

abbrev pub text_of : List Token → List ℕ
text_of ts = text_behind false ts

-- whole lines, of which each begins with a word of the grammar
unfoldable pub are_lines : Bool → List Token → Bool
are_lines before [] = not before
are_lines false (token.Key k ∷ ts) = are_lines true ts
are_lines false (t ∷ ts) = false
are_lines true (t ∷ ts) = are_lines (not (is_end t)) ts
