-- What is read from the front of tokens, part by part: a name, a semicolon, and items up to a token that begins none.
-- A part is read as its derivation tree, and `valued` gives what that stands for.
use Rattle.std.specs.Prelude.{ℕ, zero, suc, Bool, List, [], ◌∷◌, ◌++◌, Option, None, Some, option_map, if◌then◌else◌}
use Rattle.pec_text.specs.declared.token.Sign.TheVariants as s
use Rattle.pec_text.specs.declared.token.Token.{Token}
use Rattle.pec_text.specs.declared.token.Token.TheVariants as t
use Rattle.program_reader.specs.Read.{ReadStmt, and_next}

abbrev pub valued : {A B : Type 0} → (A → B) → ReadStmt A → ReadStmt B
valued value read = option_map (λ p. (value p.0, p.1)) read

-- what was found before stands in front
abbrev pub with_found : {A : Type 0} → List A → ReadStmt (List A) → ReadStmt (List A)
with_found found read = valued (λ more. found ++ more) read

abbrev pub name_read : List Token → ReadStmt (List ℕ)
name_read (t.Name x ∷ rest) = Some (x, rest)
name_read _ = None

abbrev pub two_names_read : List Token → ReadStmt (List ℕ × List ℕ)
two_names_read tokens = and_next (name_read tokens) (λ x rest. and_next (name_read rest) (λ y rest. Some ((x, y), rest)))

-- the tokens behind a semicolon
abbrev pub semicolon_read : List Token → Option (List Token)
semicolon_read (t.Sign s.Semicolon ∷ rest) = Some rest
semicolon_read _ = None

-- what was read, where a semicolon ends it
abbrev pub at_semicolon : {A : Type 0} → A → List Token → ReadStmt A
at_semicolon a tokens = option_map (λ rest. (a, rest)) (semicolon_read tokens)

-- at most n items one after another, each of some values, as long as the tokens go on with one
module _ {A : Type 0} (goes_on : List Token → Bool) (one : List Token → ReadStmt (List A)) where
  unfoldable pub items_read : ℕ → List Token → ReadStmt (List A)
  items_read zero tokens = Some ([], tokens)
  items_read (suc n) tokens = if goes_on tokens then and_next (one tokens) (λ a rest. with_found a (items_read n rest)) else Some ([], tokens)
