-- How declarations are read from the front of tokens, up to a token that is no word for a kind.
use Rattle.std.specs.Prelude.{ℕ, Bool, true, false, List, [], ◌∷◌, length, Option, None, Some}
use Rattle.toy_imp.specs.declared.param.Kind.{Kind}
use Rattle.toy_imp.specs.declared.param.Kind.TheVariants as kind
use Rattle.toy_imp.specs.declared.param.Param.{Param}
use Rattle.toy_imp.specs.RuleGrammar.{Declaration, declared_by}
use Rattle.pec_text.specs.declared.token.Sign.TheVariants as s
use Rattle.pec_text.specs.declared.token.Token.{Token}
use Rattle.pec_text.specs.declared.token.Token.TheVariants as t
use Rattle.pec_text.specs.declared.token.Word.TheVariants as w
use Rattle.program_reader.specs.Read.{ReadStmt, and_next}
use Rattle.rule_reader.specs.Front.{valued, name_read, items_read}

abbrev pub kind_read : List Token → ReadStmt Kind
kind_read (t.Word w.Name ∷ rest) = Some (kind.Name, rest)
kind_read (t.Word w.Expr ∷ rest) = Some (kind.Expr, rest)
kind_read (t.Word w.Test ∷ rest) = Some (kind.Test, rest)
kind_read (t.Word w.Stmt ∷ rest) = Some (kind.Stmt, rest)
kind_read _ = None

abbrev pub is_some : {A : Type 0} → Option A → Bool
is_some None = false
is_some (Some a) = true

abbrev pub is_declared : List Token → Bool
is_declared tokens = is_some (kind_read tokens)

-- the names up to the semicolon
unfoldable pub names_read : List Token → ReadStmt (List (List ℕ))
names_read (t.Name x ∷ rest) = valued (λ xs. x ∷ xs) (names_read rest)
names_read (t.Sign s.Semicolon ∷ rest) = Some ([], rest)
names_read _ = None

-- the declaration of these names
abbrev pub declaration_of : Kind → List ℕ → List (List ℕ) → Declaration
declaration_of k x xs = record { kind = k; first = x; others = xs }

-- what follows the word for a kind
abbrev pub declared_read : Kind → List Token → ReadStmt Declaration
declared_read k tokens = and_next (name_read tokens) (λ x rest. valued (declaration_of k x) (names_read rest))

abbrev pub declaration_read : List Token → ReadStmt Declaration
declaration_read tokens = and_next (kind_read tokens) declared_read

-- the parameter of this kind and name
abbrev pub param_of : Kind → List ℕ → Param
param_of k x = record { kind = k; name = x }

unfoldable pub params_read : List Token → ReadStmt (List Param)
params_read tokens = items_read is_declared (λ rest. valued declared_by (declaration_read rest)) (length tokens) tokens
