-- How statements are read from the front of tokens. `inner` reads the statements of a block inside its braces; each
-- expression and test of a statement is part of no other and is read with the greatest number of operators.
use Rattle.std.specs.Prelude.{ℕ, zero, suc, Bool, true, false, List, [], ◌∷◌, length, Option, None, Some, if◌then◌else◌}
use Rattle.toy_imp.specs.declared.param.Param.{Param}
use Rattle.toy_imp.specs.Expr.{Expr}
use Rattle.toy_imp.specs.ExprView.{exprs_of}
use Rattle.toy_imp.specs.Test.{Test}
use Rattle.toy_imp.specs.Block.{Stmt, skip, put, assert_that, if_then, while_do, for_to, let_in, Block, empty, stmt}
use Rattle.toy_imp.specs.Parameters.{name_value, stmt_value}
use Rattle.pec_text.specs.declared.token.Sign.TheVariants as s
use Rattle.pec_text.specs.declared.token.Token.{Token}
use Rattle.pec_text.specs.declared.token.Token.TheVariants as t
use Rattle.pec_text.specs.declared.token.Word.TheVariants as w
use Rattle.program_reader.specs.Read.{Read, and_then, ReadStmt, and_next, alone, most_operators}
use Rattle.program_reader.specs.ExprReading.{expr_read, brackets_read}
use Rattle.program_reader.specs.TestReading.{test_read}

-- an expression and a test that are part of no other, where at most d more levels may be opened
unfoldable pub expr_alone : List Param → ℕ → List Token → ReadStmt Expr
expr_alone ps d tokens = alone (expr_read ps (suc d) most_operators tokens)

unfoldable pub test_alone : List Param → ℕ → List Token → ReadStmt Test
test_alone ps d tokens = alone (test_read ps (suc d) most_operators tokens)

-- an index of a written place, inside its brackets; it leaves the number of operators as it is
abbrev pub index_apart : List Param → ℕ → ℕ → List Token → Read Expr
index_apart ps d k tokens = and_then (expr_read ps d most_operators tokens) (λ e _ rest. Some (e, k, rest))

-- the indices of a written place
unfoldable pub written_indices : List Param → ℕ → List Token → ReadStmt (List Expr)
written_indices ps d tokens = alone (brackets_read (index_apart ps d) 0 tokens)

-- what follows the statements of a block
abbrev pub brace_closed : Block → List Token → ReadStmt Block
brace_closed b (t.Sign s.CloseBrace ∷ rest) = Some (b, rest)
brace_closed b _ = None

-- a written place's sign, its expression and the semicolon
abbrev pub ended : {A : Type 0} → (A → Stmt) → A → List Token → ReadStmt Stmt
ended made e (t.Sign s.Semicolon ∷ rest) = Some (made e, rest)
ended made e _ = None

-- whether no statement follows: at the end of the tokens and before a closing brace
abbrev pub is_end : List Token → Bool
is_end [] = true
is_end (t.Sign s.CloseBrace ∷ rest) = true
is_end _ = false

module _ (ps : List Param) (d : ℕ) (inner : List Token → ReadStmt Block) where
  -- a block in braces
  unfoldable pub block_read : List Token → ReadStmt Block
  block_read (t.Sign s.OpenBrace ∷ rest) = and_next (inner rest) brace_closed
  block_read _ = None

  -- what follows the indices of the written place of name x
  unfoldable pub assigned_read : List ℕ → List Expr → List Token → ReadStmt Stmt
  assigned_read x indices (t.Sign s.Assign ∷ rest) = and_next (expr_alone ps d rest) (ended (put (name_value ps x) (exprs_of indices)))
  assigned_read x indices _ = None

  -- what follows the first block of an `if`
  unfoldable pub else_read : Test → Block → List Token → ReadStmt Stmt
  else_read q b (t.Word w.Else ∷ rest) = and_next (block_read rest) (λ c rest. Some (if_then q b c, rest))
  else_read q b _ = None

  -- what follows the first value of a `for`
  unfoldable pub to_read : List ℕ → Expr → List Token → ReadStmt Stmt
  to_read x lo (t.Word w.To ∷ rest) = and_next (expr_alone ps d rest) (λ hi rest. and_next (block_read rest) (λ b rest. Some (for_to (name_value ps x) lo hi b, rest)))
  to_read x lo _ = None

  unfoldable pub stmt_read : List Token → ReadStmt Stmt
  stmt_read (t.Word w.Skip ∷ t.Sign s.Semicolon ∷ rest) = Some (skip, rest)
  stmt_read (t.Word w.Assert ∷ rest) = and_next (test_alone ps d rest) (ended assert_that)
  stmt_read (t.Word w.If ∷ rest) = and_next (test_alone ps d rest) (λ q rest. and_next (block_read rest) (λ b rest. else_read q b rest))
  stmt_read (t.Word w.While ∷ rest) = and_next (test_alone ps d rest) (λ q rest. and_next (block_read rest) (λ b rest. Some (while_do q b, rest)))
  stmt_read (t.Word w.For ∷ t.Name x ∷ t.Sign s.Equals ∷ rest) = and_next (expr_alone ps d rest) (to_read x)
  stmt_read (t.Word w.Let ∷ t.Name x ∷ t.Sign s.Equals ∷ rest) = and_next (expr_alone ps d rest) (λ e rest. and_next (block_read rest) (λ b rest. Some (let_in (name_value ps x) e b, rest)))
  stmt_read (t.Name x ∷ t.Sign s.Semicolon ∷ rest) = Some (stmt_value ps x, rest)
  stmt_read (t.Name x ∷ rest) = and_next (written_indices ps d rest) (assigned_read x)
  stmt_read _ = None

  -- the statements that follow, at most n of them
  unfoldable pub many_read : ℕ → List Token → ReadStmt Block
  many_read zero tokens = Some (empty, tokens)
  many_read (suc n) tokens = if is_end tokens then Some (empty, tokens) else and_next (stmt_read tokens) (λ a rest. and_next (many_read n rest) (λ b rest. Some (stmt a b, rest)))

-- statements with fewer than d levels, up to the end or a closing brace
unfoldable pub stmts_read : List Param → ℕ → List Token → ReadStmt Block
stmts_read ps zero tokens = None
stmts_read ps (suc d) tokens = many_read ps d (λ rest. stmts_read ps d rest) (length tokens) tokens

-- the statements of all tokens, with at most 64 levels
abbrev pub all_read : ReadStmt Block → Option Block
all_read (Some (b, [])) = Some b
all_read _ = None

-- the program of these tokens
unfoldable pub program_read : List Token → Option Block
program_read tokens = all_read (stmts_read [] 65 tokens)
