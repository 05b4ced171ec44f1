-- Parts of the reading of statements: what follows the words `for` and `let`, and in it the two values of a `for`.
use Rattle.std.specs.Prelude.{ℕ, List, ◌∷◌, None, Some}
use Rattle.toy_imp.specs.declared.param.Param.{Param}
use Rattle.toy_imp.specs.Expr.{Expr}
use Rattle.toy_imp.specs.Block.{Stmt, for_to, let_in, Block}
use Rattle.toy_imp.specs.Parameters.{name_value}
use Rattle.pec_text.specs.declared.token.Sign.TheVariants as s
use Rattle.pec_text.specs.declared.token.Token.{Token}
use Rattle.pec_text.specs.declared.token.Token.TheVariants as t
use Rattle.pec_text.specs.declared.token.Word.TheVariants as w
use Rattle.program_reader.specs.Read.{ReadStmt, and_next}
use Rattle.program_reader.specs.BlockReading.{expr_alone, block_read}
use Rattle.program_reader.specs.declared.block_reading.Bounds.{Bounds}

-- what follows the first value of a `for`, up to its block
abbrev pub to_bound : List Param → ℕ → Expr → List Token → ReadStmt Bounds
to_bound ps d low (t.Word w.To ∷ rest) = and_next (expr_alone ps d rest) (λ high rest. Some (record { low = low; high = high }, rest))
to_bound ps d low _ = None

-- the values between which a `for` counts
unfoldable pub bounds_read : List Param → ℕ → List Token → ReadStmt Bounds
bounds_read ps d tokens = and_next (expr_alone ps d tokens) (to_bound ps d)

-- a name and the `=` behind it
abbrev pub name_equals : List Token → ReadStmt (List ℕ)
name_equals (t.Name x ∷ t.Sign s.Equals ∷ rest) = Some (x, rest)
name_equals _ = None

module _ (ps : List Param) (d : ℕ) (inner : List Token → ReadStmt Block) where
  -- what follows the word `for`
  unfoldable pub for_read : List Token → ReadStmt Stmt
  for_read tokens =
      and_next (name_equals tokens) (λ x rest. and_next (bounds_read ps d rest) (λ p rest. and_next (block_read ps d inner rest) (λ b rest. Some (for_to (name_value ps x) p.low p.high b, rest))))

  -- what follows the word `let`
  unfoldable pub let_read : List Token → ReadStmt Stmt
  let_read tokens = and_next (name_equals tokens) (λ x rest. and_next (expr_alone ps d rest) (λ e rest. and_next (block_read ps d inner rest) (λ b rest. Some (let_in (name_value ps x) e b, rest))))
