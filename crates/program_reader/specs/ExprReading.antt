-- How an expression is read from the front of tokens, level by level of the grammar. `inner` reads an expression inside
-- parentheses and brackets. That what is read has a derivation tree, and that each tree is read, are theorems; public
-- contracts cite the trees.
use Rattle.std.specs.Prelude.{ℕ, zero, suc, List, [], ◌∷◌, length, Option, None, Some, ℤ}
use Rattle.toy_imp.specs.declared.param.Param.{Param}
use Rattle.toy_imp.specs.Expr.{Expr, num, add, sub, mul}
use Rattle.toy_imp.specs.ExprView.{exprs_of}
use Rattle.toy_imp.specs.Parameters.{cell_value}
use Rattle.pec_text.specs.declared.token.Sign.TheVariants as s
use Rattle.pec_text.specs.declared.token.Token.{Token}
use Rattle.pec_text.specs.declared.token.Token.TheVariants as t
use Rattle.program_reader.specs.Read.{Read, and_then, constant_of, negative_of}

module _ (inner : ℕ → List Token → Read Expr) where
  -- what follows an index: the closing bracket, or a comma and more indices
  abbrev pub behind_index : (ℕ → List Token → Read (List Expr)) → Expr → ℕ → List Token → Read (List Expr)
  behind_index more e k (t.Sign s.CloseBracket ∷ rest) = Some (e ∷ [], k, rest)
  behind_index more e k (t.Sign s.Comma ∷ rest) = and_then (more k rest) (λ es k rest. Some (e ∷ es, k, rest))
  behind_index more e k _ = None

  -- at most n indices and the closing bracket
  unfoldable pub indices_read : ℕ → ℕ → List Token → Read (List Expr)
  indices_read zero k tokens = None
  indices_read (suc n) k tokens = and_then (inner k tokens) (behind_index (λ k rest. indices_read n k rest))

  -- the indices behind a name, of which a variable has none
  unfoldable pub brackets_read : ℕ → List Token → Read (List Expr)
  brackets_read k (t.Sign s.OpenBracket ∷ rest) = indices_read 3 k rest
  brackets_read k rest = Some ([], k, rest)

-- the constant, where there is one
abbrev pub constant_read : Option ℤ → ℕ → List Token → Read Expr
constant_read None k rest = None
constant_read (Some z) k rest = Some (num z, k, rest)

-- what follows an expression in parentheses
abbrev pub closed : Expr → ℕ → List Token → Read Expr
closed e k (t.Sign s.CloseParen ∷ rest) = Some (e, k, rest)
closed e k _ = None

module _ (ps : List Param) (inner : ℕ → List Token → Read Expr) where
  unfoldable pub factor_read : ℕ → List Token → Read Expr
  factor_read k (t.Number m ∷ rest) = constant_read (constant_of m) k rest
  factor_read k (t.Sign s.Minus ∷ t.Number m ∷ rest) = constant_read (negative_of m) k rest
  factor_read k (t.Name x ∷ rest) = and_then (brackets_read inner k rest) (λ es k rest. Some (cell_value ps x (exprs_of es), k, rest))
  factor_read k (t.Sign s.OpenParen ∷ rest) = and_then (inner k rest) closed
  factor_read k _ = None

  -- the factors that follow a product, at most n of them; each takes one operator
  unfoldable pub products_read : ℕ → Expr → ℕ → List Token → Read Expr
  products_read (suc n) left (suc k) (t.Sign s.Star ∷ rest) = and_then (factor_read k rest) (λ e k rest. products_read n (mul left e) k rest)
  products_read (suc n) left zero (t.Sign s.Star ∷ rest) = None
  products_read n left k rest = Some (left, k, rest)

  unfoldable pub term_read : ℕ → List Token → Read Expr
  term_read k tokens = and_then (factor_read k tokens) (λ e k rest. products_read (length tokens) e k rest)

  -- the terms that follow a sum, at most n of them
  unfoldable pub sums_read : ℕ → Expr → ℕ → List Token → Read Expr
  sums_read (suc n) left (suc k) (t.Sign s.Plus ∷ rest) = and_then (term_read k rest) (λ e k rest. sums_read n (add left e) k rest)
  sums_read (suc n) left (suc k) (t.Sign s.Minus ∷ rest) = and_then (term_read k rest) (λ e k rest. sums_read n (sub left e) k rest)
  sums_read (suc n) left zero (t.Sign s.Plus ∷ rest) = None
  sums_read (suc n) left zero (t.Sign s.Minus ∷ rest) = None
  sums_read n left k rest = Some (left, k, rest)

  unfoldable pub sum_read : ℕ → List Token → Read Expr
  sum_read k tokens = and_then (term_read k tokens) (λ e k rest. sums_read (length tokens) e k rest)

-- an expression with fewer than d levels and at most k operators
unfoldable pub expr_read : List Param → ℕ → ℕ → List Token → Read Expr
expr_read ps zero k tokens = None
expr_read ps (suc d) k tokens = sum_read ps (λ k rest. expr_read ps d k rest) k tokens
