-- How many nodes the term of an expression has at a store of n nodes, and the most that an outcome of a test has there.
-- proofs/NodesAt.antt says that the terms and outcomes themselves have as many.
use Rattle.std.specs.Prelude.{ℕ, suc, ◌+◌, max, Bool, true, false, not}
use Rattle.toy_imp.specs.Expr.{Expr, num, at, add, sub, mul, par_expr, Exprs, no_exprs, expr}
use Rattle.toy_imp.specs.Test.{Test, less, less_eq, equal, not_of, and_of, or_of, par_test}

unfoldable mutual
  pub expr_nodes : Expr → ℕ → ℕ
  expr_nodes (num z) n = 1
  expr_nodes (at x es) n = suc (exprs_nodes es n + n)
  expr_nodes (add a b) n = suc (expr_nodes a n + expr_nodes b n)
  expr_nodes (sub a b) n = suc (expr_nodes a n + expr_nodes b n)
  expr_nodes (mul a b) n = suc (expr_nodes a n + expr_nodes b n)
  expr_nodes (par_expr k) n = suc n

  pub exprs_nodes : Exprs → ℕ → ℕ
  exprs_nodes no_exprs n = 0
  exprs_nodes (expr e es) n = expr_nodes e n + exprs_nodes es n

-- with one for each literal of the outcome
unfoldable pub outcome_nodes : Test → Bool → ℕ → ℕ
outcome_nodes (less a b) way n = suc (expr_nodes a n + expr_nodes b n)
outcome_nodes (less_eq a b) way n = suc (expr_nodes a n + expr_nodes b n)
outcome_nodes (equal a b) way n = suc (expr_nodes a n + expr_nodes b n)
outcome_nodes (not_of t) way n = outcome_nodes t (not way) n
outcome_nodes (and_of t u) true n = outcome_nodes t true n + outcome_nodes u true n
outcome_nodes (and_of t u) false n = max (outcome_nodes t false n) (outcome_nodes t true n + outcome_nodes u false n)
outcome_nodes (or_of t u) true n = max (outcome_nodes t true n) (outcome_nodes t false n + outcome_nodes u true n)
outcome_nodes (or_of t u) false n = outcome_nodes t false n + outcome_nodes u false n
outcome_nodes (par_test k) way n = suc n
