-- Expressions as plain trees: what a contract sees of an `Expr`.
-- Constants, cells with their indices, sums, differences, products, and parameters of a rule by number.
use Rattle.std.specs.Prelude.{ℕ, suc, max, ℤ}
use Rattle.toy_imp.specs.declared.name.Name.{Name}

mutual
  pub data Expr : Type 0 where
    num : ℤ → Expr
    at : Name → Exprs → Expr
    add : Expr → Expr → Expr
    sub : Expr → Expr → Expr
    mul : Expr → Expr → Expr
    par_expr : ℕ → Expr

  -- the indices of a cell
  pub data Exprs : Type 0 where
    no_exprs : Exprs
    expr : Expr → Exprs → Exprs

-- how many levels of nodes a tree has
abbrev mutual
  pub depth : Expr → ℕ
  depth (num z) = 1
  depth (at x es) = suc (depths es)
  depth (add a b) = suc (max (depth a) (depth b))
  depth (sub a b) = suc (max (depth a) (depth b))
  depth (mul a b) = suc (max (depth a) (depth b))
  depth (par_expr k) = 1

  pub depths : Exprs → ℕ
  depths no_exprs = 0
  depths (expr e es) = max (depth e) (depths es)
