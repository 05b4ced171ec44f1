-- The plain tree of an expression, from its top node whose children are trees already.
-- The indices are a list there and `Exprs` in the tree.
use Rattle.std.specs.Prelude.{List, [], ◌∷◌}
use Rattle.toy_imp.specs.Expr.{Expr, num, at, add, sub, mul, par_expr, Exprs, no_exprs, expr}
use Rattle.toy_imp.specs.declared.expr.ExprNode.{ExprNode}
use Rattle.toy_imp.specs.declared.expr.ExprNode.TheVariants.{Num, At, Add, Sub, Mul, Par}

abbrev pub exprs_of : List Expr → Exprs
exprs_of [] = no_exprs
exprs_of (e ∷ es) = expr e (exprs_of es)

abbrev pub expr_of : ExprNode → Expr
expr_of (Num z) = num z
expr_of (At x es) = at x (exprs_of es)
expr_of (Add a b) = add a b
expr_of (Sub a b) = sub a b
expr_of (Mul a b) = mul a b
expr_of (Par k) = par_expr k
