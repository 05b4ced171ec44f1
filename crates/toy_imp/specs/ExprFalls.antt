-- A child of an expression is of less depth than the expression.
-- This is why a recursion over expressions ends.
use Rattle.std.specs.Prelude.{ℕ, ◌+◌, ◌<◌, ◌≤◌, max, zero, suc, List, [], ◌∷◌, length}
use Rattle.std.proofs.Common.{arith, get_or}
use denote.Param.Weighed.{most}
use Rattle.toy_imp.specs.Expr.{Expr, depth, depths}
use Rattle.toy_imp.specs.ExprView.{expr_of, exprs_of}
use Rattle.toy_imp.specs.declared.expr.ExprNode.{ExprNode}
use Rattle.toy_imp.specs.declared.expr.ExprNode.TheVariants.{Num, At, Add, Sub, Mul, Par}
use Rattle.toy_imp.specs.declared.expr.Expr.TheDeep.{deep-ExprNode}

pub most_le : (es : List Expr) → most (λ e. depth e + 1) es ≤ depths (exprs_of es) + 1
most_le [] = omega arith
most_le (e ∷ es) = omega (arith, most_le es)

pub expr_falls : (a : ExprNode) → max (deep-ExprNode a) 0 ≤ depth (expr_of a)
expr_falls (Num z) = omega arith
expr_falls (At x es) = omega (arith, most_le es)
expr_falls (Add a b) = omega arith
expr_falls (Sub a b) = omega arith
expr_falls (Mul a b) = omega arith
expr_falls (Par k) = omega arith

pub expr_item : (es : List Expr) (k : ℕ) (d : Expr) → k < length es → depth (get_or es k d) ≤ depths (exprs_of es)
expr_item [] k d h = absurd (omega arith)
expr_item (e ∷ es) zero d h = omega arith
expr_item (e ∷ es) (suc k) d h = let below : depth (get_or es k d) ≤ depths (exprs_of es) = expr_item es k d (omega arith) in omega arith
