-- A parameter, by its kind and number, occurs in a tree that cites it.
-- A tree may hold parameters of several kinds: an expression those for names too, a block all four.
use Rattle.std.specs.Prelude.{◌≡◌, ◌⊎◌, ℕ}
use Rattle.toy_imp.specs.declared.name.Name.{Name}
use Rattle.toy_imp.specs.declared.name.Name.TheVariants.{Own, Par}
use Rattle.toy_imp.specs.declared.param.Kind.{Kind}
use Rattle.toy_imp.specs.declared.param.Kind.TheVariants as kind
use Rattle.toy_imp.specs.Expr.{Expr, num, at, add, sub, mul, par_expr, Exprs, no_exprs, expr}
use Rattle.toy_imp.specs.Test.{Test, less, less_eq, equal, not_of, and_of, or_of, par_test}
use Rattle.toy_imp.specs.Block.{Stmt, skip, put, assert_that, if_then, while_do, for_to, let_in, par_stmt, Block, empty, stmt}

abbrev pub OccursInName : Kind → ℕ → Name → Type 0
OccursInName c k (Own bytes) = ⊥
OccursInName c k (Par j) = (c ≡ kind.Name) × (k ≡ j)

abbrev mutual
  pub OccursInExpr : Kind → ℕ → Expr → Type 0
  OccursInExpr c k (num z) = ⊥
  OccursInExpr c k (at x es) = OccursInName c k x ⊎ OccursInExprs c k es
  OccursInExpr c k (add a b) = OccursInExpr c k a ⊎ OccursInExpr c k b
  OccursInExpr c k (sub a b) = OccursInExpr c k a ⊎ OccursInExpr c k b
  OccursInExpr c k (mul a b) = OccursInExpr c k a ⊎ OccursInExpr c k b
  OccursInExpr c k (par_expr j) = (c ≡ kind.Expr) × (k ≡ j)

  pub OccursInExprs : Kind → ℕ → Exprs → Type 0
  OccursInExprs c k no_exprs = ⊥
  OccursInExprs c k (expr e es) = OccursInExpr c k e ⊎ OccursInExprs c k es

abbrev pub OccursInTest : Kind → ℕ → Test → Type 0
OccursInTest c k (less a b) = OccursInExpr c k a ⊎ OccursInExpr c k b
OccursInTest c k (less_eq a b) = OccursInExpr c k a ⊎ OccursInExpr c k b
OccursInTest c k (equal a b) = OccursInExpr c k a ⊎ OccursInExpr c k b
OccursInTest c k (not_of t) = OccursInTest c k t
OccursInTest c k (and_of t u) = OccursInTest c k t ⊎ OccursInTest c k u
OccursInTest c k (or_of t u) = OccursInTest c k t ⊎ OccursInTest c k u
OccursInTest c k (par_test j) = (c ≡ kind.Test) × (k ≡ j)

abbrev mutual
  pub OccursInStmt : Kind → ℕ → Stmt → Type 0
  OccursInStmt c k skip = ⊥
  OccursInStmt c k (put x is e) = OccursInName c k x ⊎ (OccursInExprs c k is ⊎ OccursInExpr c k e)
  OccursInStmt c k (assert_that t) = OccursInTest c k t
  OccursInStmt c k (if_then t b d) = OccursInTest c k t ⊎ (Occurs c k b ⊎ Occurs c k d)
  OccursInStmt c k (while_do t b) = OccursInTest c k t ⊎ Occurs c k b
  OccursInStmt c k (for_to x lo hi b) = OccursInName c k x ⊎ (OccursInExpr c k lo ⊎ (OccursInExpr c k hi ⊎ Occurs c k b))
  OccursInStmt c k (let_in x e b) = OccursInName c k x ⊎ (OccursInExpr c k e ⊎ Occurs c k b)
  OccursInStmt c k (par_stmt j) = (c ≡ kind.Stmt) × (k ≡ j)

  pub Occurs : Kind → ℕ → Block → Type 0
  Occurs c k empty = ⊥
  Occurs c k (stmt s b) = OccursInStmt c k s ⊎ Occurs c k b
