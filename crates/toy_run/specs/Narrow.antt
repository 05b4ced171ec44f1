-- A step is narrow where every expression that it evaluates, with all its parts, has a value of 128 bits with its sign.
-- A test evaluates all its parts; a block that a test chooses is not evaluated, and a turn and a restoring evaluate nothing.
use Rattle.std.specs.Prelude.{ℤ, FitsSigned}
use Rattle.std.specs.Int.{w128}
use Rattle.toy_imp.specs.Store.{Store}
use Rattle.toy_imp.specs.Value.{value}
use Rattle.toy_imp.specs.Expr.{Expr, num, at, add, sub, mul, par_expr, Exprs, no_exprs, expr}
use Rattle.toy_imp.specs.Test.{Test, less, less_eq, equal, not_of, and_of, or_of, par_test}
use Rattle.toy_imp.specs.Block.{skip, put, assert_that, if_then, while_do, for_to, let_in, par_stmt}
use Rattle.toy_imp.specs.Run.{Item, act, turns, restore, halt}

-- from -2^127 to 2^127 - 1
abbrev pub IsNarrow : ℤ → Type 0
IsNarrow z = FitsSigned w128 z

unfoldable mutual
  pub NarrowExpr : Expr → Store → Type 0
  NarrowExpr (num z) s = IsNarrow (value (num z) s)
  NarrowExpr (at x es) s = NarrowExprs es s × IsNarrow (value (at x es) s)
  NarrowExpr (add a b) s = NarrowExpr a s × NarrowExpr b s × IsNarrow (value (add a b) s)
  NarrowExpr (sub a b) s = NarrowExpr a s × NarrowExpr b s × IsNarrow (value (sub a b) s)
  NarrowExpr (mul a b) s = NarrowExpr a s × NarrowExpr b s × IsNarrow (value (mul a b) s)
  NarrowExpr (par_expr k) s = IsNarrow (value (par_expr k) s)

  pub NarrowExprs : Exprs → Store → Type 0
  NarrowExprs no_exprs s = Unit {0}
  NarrowExprs (expr e es) s = NarrowExpr e s × NarrowExprs es s

unfoldable pub NarrowTest : Test → Store → Type 0
NarrowTest (less a b) s = NarrowExpr a s × NarrowExpr b s
NarrowTest (less_eq a b) s = NarrowExpr a s × NarrowExpr b s
NarrowTest (equal a b) s = NarrowExpr a s × NarrowExpr b s
NarrowTest (not_of t) s = NarrowTest t s
NarrowTest (and_of t u) s = NarrowTest t s × NarrowTest u s
NarrowTest (or_of t u) s = NarrowTest t s × NarrowTest u s
NarrowTest (par_test k) s = Unit {0}

-- the step that does this item in this store is narrow
unfoldable pub NarrowItem : Item → Store → Type 0
NarrowItem (act skip) s = Unit {0}
NarrowItem (act (put x is e)) s = NarrowExprs is s × NarrowExpr e s
NarrowItem (act (assert_that t)) s = NarrowTest t s
NarrowItem (act (if_then t b c)) s = NarrowTest t s
NarrowItem (act (while_do t b)) s = NarrowTest t s
NarrowItem (act (for_to x lo hi b)) s = NarrowExpr lo s × NarrowExpr hi s
NarrowItem (act (let_in x e b)) s = NarrowExpr e s
NarrowItem (act (par_stmt k)) s = Unit {0}
NarrowItem (turns x k hi b) s = Unit {0}
NarrowItem (restore x v) s = Unit {0}
NarrowItem halt s = Unit {0}
