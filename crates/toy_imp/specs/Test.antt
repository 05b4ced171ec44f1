-- Tests as plain trees: what a contract sees of a `Test`.
-- Comparisons of two expressions, `not`, `and`, `or`, and parameters of a rule by number.
use Rattle.std.specs.Prelude.{ℕ, suc, max}
use Rattle.toy_imp.specs.Expr.{Expr}

pub data Test : Type 0 where
  less : Expr → Expr → Test
  less_eq : Expr → Expr → Test
  equal : Expr → Expr → Test
  not_of : Test → Test
  and_of : Test → Test → Test
  or_of : Test → Test → Test
  par_test : ℕ → Test

-- how many levels of nodes a tree has; the expressions in it count for nothing
abbrev pub test_depth : Test → ℕ
test_depth (less a b) = 1
test_depth (less_eq a b) = 1
test_depth (equal a b) = 1
test_depth (not_of t) = suc (test_depth t)
test_depth (and_of t u) = suc (max (test_depth t) (test_depth u))
test_depth (or_of t u) = suc (max (test_depth t) (test_depth u))
test_depth (par_test k) = 1
