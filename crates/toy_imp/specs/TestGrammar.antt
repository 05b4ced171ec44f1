-- The grammar of tests as derivation trees: one type for each nonterminal, one constructor for each alternative.
-- Of a tree: its value under declared names, its levels (of `not`, brackets and parentheses), and its binary operators.
use Rattle.std.specs.Prelude.{ℕ, suc, ◌+◌, max, List}
use Rattle.toy_imp.specs.declared.param.Param.{Param}
use Rattle.toy_imp.specs.Test.{Test, less, less_eq, equal, not_of, and_of, or_of}
use Rattle.toy_imp.specs.ExprGrammar.{ExprTree, expr_value, expr_levels, expr_operators}
use Rattle.toy_imp.specs.Parameters.{test_value}

mutual
  -- test : both | test "or" both
  pub data TestTree : Type 0 where
    both : BothTree → TestTree
    either : TestTree → BothTree → TestTree

  -- both : one | both "and" one
  pub data BothTree : Type 0 where
    one : OneTree → BothTree
    also : BothTree → OneTree → BothTree

  -- one : "not" one | "[" test "]" | ID | expr "<" expr | expr "<=" expr | expr "==" expr
  pub data OneTree : Type 0 where
    negated : OneTree → OneTree
    bracketed : TestTree → OneTree
    named_test : List ℕ → OneTree
    below : ExprTree → ExprTree → OneTree
    at_most : ExprTree → ExprTree → OneTree
    same : ExprTree → ExprTree → OneTree

abbrev mutual
  pub test_tree_value : List Param → TestTree → Test
  test_tree_value ps (both a) = both_value ps a
  test_tree_value ps (either a b) = or_of (test_tree_value ps a) (both_value ps b)

  pub both_value : List Param → BothTree → Test
  both_value ps (one a) = one_value ps a
  both_value ps (also a b) = and_of (both_value ps a) (one_value ps b)

  pub one_value : List Param → OneTree → Test
  one_value ps (negated a) = not_of (one_value ps a)
  one_value ps (bracketed a) = test_tree_value ps a
  one_value ps (named_test x) = test_value ps x
  one_value ps (below a b) = less (expr_value ps a) (expr_value ps b)
  one_value ps (at_most a b) = less_eq (expr_value ps a) (expr_value ps b)
  one_value ps (same a b) = equal (expr_value ps a) (expr_value ps b)

-- the greatest number of `not`, brackets and parentheses round one place of the text
abbrev mutual
  pub test_levels : TestTree → ℕ
  test_levels (both a) = both_levels a
  test_levels (either a b) = max (test_levels a) (both_levels b)

  pub both_levels : BothTree → ℕ
  both_levels (one a) = one_levels a
  both_levels (also a b) = max (both_levels a) (one_levels b)

  pub one_levels : OneTree → ℕ
  one_levels (negated a) = suc (one_levels a)
  one_levels (bracketed a) = suc (test_levels a)
  one_levels (named_test x) = 0
  one_levels (below a b) = max (expr_levels a) (expr_levels b)
  one_levels (at_most a b) = max (expr_levels a) (expr_levels b)
  one_levels (same a b) = max (expr_levels a) (expr_levels b)

-- how many binary operators the text has, those of its expressions among them; comparisons are none
abbrev mutual
  pub test_operators : TestTree → ℕ
  test_operators (both a) = both_operators a
  test_operators (either a b) = suc (test_operators a + both_operators b)

  pub both_operators : BothTree → ℕ
  both_operators (one a) = one_operators a
  both_operators (also a b) = suc (both_operators a + one_operators b)

  pub one_operators : OneTree → ℕ
  one_operators (negated a) = one_operators a
  one_operators (bracketed a) = test_operators a
  one_operators (named_test x) = 0
  one_operators (below a b) = expr_operators a + expr_operators b
  one_operators (at_most a b) = expr_operators a + expr_operators b
  one_operators (same a b) = expr_operators a + expr_operators b
