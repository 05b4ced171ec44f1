-- The canonical tree of what a tree says has no more levels and no more operators than that tree: parentheses and brackets
-- stand only where each tree of this value has them. So what has a text within the limit of nesting has a canonical text within it.
use Rattle.std.proofs.Common.{ℕ, suc, ◌≤◌, List, Option, None, Some, arith}
use Rattle.toy_imp.specs.declared.param.Kind.{Kind}
use Rattle.toy_imp.specs.declared.param.Kind.TheVariants as kind
use Rattle.toy_imp.specs.declared.param.Param.{Param}
use Rattle.toy_imp.specs.Expr.{Exprs, no_exprs, expr}
use Rattle.toy_imp.specs.Parameters.{kind_of, name_value, cell_by}
use Rattle.toy_imp.specs.ExprGrammar.{ExprTree, term, plus, minus, TermTree, factor, times, FactorTree, numeral, negative, cell, group, PlaceTree, variable, index_1, index_2, index_3, place_name, expr_value, term_value, factor_value, indices_value, expr_levels, term_levels, factor_levels, place_levels, expr_operators, term_operators, factor_operators, place_operators, index_operators}
use Rattle.toy_imp.specs.TestGrammar.{TestTree, both, either, BothTree, one, also, OneTree, negated, bracketed, named_test, below, at_most, same, test_tree_value, both_value, one_value, test_levels, both_levels, one_levels, test_operators, both_operators, one_operators}
use Rattle.toy_imp.specs.BlockGrammar.{StmtTree, skipped, written, asserted, chosen, repeated, counted, bound, named_stmt, StmtsTree, no_stmts, stmts, stmt_tree_value, stmts_value, stmt_levels, stmts_levels, stmt_operators, stmts_operators, nesting_by, stmts_nesting}
use Rattle.toy_imp.specs.ExprCanonical.{written_name, as_term, as_factor, canonical_expr, canonical_place}
use Rattle.toy_imp.specs.TestCanonical.{as_both, as_one, canonical_test}
use Rattle.toy_imp.specs.BlockCanonical.{canonical_stmt, canonical_block}
use Rattle.toy_imp.proofs.Canonicals.{as_term-operators, as_factor-operators, as_both-operators, as_one-operators}

-- ---- parentheses and brackets are at most one level more
as_term-above : (a : ExprTree) → expr_levels a ≤ term_levels (as_term a)
as_term-above (term a) = omega arith
as_term-above (plus a b) = omega arith
as_term-above (minus a b) = omega arith

as_factor-above : (a : ExprTree) → term_levels (as_term a) ≤ factor_levels (as_factor a)
as_factor-above (term (factor a)) = omega arith
as_factor-above (term (times a b)) = omega arith
as_factor-above (plus a b) = omega arith
as_factor-above (minus a b) = omega arith

as_factor-below : (a : ExprTree) → factor_levels (as_factor a) ≤ suc (expr_levels a)
as_factor-below (term (factor a)) = omega arith
as_factor-below (term (times a b)) = omega arith
as_factor-below (plus a b) = omega arith
as_factor-below (minus a b) = omega arith

as_both-above : (a : TestTree) → test_levels a ≤ both_levels (as_both a)
as_both-above (both a) = omega arith
as_both-above (either a b) = omega arith

as_one-above : (a : TestTree) → both_levels (as_both a) ≤ one_levels (as_one a)
as_one-above (both (one a)) = omega arith
as_one-above (both (also a b)) = omega arith
as_one-above (either a b) = omega arith

as_one-below : (a : TestTree) → one_levels (as_one a) ≤ suc (test_levels a)
as_one-below (both (one a)) = omega arith
as_one-below (both (also a b)) = omega arith
as_one-below (either a b) = omega arith

-- ---- levels of expressions
-- a cell is a factor as it stands, and an expression parameter has no levels
cell-low : (o : Option Kind) (ps : List Param) (x : List ℕ) (es : Exprs) (most : ℕ) → ((y : List ℕ) → place_levels (canonical_place ps y es) ≤ most)
    → factor_levels (as_factor (canonical_expr ps (cell_by o ps x es))) ≤ most
cell-low None ps x no_exprs most h = omega arith
cell-low (Some kind.Name) ps x no_exprs most h = omega arith
cell-low (Some kind.Expr) ps x no_exprs most h = omega arith
cell-low (Some kind.Test) ps x no_exprs most h = omega arith
cell-low (Some kind.Stmt) ps x no_exprs most h = omega arith
cell-low None ps x (expr a es) most h = h _
cell-low (Some kind.Name) ps x (expr a es) most h = h _
cell-low (Some kind.Expr) ps x (expr a es) most h = h _
cell-low (Some kind.Test) ps x (expr a es) most h = h _
cell-low (Some kind.Stmt) ps x (expr a es) most h = h _

mutual
  pub expr-low : (ps : List Param) (a : ExprTree) → expr_levels (canonical_expr ps (expr_value ps a)) ≤ expr_levels a
  expr-low ps (term a) = omega (arith, as_term-above (canonical_expr ps (term_value ps a)), term-low ps a)
  expr-low ps (plus a b) = omega (arith, expr-low ps a, term-low ps b)
  expr-low ps (minus a b) = omega (arith, expr-low ps a, term-low ps b)

  term-low : (ps : List Param) (a : TermTree) → term_levels (as_term (canonical_expr ps (term_value ps a))) ≤ term_levels a
  term-low ps (factor a) = omega (arith, as_factor-above (canonical_expr ps (factor_value ps a)), factor-low ps a)
  term-low ps (times a b) = omega (arith, term-low ps a, factor-low ps b)

  factor-low : (ps : List Param) (a : FactorTree) → factor_levels (as_factor (canonical_expr ps (factor_value ps a))) ≤ factor_levels a
  factor-low ps (numeral n) = omega arith
  factor-low ps (negative n) = omega arith
  factor-low ps (cell a) = cell-low (kind_of ps (place_name a)) ps (place_name a) (indices_value ps a) (place_levels a) (place-low ps a)
  factor-low ps (group a) = omega (arith, as_factor-below (canonical_expr ps (expr_value ps a)), expr-low ps a)

  place-low : (ps : List Param) (a : PlaceTree) (y : List ℕ) → place_levels (canonical_place ps y (indices_value ps a)) ≤ place_levels a
  place-low ps (variable x) y = omega arith
  place-low ps (index_1 x a) y = omega (arith, expr-low ps a)
  place-low ps (index_2 x a b) y = omega (arith, expr-low ps a, expr-low ps b)
  place-low ps (index_3 x a b c) y = omega (arith, expr-low ps a, expr-low ps b, expr-low ps c)

-- ---- operators of expressions
cell-few : (o : Option Kind) (ps : List Param) (x : List ℕ) (es : Exprs) (most : ℕ) → ((y : List ℕ) → place_operators (canonical_place ps y es) ≤ most)
    → expr_operators (canonical_expr ps (cell_by o ps x es)) ≤ most
cell-few None ps x no_exprs most h = omega arith
cell-few (Some kind.Name) ps x no_exprs most h = omega arith
cell-few (Some kind.Expr) ps x no_exprs most h = omega arith
cell-few (Some kind.Test) ps x no_exprs most h = omega arith
cell-few (Some kind.Stmt) ps x no_exprs most h = omega arith
cell-few None ps x (expr a es) most h = h _
cell-few (Some kind.Name) ps x (expr a es) most h = h _
cell-few (Some kind.Expr) ps x (expr a es) most h = h _
cell-few (Some kind.Test) ps x (expr a es) most h = h _
cell-few (Some kind.Stmt) ps x (expr a es) most h = h _

mutual
  pub expr-few : (ps : List Param) (a : ExprTree) → expr_operators (canonical_expr ps (expr_value ps a)) ≤ expr_operators a
  expr-few ps (term a) = term-few ps a
  expr-few ps (plus a b) = omega (arith, as_term-operators (canonical_expr ps (term_value ps b)), expr-few ps a, term-few ps b)
  expr-few ps (minus a b) = omega (arith, as_term-operators (canonical_expr ps (term_value ps b)), expr-few ps a, term-few ps b)

  term-few : (ps : List Param) (a : TermTree) → expr_operators (canonical_expr ps (term_value ps a)) ≤ term_operators a
  term-few ps (factor a) = factor-few ps a
  term-few ps (times a b) =
      omega (arith, as_term-operators (canonical_expr ps (term_value ps a)), as_factor-operators (canonical_expr ps (factor_value ps b)), term-few ps a, factor-few ps b)

  factor-few : (ps : List Param) (a : FactorTree) → expr_operators (canonical_expr ps (factor_value ps a)) ≤ factor_operators a
  factor-few ps (numeral n) = omega arith
  factor-few ps (negative n) = omega arith
  factor-few ps (cell a) = cell-few (kind_of ps (place_name a)) ps (place_name a) (indices_value ps a) (place_operators a) (place-few ps a)
  factor-few ps (group a) = expr-few ps a

  place-few : (ps : List Param) (a : PlaceTree) (y : List ℕ) → place_operators (canonical_place ps y (indices_value ps a)) ≤ place_operators a
  place-few ps (variable x) y = omega arith
  place-few ps (index_1 x a) y = expr-few ps a
  place-few ps (index_2 x a b) y = omega (arith, expr-few ps a, expr-few ps b)
  place-few ps (index_3 x a b c) y = omega (arith, expr-few ps a, expr-few ps b, expr-few ps c)

index-few : (ps : List Param) (a : PlaceTree) (y : List ℕ) → index_operators (canonical_place ps y (indices_value ps a)) ≤ index_operators a
index-few ps (variable x) y = omega arith
index-few ps (index_1 x a) y = expr-few ps a
index-few ps (index_2 x a b) y = omega (arith, expr-few ps a, expr-few ps b)
index-few ps (index_3 x a b c) y = omega (arith, expr-few ps a, expr-few ps b, expr-few ps c)

-- ---- tests
mutual
  pub test-low : (ps : List Param) (a : TestTree) → test_levels (canonical_test ps (test_tree_value ps a)) ≤ test_levels a
  test-low ps (both a) = omega (arith, as_both-above (canonical_test ps (both_value ps a)), both-low ps a)
  test-low ps (either a b) = omega (arith, test-low ps a, both-low ps b)

  both-low : (ps : List Param) (a : BothTree) → both_levels (as_both (canonical_test ps (both_value ps a))) ≤ both_levels a
  both-low ps (one a) = omega (arith, as_one-above (canonical_test ps (one_value ps a)), one-low ps a)
  both-low ps (also a b) = omega (arith, both-low ps a, one-low ps b)

  one-low : (ps : List Param) (a : OneTree) → one_levels (as_one (canonical_test ps (one_value ps a))) ≤ one_levels a
  one-low ps (negated a) = omega (arith, one-low ps a)
  one-low ps (bracketed a) = omega (arith, as_one-below (canonical_test ps (test_tree_value ps a)), test-low ps a)
  one-low ps (named_test x) = omega arith
  one-low ps (below a b) = omega (arith, expr-low ps a, expr-low ps b)
  one-low ps (at_most a b) = omega (arith, expr-low ps a, expr-low ps b)
  one-low ps (same a b) = omega (arith, expr-low ps a, expr-low ps b)

mutual
  pub test-few : (ps : List Param) (a : TestTree) → test_operators (canonical_test ps (test_tree_value ps a)) ≤ test_operators a
  test-few ps (both a) = both-few ps a
  test-few ps (either a b) = omega (arith, as_both-operators (canonical_test ps (both_value ps b)), test-few ps a, both-few ps b)

  both-few : (ps : List Param) (a : BothTree) → test_operators (canonical_test ps (both_value ps a)) ≤ both_operators a
  both-few ps (one a) = one-few ps a
  both-few ps (also a b) =
      omega (arith, as_both-operators (canonical_test ps (both_value ps a)), as_one-operators (canonical_test ps (one_value ps b)), both-few ps a, one-few ps b)

  one-few : (ps : List Param) (a : OneTree) → test_operators (canonical_test ps (one_value ps a)) ≤ one_operators a
  one-few ps (negated a) = omega (arith, as_one-operators (canonical_test ps (one_value ps a)), one-few ps a)
  one-few ps (bracketed a) = test-few ps a
  one-few ps (named_test x) = omega arith
  one-few ps (below a b) = omega (arith, expr-few ps a, expr-few ps b)
  one-few ps (at_most a b) = omega (arith, expr-few ps a, expr-few ps b)
  one-few ps (same a b) = omega (arith, expr-few ps a, expr-few ps b)

-- ---- statements
mutual
  pub stmt-low : (ps : List Param) (a : StmtTree) → stmt_levels (canonical_stmt ps (stmt_tree_value ps a)) ≤ stmt_levels a
  stmt-low ps skipped = omega arith
  stmt-low ps (written a e) = omega (arith, place-low ps a (written_name ps (name_value ps (place_name a))), expr-low ps e)
  stmt-low ps (asserted t) = test-low ps t
  stmt-low ps (chosen t b c) = omega (arith, test-low ps t, stmts-low ps b, stmts-low ps c)
  stmt-low ps (repeated t b) = omega (arith, test-low ps t, stmts-low ps b)
  stmt-low ps (counted x lo hi b) = omega (arith, expr-low ps lo, expr-low ps hi, stmts-low ps b)
  stmt-low ps (bound x e b) = omega (arith, expr-low ps e, stmts-low ps b)
  stmt-low ps (named_stmt x) = omega arith

  pub stmts-low : (ps : List Param) (a : StmtsTree) → stmts_levels (canonical_block ps (stmts_value ps a)) ≤ stmts_levels a
  stmts-low ps no_stmts = omega arith
  stmts-low ps (stmts a more) = omega (arith, stmt-low ps a, stmts-low ps more)

mutual
  pub stmt-few : (ps : List Param) (a : StmtTree) → stmt_operators (canonical_stmt ps (stmt_tree_value ps a)) ≤ stmt_operators a
  stmt-few ps skipped = omega arith
  stmt-few ps (written a e) = omega (arith, index-few ps a (written_name ps (name_value ps (place_name a))), expr-few ps e)
  stmt-few ps (asserted t) = test-few ps t
  stmt-few ps (chosen t b c) = omega (arith, test-few ps t, stmts-few ps b, stmts-few ps c)
  stmt-few ps (repeated t b) = omega (arith, test-few ps t, stmts-few ps b)
  stmt-few ps (counted x lo hi b) = omega (arith, expr-few ps lo, expr-few ps hi, stmts-few ps b)
  stmt-few ps (bound x e b) = omega (arith, expr-few ps e, stmts-few ps b)
  stmt-few ps (named_stmt x) = omega arith

  pub stmts-few : (ps : List Param) (a : StmtsTree) → stmts_operators (canonical_block ps (stmts_value ps a)) ≤ stmts_operators a
  stmts-few ps no_stmts = omega arith
  stmts-few ps (stmts a more) = omega (arith, stmt-few ps a, stmts-few ps more)

-- ---- nesting
pub nesting-grows : (l o m p : ℕ) → l ≤ m → o ≤ p → nesting_by l o ≤ nesting_by m p
nesting-grows l o m p h g = omega arith

pub canonical_is_least : (ps : List Param) (a : StmtsTree) → stmts_nesting (canonical_block ps (stmts_value ps a)) ≤ stmts_nesting a
canonical_is_least ps a = nesting-grows _ _ _ _ (stmts-low ps a) (stmts-few ps a)
