-- The grammar of expressions as derivation trees: one type for each nonterminal, one constructor for each alternative.
-- Of a tree: its value under declared names, how many levels of parentheses and brackets it has, and how many binary operators.
use Rattle.std.specs.Prelude.{ℕ, suc, ◌+◌, ◌-◌, ◌^◌, max, min, List, pos, negsuc}
use Rattle.toy_imp.specs.declared.param.Param.{Param}
use Rattle.toy_imp.specs.Expr.{Expr, num, add, sub, mul, Exprs, no_exprs, expr}
use Rattle.toy_imp.specs.Parameters.{cell_value}

mutual
  -- expr : term | expr "+" term | expr "-" term
  pub data ExprTree : Type 0 where
    term : TermTree → ExprTree
    plus : ExprTree → TermTree → ExprTree
    minus : ExprTree → TermTree → ExprTree

  -- term : factor | term "*" factor
  pub data TermTree : Type 0 where
    factor : FactorTree → TermTree
    times : TermTree → FactorTree → TermTree

  -- factor : NUM | "-" NUM | place | "(" expr ")"; `negative n` is the numeral of n + 1 behind its sign, as `- 0` is none
  pub data FactorTree : Type 0 where
    numeral : ℕ → FactorTree
    negative : ℕ → FactorTree
    cell : PlaceTree → FactorTree
    group : ExprTree → FactorTree

  -- place : ID | ID "[" expr ("," expr)? ("," expr)? "]"
  pub data PlaceTree : Type 0 where
    variable : List ℕ → PlaceTree
    index_1 : List ℕ → ExprTree → PlaceTree
    index_2 : List ℕ → ExprTree → ExprTree → PlaceTree
    index_3 : List ℕ → ExprTree → ExprTree → ExprTree → PlaceTree

-- The greatest magnitude of a constant. A wider numeral counts as this one; its text is refused as too wide.
abbrev pub widest : ℕ
widest = 2 ^ 63 - 1

abbrev pub place_name : PlaceTree → List ℕ
place_name (variable x) = x
place_name (index_1 x a) = x
place_name (index_2 x a b) = x
place_name (index_3 x a b c) = x

abbrev mutual
  pub expr_value : List Param → ExprTree → Expr
  expr_value ps (term a) = term_value ps a
  expr_value ps (plus a b) = add (expr_value ps a) (term_value ps b)
  expr_value ps (minus a b) = sub (expr_value ps a) (term_value ps b)

  pub term_value : List Param → TermTree → Expr
  term_value ps (factor a) = factor_value ps a
  term_value ps (times a b) = mul (term_value ps a) (factor_value ps b)

  pub factor_value : List Param → FactorTree → Expr
  factor_value ps (numeral n) = num (pos (min n widest))
  factor_value ps (negative n) = num (negsuc (min n (widest - 1)))
  factor_value ps (cell a) = cell_value ps (place_name a) (indices_value ps a)
  factor_value ps (group a) = expr_value ps a

  pub indices_value : List Param → PlaceTree → Exprs
  indices_value ps (variable x) = no_exprs
  indices_value ps (index_1 x a) = expr (expr_value ps a) no_exprs
  indices_value ps (index_2 x a b) = expr (expr_value ps a) (expr (expr_value ps b) no_exprs)
  indices_value ps (index_3 x a b c) = expr (expr_value ps a) (expr (expr_value ps b) (expr (expr_value ps c) no_exprs))

-- the greatest number of parentheses and brackets round one place of the text
abbrev mutual
  pub expr_levels : ExprTree → ℕ
  expr_levels (term a) = term_levels a
  expr_levels (plus a b) = max (expr_levels a) (term_levels b)
  expr_levels (minus a b) = max (expr_levels a) (term_levels b)

  pub term_levels : TermTree → ℕ
  term_levels (factor a) = factor_levels a
  term_levels (times a b) = max (term_levels a) (factor_levels b)

  pub factor_levels : FactorTree → ℕ
  factor_levels (numeral n) = 0
  factor_levels (negative n) = 0
  factor_levels (cell a) = place_levels a
  factor_levels (group a) = suc (expr_levels a)

  pub place_levels : PlaceTree → ℕ
  place_levels (variable x) = 0
  place_levels (index_1 x a) = suc (expr_levels a)
  place_levels (index_2 x a b) = suc (max (expr_levels a) (expr_levels b))
  place_levels (index_3 x a b c) = suc (max (expr_levels a) (max (expr_levels b) (expr_levels c)))

-- how many binary operators the text has
abbrev mutual
  pub expr_operators : ExprTree → ℕ
  expr_operators (term a) = term_operators a
  expr_operators (plus a b) = suc (expr_operators a + term_operators b)
  expr_operators (minus a b) = suc (expr_operators a + term_operators b)

  pub term_operators : TermTree → ℕ
  term_operators (factor a) = factor_operators a
  term_operators (times a b) = suc (term_operators a + factor_operators b)

  pub factor_operators : FactorTree → ℕ
  factor_operators (numeral n) = 0
  factor_operators (negative n) = 0
  factor_operators (cell a) = place_operators a
  factor_operators (group a) = expr_operators a

  pub place_operators : PlaceTree → ℕ
  place_operators (variable x) = 0
  place_operators (index_1 x a) = expr_operators a
  place_operators (index_2 x a b) = expr_operators a + expr_operators b
  place_operators (index_3 x a b c) = expr_operators a + (expr_operators b + expr_operators c)

-- the greatest number of binary operators in one index of a written place, whose indices are part of no other expression
abbrev pub index_operators : PlaceTree → ℕ
index_operators (variable x) = 0
index_operators (index_1 x a) = expr_operators a
index_operators (index_2 x a b) = max (expr_operators a) (expr_operators b)
index_operators (index_3 x a b c) = max (expr_operators a) (max (expr_operators b) (expr_operators c))
