-- The canonical tree of an expression: the derivation of its canonical text, in which a declared parameter stands by its name.
-- Parentheses stand exactly round a right operand of `+` or `-` that is a sum or difference, an operand of `*` that is a sum
-- or difference, and a right operand of `*` that is a product.
use Rattle.std.specs.Prelude.{ℕ, zero, suc, List, [], ◌∷◌, ℤ, pos, negsuc}
use Rattle.toy_imp.specs.declared.name.Name.{Name}
use Rattle.toy_imp.specs.declared.name.Name.TheVariants.{Own, Par}
use Rattle.toy_imp.specs.declared.param.Param.{Param}
use Rattle.toy_imp.specs.Expr.{Expr, num, at, add, sub, mul, par_expr, Exprs, no_exprs, expr}
use Rattle.toy_imp.specs.ExprGrammar.{ExprTree, term, plus, minus, TermTree, factor, times, FactorTree, numeral, negative, cell, group, PlaceTree, variable, index_1, index_2, index_3}

-- the name of the parameter with this number, and the empty name where there is none
abbrev pub declared_name : List Param → ℕ → List ℕ
declared_name [] k = []
declared_name (p ∷ ps) zero = p.name
declared_name (p ∷ ps) (suc k) = declared_name ps k

-- how a name is written
abbrev pub written_name : List Param → Name → List ℕ
written_name ps (Own x) = x
written_name ps (Par k) = declared_name ps k

-- an expression as a term: a sum or difference gets parentheses
abbrev pub as_term : ExprTree → TermTree
as_term (term a) = a
as_term (plus a b) = factor (group (plus a b))
as_term (minus a b) = factor (group (minus a b))

-- an expression as a factor: a product gets parentheses too
abbrev pub as_factor : ExprTree → FactorTree
as_factor (term (factor a)) = a
as_factor (term (times a b)) = group (term (times a b))
as_factor (plus a b) = group (plus a b)
as_factor (minus a b) = group (minus a b)

abbrev pub canonical_number : ℤ → FactorTree
canonical_number (pos n) = numeral n
canonical_number (negsuc n) = negative n

-- No text has a place with more than three indices; here such a place has its first three.
abbrev mutual
  pub canonical_expr : List Param → Expr → ExprTree
  canonical_expr ps (num z) = term (factor (canonical_number z))
  canonical_expr ps (at x es) = term (factor (cell (canonical_place ps (written_name ps x) es)))
  canonical_expr ps (add a b) = plus (canonical_expr ps a) (as_term (canonical_expr ps b))
  canonical_expr ps (sub a b) = minus (canonical_expr ps a) (as_term (canonical_expr ps b))
  canonical_expr ps (mul a b) = term (times (as_term (canonical_expr ps a)) (as_factor (canonical_expr ps b)))
  canonical_expr ps (par_expr k) = term (factor (cell (variable (declared_name ps k))))

  pub canonical_place : List Param → List ℕ → Exprs → PlaceTree
  canonical_place ps x no_exprs = variable x
  canonical_place ps x (expr a no_exprs) = index_1 x (canonical_expr ps a)
  canonical_place ps x (expr a (expr b no_exprs)) = index_2 x (canonical_expr ps a) (canonical_expr ps b)
  canonical_place ps x (expr a (expr b (expr c more))) = index_3 x (canonical_expr ps a) (canonical_expr ps b) (canonical_expr ps c)
