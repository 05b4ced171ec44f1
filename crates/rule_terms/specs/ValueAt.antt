-- The value term of a rule's expression at a store term: constants as they are, cells as readings of the store, parameters as `ev`.
-- All names of the expression are parameters.
use Rattle.std.specs.Prelude.{ℕ, Bool, true, false, ◌&&◌}
use Rattle.toy_imp.specs.declared.name.Name.{Name}
use Rattle.toy_imp.specs.declared.name.Name.TheVariants.{Own, Par}
use Rattle.toy_imp.specs.Expr.{Expr, Exprs, no_exprs, expr}
use Rattle.toy_imp.specs.Expr as e
use Rattle.rule_terms.specs.Term.{StoreTerm, ValueTerm, num, get, ev, add, sub, mul, ValueTerms, no_terms, term}

abbrev pub is_open : Name → Bool
is_open (Own bytes) = false
is_open (Par k) = true

-- no name of the expression is a program's own
abbrev mutual
  pub names_are_open : Expr → Bool
  names_are_open (e.num z) = true
  names_are_open (e.at x es) = is_open x && all_names_are_open es
  names_are_open (e.add a b) = names_are_open a && names_are_open b
  names_are_open (e.sub a b) = names_are_open a && names_are_open b
  names_are_open (e.mul a b) = names_are_open a && names_are_open b
  names_are_open (e.par_expr k) = true

  pub all_names_are_open : Exprs → Bool
  all_names_are_open no_exprs = true
  all_names_are_open (expr a es) = names_are_open a && all_names_are_open es

-- the number of a name that is a parameter
abbrev pub number_of : Name → ℕ
number_of (Own bytes) = 0
number_of (Par k) = k

unfoldable mutual
  pub value_at : Expr → StoreTerm → ValueTerm
  value_at (e.num z) s = num z
  value_at (e.at x es) s = get (number_of x) (values_at es s) s
  value_at (e.add a b) s = add (value_at a s) (value_at b s)
  value_at (e.sub a b) s = sub (value_at a s) (value_at b s)
  value_at (e.mul a b) s = mul (value_at a s) (value_at b s)
  value_at (e.par_expr k) s = ev k s

  pub values_at : Exprs → StoreTerm → ValueTerms
  values_at no_exprs s = no_terms
  values_at (expr a es) s = term (value_at a s) (values_at es s)
